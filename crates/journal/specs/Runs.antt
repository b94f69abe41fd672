-- A list of calls run from a fresh board.
use Rattle.std.specs.Prelude.{◌≡◌, ℕ, List, map, length, take, Some, Result}
use Rattle.std.specs.List.{slice_get}
use Rattle.fault.specs.declared.Fault.{Fault}
use Rattle.sheet.specs.Calls.{edit, judged, sheet_after}
use Rattle.sheet.specs.declared.edit.Edit.{Edit}

-- as many replies as calls, and the reply to each call is the judged one on the sheet that the calls before it made, refused ones included
pub record JudgedInOrder (es : List Edit) (rs : List (Result (Unit {0}) Fault)) : Type 0 where
  pub as_many : length rs ≡ length es
  pub each : (k : ℕ) (e : Edit) → slice_get es k ≡ Some e → slice_get rs k ≡ Some (judged (sheet_after (map edit (take k es))) e)
