-- One call more at the end is made on the sheet that the calls before it made.
use Rattle.std.proofs.Common.{◌≡◌, ℕ, ◌+◌, ◌<◌, List, [], ◌∷◌, map, length, get_or, take, Some, Ok, Result, ap, ◌∙◌, arith}
use Rattle.std.proofs.lemmas.List.{map_push, take_more}
use Rattle.std.proofs.lemmas.Option.{get_or_from_slice_get, slice_get-get_or, slice_get_within}
use Rattle.fault.specs.declared.Fault.{Fault}
use Rattle.sheet.specs.Calls.{after, edit, judged, sheet_after}
use Rattle.sheet.specs.Sheets.{Sheet, empty}
use Rattle.sheet.specs.declared.edit.Edit.{Edit}
use Rattle.sheet.specs.declared.edit.Edit.TheVariants.{Enter}
use Rattle.sheet.proofs.Rules.{run_append}
use Rattle.journal.specs.Runs.{JudgedInOrder}

abbrev pub made_by : List Edit → Sheet
made_by es = sheet_after (map edit es)

-- the sheet after one call more
pub one_call_more : (es : List Edit) (i : ℕ) (d : Edit) → i < length es → made_by (take (i + 1) es) ≡ after (made_by (take i es)) (edit (get_or es i d))
one_call_more es i d l =
    let e = get_or es i d in
    ap made_by (take_more es i d l) ∙ ap sheet_after (map_push edit (take i es) e) ∙ run_append empty (map edit (take i es)) (edit e ∷ [])

-- as many replies as calls, and the reply at each place is the judged one
pub judged_in_order : (es : List Edit) (rs : List (Result (Unit {0}) Fault)) → length rs ≡ length es
    → ((k : ℕ) → k < length es → get_or rs k (Ok tt) ≡ judged (made_by (take k es)) (get_or es k (Enter 0))) → JudgedInOrder es rs
judged_in_order es rs n h = record {
  as_many = n;
  each = λ k e at.
      let within = slice_get_within es k e at in
      slice_get-get_or rs k (Ok tt) (omega arith) ∙ ap Some (h k within ∙ ap (judged (made_by (take k es))) (get_or_from_slice_get es k e (Enter 0) at));
}
