-- Each call so far was judged on the sheet that the calls before it made, and the sheet is what all of them made.
use Rattle.std.proofs.Common.{◌≡◌, ℕ, ◌<◌, length, get_or, take, Ok, vec_items}
use Rattle.sheet.specs.Boards.{sheet_of}
use Rattle.sheet.specs.Calls.{judged}
use Rattle.sheet.specs.Sound.{Sound}
use Rattle.sheet.specs.declared.edit.Edit.TheVariants.{Enter}
use Rattle.journal.proofs.Running.{made_by}
use Rattle.journal.proofs.run.run.Given as goal

abbrev pub invariant-loop-call : goal.invariant-loop-call
invariant-loop-call l = record {
  sheet : sheet_of l.board ≡ made_by (take l.call-index l.calls);
  sound : Sound (sheet_of l.board);
  as_many : length (vec_items l.replies) ≡ l.call-index;
  each : (k : ℕ) → k < l.call-index → get_or (vec_items l.replies) k (Ok tt) ≡ judged (made_by (take k l.calls)) (get_or l.calls k (Enter 0));
}
