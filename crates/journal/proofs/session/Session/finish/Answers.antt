-- The last line is ended if there is one, and then the sheet and the summary are printed.
use Rattle.std.proofs.Common.{◌≡◌, ℕ, List, [], length, string_bytes, refl, sym, ap, ◌∙◌}
use Rattle.std.proofs.lemmas.List.{nil_from_length}
use Rattle.std.proofs.lemmas.Result.{IfOk-weaker}
use Rattle.std.proofs.lemmas.Bool.{eqb-false, eqb-true}
use Rattle.journal.specs.Sessions.{After}
use Rattle.journal.proofs.Finishing.{Ready, finished, ready_fed, ready_now}
use Rattle.journal.proofs.session.Session.finish.Goals as goal
use Rattle.journal.proofs.session.Session.finish.Goals.{then-not-is_empty+in_ok-end_line, else-not-is_empty}

pub returns : goal.returns
returns c =
    let j = c.args.self in
    let k = c.if-not-is_empty.self in
    let out = string_bytes c.args.out.now in
    let o = string_bytes c.if-not-is_empty.out in
    let ready : (t : List ℕ) → After j t → Ready k t out o =
    λ t h. elim c.if-not-is_empty.branch [
      | then-not-is_empty+in_ok-end_line w ↦
          let some : j.line.items ≡ [] → ⊥ = λ e. eqb-false (length j.line.items) 0 (sym c.is_empty.ensures ∙ w.if-not-is_empty.true) (ap length e) in
          rw (w.self-is, w.out-is) (ready_fed j w.end_line.new.self t out (string_bytes w.end_line.new.out) h some w.in_ok-end_line.ensures)
      | else-not-is_empty w ↦
          let none : j.line.items ≡ [] = nil_from_length j.line.items (eqb-true (length j.line.items) 0 (sym c.is_empty.ensures ∙ w.if-not-is_empty.false)) in
          rw (w.self-is, w.out-is) (ready_now j t out h none)
    ] in
    IfOk-weaker c.push_line.result _ _
    (λ _ last t h. finished k _ o (string_bytes c.push_rooms.new.out) (string_bytes c.push_pairs.new.out) (string_bytes c.push_line.new.out)
    c.in_ok-push_rooms.ensures c.in_ok-push_pairs.ensures last refl c.rooms.ensures.count c.pairs.ensures.count t out (ready t h))
    c.push_line.ensures
