-- No call at all makes the empty sheet. The check finds it too; a rule of the project keeps it: without it the edit board_new is refused at a limit of the search, and not at a fact.
use Rattle.std.proofs.Common.{[], length, sym, ap, ◌∙◌, subst, arith}
use Rattle.sheet.specs.Sheets.{Sheet}
use Rattle.sheet.specs.Sound.{Sound}
use Rattle.sheet.proofs.Rules.{always_sound}
use Rattle.sheet.proofs.board.Board.new.Goals as goal

pub invariant_of-result : goal.invariant_of-result
invariant_of-result c =
    let e = c.new.ensures.sheet in
    let r = ap (λ (s : Sheet). length s.uses) e ∙ sym c.new.ensures.rooms in
    let m = ap (λ (s : Sheet). length s.pairs) e ∙ sym c.new.ensures.marks in
    record {
      few = omega arith;
      short = omega arith;
      rooms = r;
      marks = m;
      sound = ∣ subst Sound (sym e) (always_sound []) ∣₁;
      made = ∣ ([], e) ∣₁;
    }
