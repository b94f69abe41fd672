-- Everything behind the gap stands one place further up, so the front lacks just the pair at `at`.
use Rattle.std.proofs.Common.{◌-◌, take, sym, ap, ◌∙◌, arith}
use Rattle.sheet.specs.Tables.{sheet_in, with_pairs}
use Rattle.sheet.proofs.Shifts.{closed_gap, nth_front}
use Rattle.sheet.proofs.table.Table.remove.Goals as goal

pub returns-clause-sheet : goal.returns-clause-sheet
returns-clause-sheet c =
    let t = c.args.self.now in
    ap (with_pairs (sheet_in t)) (ap (take (t.marks - 1)) c.copy_within.ensures.after
    ∙ closed_gap t.pairs c.args.at t.marks _ _ (omega arith) (omega arith) c.requires.within (omega (arith, c.requires.bound)))

pub returns-clause-gone : goal.returns-clause-gone
returns-clause-gone c = sym (nth_front c.args.self.now.pairs c.args.at c.args.self.now.marks _ c.requires.within (omega (arith, c.requires.bound)))
