-- The low 28 bits lie below 2 ^ 16 exactly when bits 27 to 16 are zero.
use Rattle.std.proofs.Common.{arith}
use Rattle.std.proofs.lemmas.Bool.Decides.{nat_tests}
use Rattle.sheet.specs.Words.{pair_fits}
use Rattle.sheet.proofs.table.Table.pair_in_range.Goals as goal
use Rattle.sheet.proofs.table.Table.pair_in_range.Goals.{then-word, else-word}

pub returns-then-is_held : goal.returns-then-is_held
unfolding pair_fits
returns-then-is_held c = elim c.if-word.branch [ then-word w ↦ grind (arith, nat_tests) | else-word w ↦ grind (arith, nat_tests) ]

pub returns-else-is_held : goal.returns-else-is_held
unfolding pair_fits
returns-else-is_held c = elim c.if-word.branch [ then-word w ↦ grind (arith, nat_tests) | else-word w ↦ grind (arith, nat_tests) ]
