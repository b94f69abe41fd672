-- The low 28 bits lie from 1 to 255 exactly when bits 27 to 8 are zero and bits 7 to 0 are not.
use Rattle.std.proofs.Common.{◌≡◌, ◌%◌, ◌&&◌, nat_le, ◌∙◌, arith, rules}
use Rattle.std.proofs.lemmas.Bool.Decides.{nat_tests}
use Rattle.sheet.specs.Words.{room_fits}
use Rattle.sheet.proofs.word.room_in_range.Goals as goal

pub returns : goal.returns
unfolding room_fits
returns c =
    let field = c.args.word % 268435456 in
    let within : c.contains.result ≡ (nat_le 1 field && nat_le field 255) = search rules in
    within ∙ grind (arith, nat_tests)
