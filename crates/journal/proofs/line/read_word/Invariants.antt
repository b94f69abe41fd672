-- The bytes so far are all digits, and the value is the number that they spell.
use Rattle.std.proofs.Common.{◌≡◌, true, take, is_some}
use Rattle.std.specs.List.{list_all}
use Rattle.journal.specs.Lines.{digit, spelled}
use Rattle.journal.proofs.line.read_word.Given as goal

abbrev pub invariant-loop-byte : goal.invariant-loop-byte
invariant-loop-byte l =
    (l.value ≡ spelled (take l.byte-index l.text))
    × (list_all (λ c. is_some (digit c)) (take l.byte-index l.text) ≡ true)
