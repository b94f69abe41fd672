-- Each turn adds the line of one pair more.
use Rattle.std.proofs.Common.{◌≡◌, ◌++◌, take, string_bytes}
use Rattle.journal.proofs.Printing.{pairs_text}
use Rattle.journal.proofs.session.push_pairs.Given as goal

-- the lines of the pairs so far are added
abbrev pub invariant-loop-pair : goal.invariant-loop-pair
invariant-loop-pair l = string_bytes l.out ≡ string_bytes l.initial.out ++ pairs_text (take l.pair-index l.pair-items)
