-- Each turn adds the line of one room more.
use Rattle.std.proofs.Common.{◌≡◌, ◌++◌, string_bytes}
use Rattle.journal.proofs.Printing.{rooms_text}
use Rattle.journal.proofs.session.push_rooms.Given as goal

-- the lines of the rooms so far are added
abbrev pub invariant-loop-index : goal.invariant-loop-index
invariant-loop-index l = string_bytes l.out ≡ string_bytes l.initial.out ++ rooms_text l.purpose-items l.index
