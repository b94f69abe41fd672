-- Each turn feeds one byte more.
use Rattle.std.proofs.Common.{take, string_bytes}
use Rattle.journal.specs.Sessions.{Fed}
use Rattle.journal.proofs.session.Session.feed.Given as goal

-- the bytes so far have been fed
abbrev pub invariant-loop-byte : goal.invariant-loop-byte
invariant-loop-byte l = Fed l.initial.self l.self (take l.byte-index l.bytes) (string_bytes l.initial.out) (string_bytes l.out)
