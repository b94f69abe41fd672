-- The reply to a line.
use Rattle.std.specs.Prelude.{Result}
use Rattle.journal.specs.declared.reply.LineError.{LineError}

-- it was carried out, or why it was not
abbrev pub Reply : Type 0
Reply = Result (Unit {0}) LineError
