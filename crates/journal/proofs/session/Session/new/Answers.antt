-- Nothing was fed, so there is no line and no call.
use Rattle.std.proofs.Common.{arith}
use Rattle.journal.specs.Cuts.{cut}
use Rattle.journal.specs.Transcripts.{replies}
use Rattle.journal.proofs.session.Session.new.Goals as goal

pub returns : goal.returns
unfolding cut replies
returns c = record {
  sheet = c.new.ensures;
  tally = record { calls = omega arith; accepted = omega arith; refused = omega arith; unreadable = omega arith };
  line = c.new-2.ensures;
}
