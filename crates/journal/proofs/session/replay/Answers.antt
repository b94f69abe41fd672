-- A fresh session was fed nothing, then the whole text, and then finished.
use Rattle.std.proofs.Common.{[], string_bytes}
use Rattle.journal.specs.Transcripts.{transcript}
use Rattle.journal.proofs.Cutting.{cut_law}
use Rattle.journal.proofs.Feeding.{adds_all, adds_then}
use Rattle.journal.proofs.session.replay.Goals as goal

pub returns-in_err-feed-clause-lines : goal.returns-in_err-feed-clause-lines
returns-in_err-feed-clause-lines c = cut_law c.args.text.now

pub returns-in_err-finish-clause-lines : goal.returns-in_err-finish-clause-lines
returns-in_err-finish-clause-lines c = cut_law c.args.text.now

pub returns-clause-lines : goal.returns-clause-lines
returns-clause-lines c = cut_law c.args.text.now

pub returns-clause-transcript : goal.returns-clause-transcript
returns-clause-transcript c =
    let t = c.args.text.now in
    let fed = c.in_ok-feed.ensures [] c.new-session.ensures in
    let done = c.in_ok-finish.ensures t fed.0 in
    adds_all (transcript t) (string_bytes c.new-out.result) (string_bytes c.finish.new.out) c.new-out.ensures.bytes (adds_then {q = string_bytes c.finish.new.out} fed.1 done)
