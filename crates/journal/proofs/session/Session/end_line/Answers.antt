-- What is kept of the line tells what it says, and its reply is judged, counted and printed.
use Rattle.std.proofs.Common.{ℕ, List, string_bytes, ap, ◌∙◌}
use Rattle.std.proofs.lemmas.Result.{IfOk-weaker}
use Rattle.sheet.specs.Boards.{sheet_of}
use Rattle.sheet.specs.Calls.{run}
use Rattle.journal.specs.Lines.{said}
use Rattle.journal.specs.Transcripts.{answered, called}
use Rattle.journal.specs.declared.session.Session.{Session}
use Rattle.journal.proofs.Feeding.{fed_end}
use Rattle.journal.proofs.session.Session.end_line.Goals as goal

pub returns : goal.returns
returns c =
    let j = c.args.self.now in
    let k : Session = record { board = c.answer-reply.new.board; tally = c.note.new.self; line = c.clear.new.self } in
    let is = c.answer-reply.ensures.reply ∙ ap (λ (x : List ℕ). answered (sheet_of j.board) (said x)) c.as_slice.ensures.value in
    let s = c.answer-reply.ensures.sheet ∙ ap (λ (x : List ℕ). run (sheet_of j.board) (called (said x))) c.as_slice.ensures.value in
    IfOk-weaker c.push_line.result _ _
    (λ _ o. fed_end j k c.answer-reply.result (string_bytes c.args.out.now) is s c.note.ensures c.clear.ensures (string_bytes c.push_line.new.out) o)
    c.push_line.ensures
