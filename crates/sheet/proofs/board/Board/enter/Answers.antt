-- A word that cannot be read is refused as reading it was, and the sheet stays.
use Rattle.std.proofs.Common.{◌∙◌}
use Rattle.std.proofs.lemmas.Result.{err_from_is_err_and}
use Rattle.sheet.proofs.Ways.{entry_unread}
use Rattle.sheet.proofs.board.Board.enter.Goals as goal

pub returns-in_err-purpose : goal.returns-in_err-purpose
returns-in_err-purpose c =
    let p = err_from_is_err_and c.from_residual.result c.from_residual.ensures.1 in
    let k = entry_unread c.args.self.now c.args.word c.in_err-purpose.field-0.0 c.in_err-purpose.ensures in
    record { sheet = k.0; reply = p.1 ∙ (rw p.2 k.1) }
