-- The pair is at the place found, and since no two pairs join the same rooms, taking it out leaves just the others.
use Rattle.std.proofs.Common.{◌≡◌, Some, None, ◌∙◌, arith}
use Rattle.std.proofs.lemmas.Result.{err_from_is_err_and}
use Rattle.fault.specs.declared.Fault.TheVariants.{NotHeld}
use Rattle.std.specs.List.{position}
use Rattle.sheet.specs.Calls.{edit}
use Rattle.sheet.specs.Sheets.{same_pair}
use Rattle.sheet.specs.declared.edit.Edit.TheVariants.{Strike}
use Rattle.sheet.proofs.Keeping.{kept, struck, struck_counts}
use Rattle.sheet.proofs.Places.{first_place, passes_nowhere}
use Rattle.sheet.proofs.Ways.{as_found, pair_missing, pair_struck, pair_unread}
use Rattle.sheet.proofs.board.Board.strike.Goals as goal

pub returns-in_err-pair : goal.returns-in_err-pair
returns-in_err-pair c =
    let p = err_from_is_err_and c.from_residual.result c.from_residual.ensures.1 in
    let k = pair_unread c.args.self.now c.args.word c.in_err-pair.field-0.0 c.in_err-pair.ensures in
    record { sheet = k.0; reply = p.1 ∙ (rw p.2 k.1) }

pub returns-in_err-at : goal.returns-in_err-at
returns-in_err-at c =
    let p = c.in_ok-pair.pair in
    let q = err_from_is_err_and c.from_residual-in_err-at.result c.from_residual-in_err-at.ensures.1 in
    let v = c.in_err-at.ensures.value in
    let none : c.place_among.result ≡ None = grind arith in
    let fault : c.in_err-at.field-0.0 ≡ NotHeld = grind arith in
    let nowhere = passes_nowhere (same_pair p) _ (as_found c.args.self.now (position (same_pair p)) _ c.pair_list.ensures _ c.place_among.ensures ∙ none) in
    let k = pair_missing c.args.self.now c.args.word p c.in_ok-pair.ensures nowhere in
    record { sheet = k.0; reply = q.1 ∙ (rw (q.2, fault) k.1) }

pub invariant_of-self : goal.invariant_of-self
invariant_of-self c =
    let b = c.args.self.now in
    let w = c.args.word in
    let p = c.in_ok-pair.pair in
    let t = c.remove.new.self in
    let v = c.in_ok-at.ensures.value in
    let found : c.place_among.result ≡ Some c.in_ok-at.at = grind arith in
    let at = first_place _ p _ (as_found b (position (same_pair p)) _ c.pair_list.ensures _ c.place_among.ensures ∙ found) in
    let e = struck b t p c.in_ok-at.at at c.remove.ensures.sheet in
    let n = struck_counts b t p c.in_ok-at.at at c.remove.ensures.sheet c.remove.ensures.rooms c.remove.ensures.marks in
    kept b t (edit (Strike w)) (pair_struck b w p c.in_ok-pair.ensures t c.in_ok-at.at at e).0 n.0 n.1

pub returns : goal.returns
returns c =
    let b = c.args.self.now in
    let p = c.in_ok-pair.pair in
    let t = c.remove.new.self in
    let v = c.in_ok-at.ensures.value in
    let found : c.place_among.result ≡ Some c.in_ok-at.at = grind arith in
    let at = first_place _ p _ (as_found b (position (same_pair p)) _ c.pair_list.ensures _ c.place_among.ensures ∙ found) in
    let k = pair_struck b c.args.word p c.in_ok-pair.ensures t c.in_ok-at.at at (struck b t p c.in_ok-at.at at c.remove.ensures.sheet) in
    record { sheet = k.0; reply = k.1 }
