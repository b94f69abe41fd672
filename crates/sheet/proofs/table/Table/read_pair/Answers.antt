-- The kind decides whether it is a pair word, and then the ranges of its fields whether it says a pair.
use Rattle.std.proofs.Common.{refl, sym, inl, inr}
use Rattle.std.proofs.lemmas.Result.{err_from_is_err_and}
use Rattle.sheet.proofs.WordKinds.{no_word, pair_word, room_word}
use Rattle.sheet.proofs.table.Table.read_pair.Goals as goal

pub returns-in_err-direction : goal.returns-in_err-direction
returns-in_err-direction c =
    let p = err_from_is_err_and c.from_residual.result c.from_residual.ensures.1 in
    let k = no_word c.args.word c.ranges.word.fits c.in_err-direction.field-0.0 c.in_err-direction.ensures in
    rw (p.1, p.2) (inl (k.1, k.2))

pub returns-in-PairWord : goal.returns-in-PairWord
returns-in-PairWord c =
    let k = pair_word c.args.word c.ranges.word.fits c.in-PairWord.direction (rw c.in-PairWord.is at c.in_ok-direction.ensures) in
    (k.1, sym c.if-pair_in_range.ensures, rw c.to_be_bytes.ensures k.2)

pub returns-in-PairWord-2 : goal.returns-in-PairWord-2
returns-in-PairWord-2 c =
    let k = pair_word c.args.word c.ranges.word.fits c.in-PairWord-2.field-0 (rw c.in-PairWord-2.is at c.in_ok-direction.ensures) in
    inr (k.1, sym c.if-pair_in_range.ensures, refl)

pub returns-in-RoomWord : goal.returns-in-RoomWord
returns-in-RoomWord c =
    let k = room_word c.args.word c.ranges.word.fits (rw c.in-RoomWord.is at c.in_ok-direction.ensures) in
    inl (k.1, refl)
