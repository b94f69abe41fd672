-- The kind decides whether the word is read as a room or as a pair, and then the ranges of its fields whether it says one.
use Rattle.std.proofs.Common.{refl, sym, inl, inr, arith, rules}
use Rattle.std.proofs.lemmas.Result.{MatchResult-weaker, err_from_is_err_and}
use Rattle.sheet.proofs.WordKinds.{no_word, pair_word, room_word, touched}
use Rattle.sheet.proofs.table.Table.read_entry.Goals as goal

pub returns-in_err-try_from : goal.returns-in_err-try_from
returns-in_err-try_from c =
    let p = err_from_is_err_and c.from_residual.result c.from_residual.ensures.1 in
    let k = no_word c.args.word c.ranges.word.fits c.in_err-try_from.field-0.0 c.in_err-try_from.ensures in
    rw (p.1, p.2) (inr (k.0, inl (k.1, k.2)))

pub returns-in-RoomWord : goal.returns-in-RoomWord
returns-in-RoomWord c =
    let k = room_word c.args.word c.ranges.word.fits (rw c.in-RoomWord.is at c.in_ok-try_from.ensures) in
    (k.0, sym c.if-room_in_range.ensures, rw c.to_be_bytes.ensures (omega arith))

pub returns-in-RoomWord-2 : goal.returns-in-RoomWord-2
returns-in-RoomWord-2 c =
    let k = room_word c.args.word c.ranges.word.fits (rw c.in-RoomWord-2.is at c.in_ok-try_from.ensures) in
    inl (k.0, sym c.if-room_in_range.ensures, refl)

pub returns-in-PairWord : goal.returns-in-PairWord
returns-in-PairWord c =
    let k = pair_word c.args.word c.ranges.word.fits c.in-PairWord.field-0 (rw c.in-PairWord.is at c.in_ok-try_from.ensures) in
    touched c.args.self.now.rooms c.args.word c.read_pair.result c.map.result k.0 c.read_pair.ensures (MatchResult-weaker c.read_pair.result c.map.ensures.cases (λ x h. search rules) (λ f h. h))
