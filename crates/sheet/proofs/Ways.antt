-- Each way through a call answers as judged: the tests that led there decide the row of refusals, and the table has what an accepted call makes.
use Rattle.std.proofs.Common.{◌≡◌, ℕ, ◌<◌, true, false, List, length, Ok, Err, sym, ap, ◌∙◌, arith}
use Rattle.std.proofs.lemmas.List.Folds.{list_any_at}
use Rattle.fault.specs.declared.Fault.{Fault}
use Rattle.fault.specs.declared.Fault.TheVariants.{AlreadyJoined, Full, NotHeld, SameRoom}
use Rattle.sheet.specs.Boards.{sheet_of}
use Rattle.sheet.specs.Reads.{PairRead, PairUnread, Read, Unread}
use Rattle.sheet.specs.Sheets.{holds, joined, same_pair, with_pair, with_room, without_pair}
use Rattle.sheet.specs.Tables.{sheet_in}
use Rattle.sheet.specs.declared.board.Board.{Board}
use Rattle.sheet.specs.declared.edit.Edit.TheVariants.{Enter, Strike}
use Rattle.sheet.specs.declared.pair.Pair.{Pair}
use Rattle.sheet.specs.declared.table.Table.{Table}
use Rattle.sheet.specs.declared.word.Entry.TheVariants.{Room, Touch}
use Rattle.sheet.proofs.Places.{Place}
use Rattle.sheet.proofs.Replies as replies
use Rattle.sheet.proofs.Replies.{Answers, accept, refuse}

-- what a search of the held pairs finds, it finds in the sheet
pub as_found : {X : Type 0} (b : Board) (search_in : List Pair → X) (held : List Pair) → held ≡ (sheet_of b).pairs → (r : X) → r ≡ search_in held → search_in (sheet_of b).pairs ≡ r
as_found b search_in held h r e = ap search_in (sym h) ∙ sym e

-- a word is read with as many rooms as the table counts, which are those of the sheet
module _ (b : Board) (w : ℕ) where
  pub entry_unread : (f : Fault) → Unread b.table.rooms w f → Answers (sheet_of b) (Enter w) (Err f) (sheet_of b)
  entry_unread f h = refuse (sheet_of b) (Enter w) f (replies.enter_unread (sheet_of b) w f (rw b.rooms h))

  module _ (u : ℕ) (h : Read b.table.rooms w (Room u)) where
    pub room_full : b.table.rooms ≡ 200 → Answers (sheet_of b) (Enter w) (Err Full) (sheet_of b)
    room_full e = refuse (sheet_of b) (Enter w) Full (replies.room_full (sheet_of b) w u h (omega (arith, b.rooms)))

    pub room_entered : (t : Table) → (b.table.rooms ≡ 200 → ⊥) → sheet_in t ≡ with_room (sheet_of b) u → Answers (sheet_of b) (Enter w) (Ok tt) (sheet_in t)
    room_entered t n e =
        let l : length (sheet_of b).uses < 200 = omega (arith, b.rooms, b.few) in
        accept (sheet_of b) (Enter w) (sheet_in t) (replies.room_taken (sheet_of b) w u h l) (e ∙ replies.room_done (sheet_of b) w u h)

  module _ (p : Pair) (h : Read b.table.rooms w (Touch p)) where
    read : Read (length (sheet_of b).uses) w (Touch p)
    read = rw b.rooms h

    pub pair_full : b.table.marks ≡ 600 → Answers (sheet_of b) (Enter w) (Err Full) (sheet_of b)
    pair_full e = refuse (sheet_of b) (Enter w) Full (replies.pair_full (sheet_of b) w p read (omega (arith, b.marks)))

    module _ (n : b.table.marks ≡ 600 → ⊥) where
      left : length (sheet_of b).pairs < 600
      left = omega (arith, b.marks, b.short)

      pub pair_itself : p.first ≡ p.second → Answers (sheet_of b) (Enter w) (Err SameRoom) (sheet_of b)
      pair_itself e = refuse (sheet_of b) (Enter w) SameRoom (replies.pair_itself (sheet_of b) w p read left e)

      module _ (d : p.first ≡ p.second → ⊥) where
        pub pair_joined : joined (sheet_of b) p ≡ true → Answers (sheet_of b) (Enter w) (Err AlreadyJoined) (sheet_of b)
        pair_joined j = refuse (sheet_of b) (Enter w) AlreadyJoined (replies.pair_joined (sheet_of b) w p read left d j)

        pub pair_entered : (t : Table) → joined (sheet_of b) p ≡ false → sheet_in t ≡ with_pair (sheet_of b) p → Answers (sheet_of b) (Enter w) (Ok tt) (sheet_in t)
        pair_entered t j e = accept (sheet_of b) (Enter w) (sheet_in t) (replies.pair_taken (sheet_of b) w p read left d j) (e ∙ replies.pair_done (sheet_of b) w p read)

  pub pair_unread : (f : Fault) → PairUnread b.table.rooms w f → Answers (sheet_of b) (Strike w) (Err f) (sheet_of b)
  pair_unread f h = refuse (sheet_of b) (Strike w) f (replies.strike_unread (sheet_of b) w f (rw b.rooms h))

  module _ (p : Pair) (h : PairRead b.table.rooms w p) where
    pair_read : PairRead (length (sheet_of b).uses) w p
    pair_read = rw b.rooms h

    pub pair_missing : holds (sheet_of b) p ≡ false → Answers (sheet_of b) (Strike w) (Err NotHeld) (sheet_of b)
    pair_missing e = refuse (sheet_of b) (Strike w) NotHeld (replies.strike_missing (sheet_of b) w p pair_read e)

    pub pair_struck : (t : Table) (k : ℕ) → Place (sheet_of b).pairs p k → sheet_in t ≡ without_pair (sheet_of b) p → Answers (sheet_of b) (Strike w) (Ok tt) (sheet_in t)
    pair_struck t k at e =
        let here = list_any_at (same_pair p) (sheet_of b).pairs k p at.within at.here in
        accept (sheet_of b) (Strike w) (sheet_in t) (replies.strike_taken (sheet_of b) w p pair_read here) (e ∙ replies.strike_done (sheet_of b) w p pair_read)
