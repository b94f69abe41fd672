-- The reply to a call follows row by row from what is known of its word and its sheet.
use Rattle.std.proofs.Common.{◌≡◌, ℕ, ◌<◌, ◌≤◌, Bool, true, false, cond, eqb, List, [], ◌∷◌, length, is_ok, Ok, Err, Result, sym, refl, ap, inl, inr, arith}
use Rattle.std.specs.List.{AllByRecursion}
use Rattle.std.proofs.lemmas.Bool.{false≢true, le-leb, lt-leb, eq-eqb, ne_eqb}
use Rattle.std.proofs.lemmas.Bool.Decides.{nat_tests}
use Rattle.fault.specs.declared.Fault.{Fault}
use Rattle.fault.specs.declared.Fault.TheVariants.{Full, SameRoom, AlreadyJoined, NotHeld}
use Rattle.sheet.specs.Calls.{Row, after, done, edit, first_told, judged, refusals}
use Rattle.sheet.specs.Reads.{PairRead, PairUnread, Read, Unread}
use Rattle.sheet.specs.Sheets.{Sheet, holds, joined, with_pair, with_room, without_pair}
use Rattle.sheet.specs.Words.{is_pair, is_room, pair_in}
use Rattle.sheet.specs.declared.edit.Edit.{Edit}
use Rattle.sheet.specs.declared.edit.Edit.TheVariants.{Enter, Strike}
use Rattle.sheet.specs.declared.pair.Pair.{Pair}
use Rattle.sheet.specs.declared.word.Entry.TheVariants.{Room, Touch}

pub room_not_pair : (w : ℕ) → is_room w ≡ true → is_pair w ≡ false
unfolding is_room is_pair
room_not_pair w h = grind (arith, nat_tests)

-- the call leaves t and answers r
abbrev pub Answers : Sheet → Edit → Result (Unit {0}) Fault → Sheet → Type 0
Answers s e r t = (t ≡ after s (edit e)) × (r ≡ judged s e)

pub refuse : (s : Sheet) (e : Edit) (f : Fault) → judged s e ≡ Err f → Answers s e (Err f) s
refuse s e f h = (rw h, sym h)

pub accept : (s : Sheet) (e : Edit) (t : Sheet) → judged s e ≡ Ok tt → t ≡ done s e → Answers s e (Ok tt) t
accept s e t h d = (rw h d, sym h)

-- no refusal applies to a call that is accepted
pub none_applies : (rs : List Row) → is_ok (first_told rs) ≡ true → AllByRecursion (λ r. r.applies ≡ false) rs
none_applies [] h = tt
none_applies (r ∷ rs) h = go r.applies (first_told rs) h (none_applies rs)
  where
    go : (b : Bool) (rest : Result (Unit {0}) Fault) → is_ok (cond b (Err r.refusal) rest) ≡ true → (is_ok rest ≡ true → AllByRecursion (λ x. x.applies ≡ false) rs) → (b ≡ false) × AllByRecursion (λ x. x.applies ≡ false) rs
    go true rest k more = absurd (false≢true k)
    go false rest k more = (refl, more k)

module _ (s : Sheet) (w : ℕ) where
  pub enter_unread : (f : Fault) → Unread (length s.uses) w f → judged s (Enter w) ≡ Err f
  unfolding judged
  enter_unread f (inl h) = rw (h.0, h.1, h.2)
  enter_unread f (inr h) = go h.1
    where
      go : PairUnread (length s.uses) w f → first_told (refusals s (Enter w)) ≡ Err f
      go (inl k) = rw (h.0, k.0, k.1)
      go (inr k) = rw (h.0, k.0, k.1, k.2)

  module _ (u : ℕ) (h : Read (length s.uses) w (Room u)) where
    pub room_full : 200 ≤ length s.uses → judged s (Enter w) ≡ Err Full
    unfolding judged
    room_full l = let e = le-leb 200 (length s.uses) l in rw (h.0, h.1, e)

    pub room_taken : length s.uses < 200 → judged s (Enter w) ≡ Ok tt
    unfolding judged
    room_taken l = let e = lt-leb 200 (length s.uses) l in let p = room_not_pair w h.0 in rw (h.0, h.1, e, p)

    pub room_done : with_room s u ≡ done s (Enter w)
    room_done = rw (h.0, h.2)

  module _ (p : Pair) (h : Read (length s.uses) w (Touch p)) where
    pub pair_full : 600 ≤ length s.pairs → judged s (Enter w) ≡ Err Full
    unfolding judged
    pair_full l = let e = le-leb 600 (length s.pairs) l in rw (h.0, h.1.0, h.1.1, e)

    module _ (l : length s.pairs < 600) where
      pub pair_itself : p.first ≡ p.second → judged s (Enter w) ≡ Err SameRoom
      unfolding judged
      pair_itself d =
          let e = lt-leb 600 (length s.pairs) l in
          let q : eqb (pair_in w).first (pair_in w).second ≡ true = rw (← h.1.2) (eq-eqb p.first p.second d) in
          rw (h.0, h.1.0, h.1.1, e, q)

      module _ (d : p.first ≡ p.second → ⊥) where
        different : eqb (pair_in w).first (pair_in w).second ≡ false
        different = rw (← h.1.2) (ne_eqb p.first p.second d)

        pub pair_joined : joined s p ≡ true → judged s (Enter w) ≡ Err AlreadyJoined
        unfolding judged
        pair_joined k =
            let e = lt-leb 600 (length s.pairs) l in
            let q = different in
            let j : joined s (pair_in w) ≡ true = rw (← h.1.2) k in
            rw (h.0, h.1.0, h.1.1, e, q, j)

        pub pair_taken : joined s p ≡ false → judged s (Enter w) ≡ Ok tt
        unfolding judged
        pair_taken k =
            let e = lt-leb 600 (length s.pairs) l in
            let q = different in
            let j : joined s (pair_in w) ≡ false = rw (← h.1.2) k in
            rw (h.0, h.1.0, h.1.1, e, q, j)

    pub pair_done : with_pair s p ≡ done s (Enter w)
    pair_done = rw (h.0, h.1.2)

  pub strike_unread : (f : Fault) → PairUnread (length s.uses) w f → judged s (Strike w) ≡ Err f
  unfolding judged
  strike_unread f (inl k) = rw (k.0, k.1)
  strike_unread f (inr k) = rw (k.0, k.1, k.2)

  module _ (p : Pair) (h : PairRead (length s.uses) w p) where
    pub strike_missing : holds s p ≡ false → judged s (Strike w) ≡ Err NotHeld
    unfolding judged
    strike_missing k = let j : holds s (pair_in w) ≡ false = rw (← h.2) k in rw (h.0, h.1, j)

    pub strike_taken : holds s p ≡ true → judged s (Strike w) ≡ Ok tt
    unfolding judged
    strike_taken k = let j : holds s (pair_in w) ≡ true = rw (← h.2) k in rw (h.0, h.1, j)

    pub strike_done : without_pair s p ≡ done s (Strike w)
    strike_done = ap (without_pair s) h.2
