-- In a list where no two pairs join the same rooms, taking out one pair leaves the others in their order, and still no two join the same rooms.
use Rattle.std.proofs.Common.{◌≡◌, ℕ, zero, suc, ◌<◌, Bool, true, false, cond, not, ◌⊎◌, List, [], ◌∷◌, ◌++◌, length, get_or, Some, filter, sym, refl, ap, ◌∙◌, inl, inr, ⊎_elim, arith}
use Rattle.std.specs.List.{list_any, slice_get, remove}
use Rattle.std.proofs.lemmas.Option.{none-some, same_Some, slice_get-get_or}
use Rattle.std.proofs.lemmas.Bool.{both_ways, cases_Bool, cond_both, not_from_false, or_parts}
use Rattle.std.proofs.lemmas.Bool.Decides.{nat_tests}
use Rattle.sheet.specs.Sheets.{same_pair, same_rooms}
use Rattle.sheet.specs.declared.pair.Pair.{Pair}

-- no two join the same two rooms
abbrev pub Apart : List Pair → Type 0
Apart ps = (i j : ℕ) (p q : Pair) → slice_get ps i ≡ Some p → slice_get ps j ≡ Some q → same_rooms p q ≡ true → i ≡ j

pub rooms_flip : (p q : Pair) → same_rooms p q ≡ true → same_rooms q p ≡ true
rooms_flip p q h = grind (arith, nat_tests)

pub rooms_from_pairs : (p q r : Pair) → same_pair p q ≡ true → same_pair p r ≡ true → same_rooms q r ≡ true
rooms_from_pairs p q r h k = grind (arith, nat_tests)

-- ---- lists by place
module _ {X : Type 0} where
  pub nth_push : (xs : List X) (x : X) (i : ℕ) (y : X) → slice_get (xs ++ x ∷ []) i ≡ Some y → (slice_get xs i ≡ Some y) ⊎ ((i ≡ length xs) × (x ≡ y))
  nth_push [] x zero y e = inr (refl, same_Some x y e)
  nth_push [] x (suc i) y e = absurd (none-some y e)
  nth_push (z ∷ zs) x zero y e = inl e
  nth_push (z ∷ zs) x (suc i) y e = ⊎_elim (λ h. inl h) (λ h. inr (ap suc h.0, h.1)) (nth_push zs x i y e)

  pub any_false : (t : X → Bool) (xs : List X) (i : ℕ) (x : X) → list_any t xs ≡ false → slice_get xs i ≡ Some x → t x ≡ false
  any_false t [] i x h e = absurd (none-some x e)
  any_false t (y ∷ ys) zero x h e = ap t (sym (same_Some y x e)) ∙ (or_parts (t y) (list_any t ys) h).0
  any_false t (y ∷ ys) (suc i) x h e = any_false t ys i x (or_parts (t y) (list_any t ys) h).1 e

  -- what a filter keeps was there
  pub kept_from : (t : X → Bool) (xs : List X) (i : ℕ) (x : X) → slice_get (filter t xs) i ≡ Some x → (k : ℕ) × (slice_get xs k ≡ Some x)
  kept_from t [] i x e = absurd (none-some x e)
  kept_from t (y ∷ ys) i x e = go (t y) i e (kept_from t ys)
    where
      go : (b : Bool) (j : ℕ) → slice_get (cond b (y ∷ filter t ys) (filter t ys)) j ≡ Some x → ((k : ℕ) (z : X) → slice_get (filter t ys) k ≡ Some z → (m : ℕ) × (slice_get ys m ≡ Some z)) → (k : ℕ) × (slice_get (y ∷ ys) k ≡ Some x)
      go true zero f more = (zero, f)
      go true (suc j) f more = let m = more j x f in (suc m.0, m.1)
      go false j f more = let m = more j x f in (suc m.0, m.1)

  -- a filter that everything passes
  pub kept_all : (t : X → Bool) (xs : List X) → ((i : ℕ) (x : X) → slice_get xs i ≡ Some x → t x ≡ true) → filter t xs ≡ xs
  kept_all t [] h = refl
  kept_all t (y ∷ ys) h = rw (h zero y refl) (ap (λ (l : List X). y ∷ l) (kept_all t ys (λ i x e. h (suc i) x e)))

-- ---- pairs that are apart
module _ (p : Pair) (ps : List Pair) where
  pub apart_tail : Apart (p ∷ ps) → Apart ps
  apart_tail h i j q r e f k = omega (arith, h (suc i) (suc j) q r e f k)

  pub apart_head : Apart (p ∷ ps) → (j : ℕ) (q : Pair) → slice_get ps j ≡ Some q → same_rooms p q ≡ true → ⊥
  apart_head h j q e k = omega (arith, h zero (suc j) p q refl e k)

pub apart_cons : (p : Pair) (ps : List Pair) → ((j : ℕ) (q : Pair) → slice_get ps j ≡ Some q → same_rooms p q ≡ true → ⊥) → Apart ps → Apart (p ∷ ps)
apart_cons p ps head tail zero zero q r e f k = refl
apart_cons p ps head tail zero (suc j) q r e f k =
    absurd (head j r f (ap (λ (x : Pair). same_rooms x r) (same_Some p q e) ∙ k))
apart_cons p ps head tail (suc i) zero q r e f k =
    absurd (head i q e (rooms_flip q p (ap (same_rooms q) (same_Some p r f) ∙ k)))
apart_cons p ps head tail (suc i) (suc j) q r e f k = ap suc (tail i j q r e f k)

pub apart_kept : (t : Pair → Bool) (ps : List Pair) → Apart ps → Apart (filter t ps)
apart_kept t [] h = h
apart_kept t (p ∷ ps) h =
    let more = apart_kept t ps (apart_tail p ps h) in
    cond_both (t p) (p ∷ filter t ps) (filter t ps) (λ (l : List Pair). Apart l)
    (λ _. apart_cons p (filter t ps) (λ j q e k. let m = kept_from t ps j q e in apart_head p ps h m.0 q m.1 k) more) (λ _. more)

pub apart_push : (ps : List Pair) (p : Pair) → Apart ps → list_any (same_rooms p) ps ≡ false → Apart (ps ++ p ∷ [])
apart_push ps p h n i j q r e f k =
    ⊎_elim
    (λ a. ⊎_elim (λ b. h i j q r a b k)
    (λ b. absurd (both_ways (same_rooms p q) (any_false (same_rooms p) ps i q n a) (rooms_flip q p (ap (same_rooms q) b.1 ∙ k))))
    (nth_push ps p j r f))
    (λ a. ⊎_elim
    (λ b. absurd (both_ways (same_rooms p r) (any_false (same_rooms p) ps j r n b) (ap (λ (x : Pair). same_rooms x r) a.1 ∙ k)))
    (λ b. a.0 ∙ sym b.0) (nth_push ps p j r f))
    (nth_push ps p i q e)

-- ---- the one pair that is equal, taken out by its place, is what a filter drops
pub removed_is_kept : (p : Pair) (ps : List Pair) (k : ℕ) → Apart ps → k < length ps → same_pair p (get_or ps k p) ≡ true → remove ps k ≡ filter (λ q. not (same_pair p q)) ps
removed_is_kept p [] k h l e = absurd (omega arith)
removed_is_kept p (x ∷ xs) zero h l e =
    rw e (sym (kept_all (λ q. not (same_pair p q)) xs
    (λ j q f. ⊎_elim (λ s. absurd (apart_head x xs h j q f (rooms_from_pairs p x q e s))) (λ s. not_from_false (same_pair p q) s) (cases_Bool (same_pair p q)))))
removed_is_kept p (x ∷ xs) (suc k) h l e =
    let differs : same_pair p x ≡ false = ⊎_elim (λ s. absurd (apart_head x xs h k (get_or xs k p) (slice_get-get_or xs k p (omega arith)) (rooms_from_pairs p x (get_or xs k p) s e))) (λ s. s) (cases_Bool (same_pair p x)) in
    rw differs (ap (λ (l : List Pair). x ∷ l) (removed_is_kept p xs k (apart_tail x xs h) (omega arith) e))
