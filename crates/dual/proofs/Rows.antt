-- Rooms that lie in a row and leave no gap between two positions are listed by walking along the row: each one is followed by the room that holds the place where it ends.
use Rattle.std.proofs.Common.{◌≡◌, ℕ, zero, suc, ◌<◌, ◌↔◌, List, [], ◌∷◌, Some, None, sym, refl, ap, ◌∙◌, subst, inl, inr, arith}
use native.Mathlib.Decide.{dec_lt}
use Rattle.std.specs.List.{slice_get}
use Rattle.dual.proofs.Intervals.{Order, Lt, In, Linked, Chained, Reaches, eq_le, eq_ge, lt_le, lt_le_lt, le_lt_lt, later, linked_before, linked_covers, lower, lower_more, next, reverse}

-- the list has exactly the rooms of P, each with the next in R; the first begins at s or earlier
pub record Row {E : Type 0} (le : E → E → Type 0) (lo : ℕ → E) (R : ℕ → ℕ → Type 0) (s : E) (P : ℕ → Type 0) (rooms : List ℕ) : Type 0 where
  pub exact : (r : ℕ) → In r rooms ↔ P r
  pub chain : Chained R rooms
  pub begins : (p : ℕ) (ps : List ℕ) → rooms ≡ p ∷ ps → le (lo p) s

more : (P : ℕ → Type 0) (q : ℕ) (qs : List ℕ) → P q → ((r : ℕ) → In r qs → P r) → (r : ℕ) → In r (q ∷ qs) → P r
more P q qs here all r (inl e) = subst P (sym e) here
more P q qs here all r (inr m) = all r m

-- ---- every position from s to e lies in a room of P
module _ {E : Type 0} {le : E → E → Type 0} (o : Order E le) (lo hi : ℕ → E) (count : ℕ) (P : ℕ → Type 0) (few : (r : ℕ) → P r → r < count) (s e : E)
    (find : (x : E) → le s x → Lt le x e → (q : ℕ) × P q × (le (lo q) x × Lt le x (hi q))) where
  -- how many rooms end after x
  left : E → ℕ
  left x = lower (reverse o) hi x count

  falls : (x : E) (q : ℕ) → P q → Lt le x (hi q) → left (hi q) < left x
  unfolding left
  falls x q here below = lower_more (reverse o) hi (hi q) x (lt_le o below) q (o.reflexive _) below count (few q here)

  climb_from : (x : E) → le x e → (n : ℕ) (y : E) → left y < n → le s y → Lt le y x → (q : ℕ) × P q × (le x (hi q) × Lt le (lo q) x)
  climb_from x end zero y small from to = absurd (omega arith)
  climb_from x end (suc n) y small from to =
      let (q, here, w) = find y from (lt_le_lt o to end) in
      elim (o.decide x (hi q)) [
        | inl k ↦ (q, here, (k, le_lt_lt o w.0 to))
        | inr k ↦
            let f : left (hi q) < left y = falls y q here w.1 in
            climb_from x end n (hi q) (omega arith) (o.transitive from (lt_le o w.1)) k
      ]

  -- then a room of P ends at x or later and begins before
  pub climb : (x : E) → le x e → Lt le s x → (q : ℕ) × P q × (le x (hi q) × Lt le (lo q) x)
  climb x end from = climb_from x end (suc (left s)) s (omega arith) (o.reflexive s) from

  module _ (R : ℕ → ℕ → Type 0) (meets : (p q : ℕ) → R p q → hi p ≡ lo q) (link : (p q : ℕ) → P p → P q → hi p ≡ lo q → R p q)
      (same : (p q : ℕ) → P p → P q → Lt le (lo p) (hi q) × Lt le (lo q) (hi p) → p ≡ q) where
    walk : (n : ℕ) (y : E) → left y < n → le s y → Lt le y e →
        (q : ℕ) × (qs : List ℕ) × (le (lo q) y × Lt le y (hi q)) × ((r : ℕ) → In r (q ∷ qs) → P r) × Linked R q qs × Reaches le hi e q qs
    walk zero y small from to = absurd (omega arith)
    walk (suc n) y small from to =
        let (q, here, w) = find y from to in
        elim (o.decide e (hi q)) [
          | inl k ↦ (q, [], w, more P q [] here (λ r m. absurd m), tt, k)
          | inr k ↦
              let f : left (hi q) < left y = falls y q here w.1 in
              let (p, ps, u, all, chain, reach) = walk n (hi q) (omega arith) (o.transitive from (lt_le o w.1)) k in
              let m : hi q ≡ lo p = next o lo hi q p (same q p here (all p (inl refl))) (le_lt_lt o w.0 w.1) u.0 u.1 in
              (q, p ∷ ps, w, more P q (p ∷ ps) here all, (link q p here (all p (inl refl)) m, chain), reach)
        ]

    head_same : {A : Type 0} {x y : A} {xs ys : List A} → x ∷ xs ≡ y ∷ ys → x ≡ y
    head_same d = cc

    -- the list of the row, which is not empty
    pub row : Lt le s e → ((r : ℕ) → P r → Lt le (lo r) e × Lt le s (hi r)) → ((r : ℕ) → P r → Lt le (lo r) (hi r)) → (p : ℕ) × (ps : List ℕ) × Row le lo R s P (p ∷ ps)
    row wide reach proper =
        let (q, qs, w, all, chain, to) = walk (suc (left s)) s (omega arith) (o.reflexive s) wide in
        let known : (r : ℕ) (x : E) → P r → le s x → Lt le x e → le (lo r) x → Lt le x (hi r) → In r (q ∷ qs) =
        λ r x here from below low high.
        let (p, m, u) = linked_covers o R lo hi meets x e q qs chain (o.transitive w.0 from) to below in
        subst (λ z. In z (q ∷ qs)) (same p r (all p m) here (le_lt_lt o u.0 high, le_lt_lt o low u.1)) m in (
          q,
          qs,
          record {
            exact = λ r. (
              all r,
              λ here. elim (o.total s (lo r)) [
                | inl k ↦ known r (lo r) here k (reach r here).0 (o.reflexive _) (proper r here)
                | inr k ↦ known r s here (o.reflexive _) wide k (reach r here).1
              ],
            );
            chain = chain;
            begins = λ p ps d. o.transitive (eq_ge o (ap lo (head_same d))) w.0;
          },
        )

-- ---- what a row says
module _ {E : Type 0} {le : E → E → Type 0} (o : Order E le) {lo : ℕ → E} {R : ℕ → ℕ → Type 0} {s : E} {P : ℕ → Type 0} where
  -- the room of a row that has none before it begins at s or earlier
  pub first_begins : (ps : List ℕ) → Row le lo R s P ps → (p : ℕ) → P p → ((q : ℕ) → P q → R q p → ⊥) → le (lo p) s
  first_begins [] row p here none = absurd ((row.exact p).1 here)
  first_begins (q ∷ qs) row p here none =
      elim ((row.exact p).1 here) [
        | inl e ↦ o.transitive (eq_le o (ap lo e)) (row.begins q qs refl)
        | inr m ↦ let (b, n, t) = linked_before R q qs row.chain p m in absurd (none b ((row.exact b).0 n) t)
      ]

-- ---- places in the list
some_same : {A : Type 0} {x y : A} → Some x ≡ Some y → x ≡ y
some_same e = cc

pub none_some : {A : Type 0} {x : A} → None ≡ Some x → ⊥
none_some e = let z : ◌≡◌ {A = ℕ} 0 1 = cc in omega arith

pub in_place : (ps : List ℕ) (p : ℕ) → In p ps → (i : ℕ) × (slice_get ps i ≡ Some p)
in_place [] p m = absurd m
in_place (q ∷ qs) p (inl e) = (0, ap Some (sym e))
in_place (q ∷ qs) p (inr m) = let (i, d) = in_place qs p m in (suc i, d)

pub place_in : (ps : List ℕ) (i p : ℕ) → slice_get ps i ≡ Some p → In p ps
place_in [] i p e = absurd (none_some e)
place_in (q ∷ qs) zero p e = inl (sym (some_same e))
place_in (q ∷ qs) (suc i) p e = inr (place_in qs i p e)

place_below : (ps : List ℕ) (i j b : ℕ) → i < j → slice_get ps j ≡ Some b → (a : ℕ) × (slice_get ps i ≡ Some a)
place_below [] i j b less e = absurd (none_some e)
place_below (p ∷ ps) zero j b less e = (p, refl)
place_below (p ∷ ps) (suc i) zero b less e = absurd (omega arith)
place_below (p ∷ ps) (suc i) (suc j) b less e = place_below ps i j b (omega arith) e

-- ---- in a chain of proper intervals the places rise with the positions
module _ {E : Type 0} {le : E → E → Type 0} (o : Order E le) (lo hi : ℕ → E) (R : ℕ → ℕ → Type 0)
    (meets : (p q : ℕ) → R p q → hi p ≡ lo q) (grows : (p q : ℕ) → R p q → Lt le (lo q) (hi q)) where
  sorted : (p : ℕ) (ps : List ℕ) → Linked R p ps → (i j a b : ℕ) → i < j → slice_get (p ∷ ps) i ≡ Some a → slice_get (p ∷ ps) j ≡ Some b → le (hi a) (lo b)
  sorted p ps link i zero a b less d e = absurd (omega arith)
  sorted p ps link zero (suc j) a b less d e =
      o.transitive (eq_ge o (ap hi (some_same d))) (later o R lo hi meets grows p ps link b (place_in ps j b e))
  sorted p [] link (suc i) (suc j) a b less d e = absurd (none_some e)
  sorted p (q ∷ qs) link (suc i) (suc j) a b less d e = sorted q qs link.1 i j a b (omega arith) d e

  linked_next : (p : ℕ) (ps : List ℕ) → Linked R p ps → (i a b : ℕ) → slice_get (p ∷ ps) i ≡ Some a → slice_get (p ∷ ps) (suc i) ≡ Some b → R a b
  linked_next p [] link i a b d e = absurd (none_some e)
  linked_next p (q ∷ qs) link zero a b d e = subst (λ z. R z b) (some_same d) (subst (R p) (some_same e) link.0)
  linked_next p (q ∷ qs) link (suc i) a b d e = linked_next q qs link.1 i a b d e

  module _ (p : ℕ) (ps : List ℕ) (link : Linked R p ps) (proper : (r : ℕ) → In r (p ∷ ps) → Lt le (lo r) (hi r)) where
    rises : (i j a b : ℕ) → i < j → slice_get (p ∷ ps) i ≡ Some a → slice_get (p ∷ ps) j ≡ Some b → Lt le (lo a) (lo b)
    rises i j a b less d e = lt_le_lt o (proper a (place_in (p ∷ ps) i a d)) (sorted p ps link i j a b less d e)

    pub once : (i j a : ℕ) → slice_get (p ∷ ps) i ≡ Some a → slice_get (p ∷ ps) j ≡ Some a → i ≡ j
    once i j a d e =
        elim (dec_lt i j) [
          | yes k ↦ absurd (rises i j a a k d e (o.reflexive _))
          | no k ↦ elim (dec_lt j i) [ yes l ↦ absurd (rises j i a a l e d (o.reflexive _)) | no l ↦ omega arith ]
        ]

    no_later : (i j a b : ℕ) → (i < j → ⊥) → slice_get (p ∷ ps) i ≡ Some a → slice_get (p ∷ ps) j ≡ Some b → le (lo b) (lo a)
    no_later i j a b k d e =
        elim (dec_lt j i) [
          | yes l ↦ lt_le o (rises j i b a l e d)
          | no l ↦
              let same : i ≡ j = omega arith in
              eq_ge o (ap lo (some_same (sym d ∙ ap (slice_get (p ∷ ps)) same ∙ e)))
        ]

    -- a stands right before b exactly if R a b
    pub follows : (i j a b : ℕ) → slice_get (p ∷ ps) i ≡ Some a → slice_get (p ∷ ps) j ≡ Some b → R a b ↔ (j ≡ suc i)
    follows i j a b d e = (
      (λ m. elim (dec_lt i j) [
        | no k ↦ absurd (proper a (place_in (p ∷ ps) i a d) (o.transitive (eq_le o (meets a b m)) (no_later i j a b k d e)))
        | yes k ↦ elim (dec_lt (suc i) j) [
          | yes l ↦
              let (c, f) = place_below (p ∷ ps) (suc i) j b l e in
              absurd (rises (suc i) j c b l f e (o.transitive (eq_ge o (meets a b m)) (sorted p ps link i (suc i) a c (omega arith) d f)))
          | no l ↦ omega arith
        ]
      ]),
      λ t. linked_next p ps link i a b d (subst (λ z. slice_get (p ∷ ps) z ≡ Some b) t e),
    )
