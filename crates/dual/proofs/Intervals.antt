-- Intervals on a line, each beginning where the one before it ends, leave no gap and do not overlap.
use Rattle.std.proofs.Common.{◌≡◌, ℕ, zero, suc, ◌<◌, ◌≤◌, ◌⊎◌, List, [], ◌∷◌, sym, refl, ap, ◌∙◌, subst, inl, inr, arith}
use Rattle.measure.specs.Models.{Model, Laws}
use Rattle.measure.proofs.Orders.{decided}

-- ---- an order, and nothing else of a measure
pub record Order (E : Type 0) (le : E → E → Type 0) : Type 0 where
  pub reflexive : (a : E) → le a a
  pub transitive : {a b c : E} → le a b → le b c → le a c
  pub antisymmetric : {a b : E} → le a b → le b a → a ≡ b
  pub total : (a b : E) → le a b ⊎ le b a
  pub decide : (a b : E) → le a b ⊎ (le a b → ⊥)

pub order : {m : Model} → Laws m → Order m.Element m.at_most
order laws = record {
  reflexive = laws.reflexive;
  transitive = λ {a} {b} {c}. laws.transitive a b c;
  antisymmetric = λ {a} {b}. laws.antisymmetric a b;
  total = laws.total;
  decide = decided laws;
}

abbrev pub Lt : {E : Type 0} (le : E → E → Type 0) → E → E → Type 0
Lt le a b = le b a → ⊥

abbrev pub Rev : {A : Type 0} → (A → A → Type 0) → A → A → Type 0
Rev R a b = R b a

module _ {E : Type 0} {le : E → E → Type 0} (o : Order E le) where
  abbrev pub reverse : Order E (Rev le)
  reverse = record {
    reflexive = o.reflexive;
    transitive = λ p q. o.transitive q p;
    antisymmetric = λ p q. o.antisymmetric q p;
    total = λ a b. o.total b a;
    decide = λ a b. o.decide b a;
  }

  pub eq_le : {a b : E} → a ≡ b → le a b
  eq_le {a} e = subst (λ z. le a z) e (o.reflexive a)

  pub eq_ge : {a b : E} → a ≡ b → le b a
  eq_ge e = eq_le (sym e)

  pub lt_le : {a b : E} → Lt le a b → le a b
  lt_le {a} {b} h = elim (o.total a b) [ inl k ↦ k | inr k ↦ absurd (h k) ]

  pub lt_le_lt : {a b c : E} → Lt le a b → le b c → Lt le a c
  lt_le_lt h k = λ m. h (o.transitive k m)

  pub le_lt_lt : {a b c : E} → le a b → Lt le b c → Lt le a c
  le_lt_lt h k = λ m. k (o.transitive m h)

  -- ---- how many of the numbers below n begin before x: the fuel of every walk
  module _ (lo : ℕ → E) where
    pub lower : E → ℕ → ℕ
    lower x zero = 0
    lower x (suc n) = elim (o.decide x (lo n)) [ inl k ↦ lower x n | inr k ↦ suc (lower x n) ]

    lower_le : (x y : E) → le x y → (n : ℕ) → lower x n ≤ lower y n
    unfolding lower
    lower_le x y h zero = omega arith
    lower_le x y h (suc n) =
        let ih : lower x n ≤ lower y n = lower_le x y h n in grind (arith, o.transitive)

    pub lower_more : (x y : E) → le x y → (s : ℕ) → le x (lo s) → Lt le (lo s) y → (n : ℕ) → s < n → lower x n < lower y n
    unfolding lower
    lower_more x y h s from to zero small = absurd (omega arith)
    lower_more x y h s from to (suc n) small =
        let ih : s < n → lower x n < lower y n = lower_more x y h s from to n in
        let le_n : lower x n ≤ lower y n = lower_le x y h n in
        grind (arith, o.transitive)

  -- q begins no later than p ends, and ends later: then it begins where p ends, unless it is p
  pub next : (lo hi : ℕ → E) (p q : ℕ) → (Lt le (lo p) (hi q) × Lt le (lo q) (hi p) → p ≡ q) → Lt le (lo p) (hi p) → le (lo q) (hi p) → Lt le (hi p) (hi q) → hi p ≡ lo q
  next lo hi p q same proper from to =
      elim (o.decide (hi p) (lo q)) [
        | inl k ↦ o.antisymmetric k from
        | inr k ↦ absurd (to (eq_ge (ap hi (same (le_lt_lt (lt_le proper) to, k)))))
      ]

-- ---- lists of rooms
-- x is in the list
abbrev pub In : ℕ → List ℕ → Type 0
In x [] = ⊥
In x (y ∷ ys) = (x ≡ y) ⊎ In x ys

-- x, and then ys: each with the next in the relation
abbrev pub Linked : (ℕ → ℕ → Type 0) → ℕ → List ℕ → Type 0
Linked R x [] = Unit {0}
Linked R x (y ∷ ys) = R x y × Linked R y ys

abbrev pub Chained : (ℕ → ℕ → Type 0) → List ℕ → Type 0
Chained R [] = Unit {0}
Chained R (x ∷ xs) = Linked R x xs

-- the last of x, ys ends at e or later
abbrev pub Reaches : {E : Type 0} (le : E → E → Type 0) (hi : ℕ → E) (e : E) → ℕ → List ℕ → Type 0
Reaches le hi e x [] = le e (hi x)
Reaches le hi e x (y ∷ ys) = Reaches le hi e y ys

-- whoever stands behind the first has one before it
pub linked_before : (R : ℕ → ℕ → Type 0) (p : ℕ) (ps : List ℕ) → Linked R p ps → (r : ℕ) → In r ps → (q : ℕ) × In q (p ∷ ps) × R q r
linked_before R p [] link r m = absurd m
linked_before R p (q ∷ qs) link r (inl e) = (p, inl refl, subst (R p) (sym e) link.0)
linked_before R p (q ∷ qs) link r (inr m) = let (b, n, t) = linked_before R q qs link.1 r m in (b, inr n, t)

-- ---- intervals lo r .. hi r of which each begins where the one before it ends
module _ {E : Type 0} {le : E → E → Type 0} (o : Order E le) (R : ℕ → ℕ → Type 0) (lo hi : ℕ → E)
    (meets : (p q : ℕ) → R p q → hi p ≡ lo q) where
  pub linked_covers : (x e : E) (p : ℕ) (ps : List ℕ) → Linked R p ps → le (lo p) x → Reaches le hi e p ps → Lt le x e →
      (q : ℕ) × In q (p ∷ ps) × (le (lo q) x × Lt le x (hi q))
  linked_covers x e p [] link from to below = (p, inl refl, (from, lt_le_lt o below to))
  linked_covers x e p (q ∷ qs) link from to below =
      elim (o.decide (hi p) x) [
        | inl k ↦ let (r, m, w) = linked_covers x e q qs link.1 (o.transitive (eq_ge o (meets p q link.0)) k) to below in (r, inr m, w)
        | inr k ↦ (p, inl refl, (from, k))
      ]

  pub later : ((p q : ℕ) → R p q → Lt le (lo q) (hi q)) → (p : ℕ) (ps : List ℕ) → Linked R p ps → (r : ℕ) → In r ps → le (hi p) (lo r)
  later grows p [] link r m = absurd m
  later grows p (q ∷ qs) link r (inl e) = eq_le o (meets p q link.0 ∙ ap lo (sym e))
  later grows p (q ∷ qs) link r (inr m) =
      o.transitive (eq_le o (meets p q link.0)) (o.transitive (lt_le o (grows p q link.0)) (later grows q qs link.1 r m))
