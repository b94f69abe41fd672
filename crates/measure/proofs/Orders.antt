-- The order of a model, strict and plain. All of it follows from the laws, since the law that compares any two decides every comparison.
use Rattle.std.proofs.Common.{◌≡◌, ℕ, ◌⊎◌, sym, refl, ap, ap₂, ◌∙◌, subst, inl, inr, ⊎_elim, add_comm, arith}
use Rattle.measure.specs.Models.{Model, Laws, Below}

-- The two comparisons

pub data Comparison : Type 0 where
  plain : Comparison
  strict : Comparison

-- plain: x is at most y; strict: x is below y
abbrev pub Ordered : (m : Model) → Comparison → m.Element → m.Element → Type 0
Ordered m plain x y = m.at_most x y
Ordered m strict x y = Below m x y

-- two comparisons in a row are strict if either is
infixl 20 ◌then◌
abbrev pub ◌then◌ : Comparison → Comparison → Comparison
plain then k = k
strict then k = strict

-- Two models that keep the laws if m does, so that a lemma on sums serves both ends and one on the greater of two the lesser too

-- sums read from the last to the first
abbrev pub mirrored : Model → Model
mirrored m = record { Element = m.Element; at_most = m.at_most; sum = λ x y. m.sum y x; zero = m.zero; extent = m.extent }

-- the order turned round
abbrev pub reversed : Model → Model
reversed m = record { Element = m.Element; at_most = λ x y. m.at_most y x; sum = m.sum; zero = m.zero; extent = m.extent }

abbrev side : {A B : Type 0} → A ⊎ B → ℕ
side (inl a) = 0
side (inr b) = 1

module _ {m : Model} (laws : Laws m) where
  pub mirrored_laws : Laws (mirrored m)
  mirrored_laws = record {
    reflexive = laws.reflexive;
    transitive = laws.transitive;
    antisymmetric = laws.antisymmetric;
    total = laws.total;
    associative = λ x y z. sym (laws.associative z y x);
    zero_first = laws.zero_last;
    zero_last = laws.zero_first;
    grows_first = laws.grows_last;
    grows_last = laws.grows_first;
    extent_sum = λ x y. laws.extent_sum y x ∙ add_comm (m.extent y) (m.extent x);
    extent_zero = laws.extent_zero;
  }

  pub reversed_laws : Laws (reversed m)
  reversed_laws = record {
    reflexive = laws.reflexive;
    transitive = λ x y z a b. laws.transitive z y x b a;
    antisymmetric = λ x y a b. laws.antisymmetric x y b a;
    total = λ x y. laws.total y x;
    associative = laws.associative;
    zero_first = laws.zero_first;
    zero_last = laws.zero_last;
    grows_first = λ x y z. laws.grows_first y x z;
    grows_last = λ x y z. laws.grows_last y x z;
    extent_sum = laws.extent_sum;
    extent_zero = laws.extent_zero;
  }

  -- Deciding a comparison

  -- where x and y are each at most the other they are equal, so the law's answers for x, y and for y, x are one
  split : (x y : m.Element) (p : m.at_most x y ⊎ m.at_most y x) (q : m.at_most y x ⊎ m.at_most x y)
      → laws.total x y ≡ p → laws.total y x ≡ q → m.at_most x y ⊎ Below m y x
  split x y (inl a) q ep eq = inl a
  split x y (inr b) (inr a) ep eq = inl a
  split x y (inr b) (inl c) ep eq = inr (λ a.
      let same : x ≡ y = laws.antisymmetric x y a b in
      let one : side (laws.total x y) ≡ side (laws.total y x) = ap₂ (λ u v. side (laws.total u v)) same (sym same) in
      let apart : 1 ≡ 0 = sym (ap side ep) ∙ (one ∙ ap side eq) in
      omega arith)

  pub decided : (x y : m.Element) → m.at_most x y ⊎ Below m y x
  decided x y = split x y (laws.total x y) (laws.total y x) refl refl

  pub weaken : {x y : m.Element} → Below m x y → m.at_most x y
  weaken {x} {y} b = ⊎_elim (λ a. absurd (b a)) (λ a. a) (laws.total y x)

  pub not_below : {x y : m.Element} → (Below m x y → ⊥) → m.at_most y x
  not_below {x} {y} n = ⊎_elim (λ a. a) (λ b. absurd (n b)) (decided y x)

  pub irreflexive : {x : m.Element} → Below m x x → ⊥
  irreflexive {x} b = b (laws.reflexive x)

  pub same_at_most : {x y : m.Element} → x ≡ y → m.at_most x y
  same_at_most {x} e = subst (λ u. m.at_most x u) e (laws.reflexive x)

  -- below is at most and different
  pub differs : {x y : m.Element} → Below m x y → x ≡ y → ⊥
  differs b e = b (same_at_most (sym e))

  pub at_most_different : {x y : m.Element} → m.at_most x y → (x ≡ y → ⊥) → Below m x y
  at_most_different {x} {y} a n = λ b. n (laws.antisymmetric x y a b)

  pub same_or_below : {x y : m.Element} → m.at_most x y → (x ≡ y) ⊎ Below m x y
  same_or_below {x} {y} a = ⊎_elim (λ b. inl (laws.antisymmetric x y a b)) inr (decided y x)

  pub below_same_above : (x y : m.Element) → Below m x y ⊎ ((x ≡ y) ⊎ Below m y x)
  below_same_above x y = ⊎_elim (λ a. ⊎_elim (λ e. inr (inl e)) inl (same_or_below a)) (λ b. inr (inr b)) (decided x y)

  pub same_or_not : (x y : m.Element) → (x ≡ y) ⊎ (x ≡ y → ⊥)
  same_or_not x y = ⊎_elim
      (λ a. ⊎_elim inl (λ b. inr (differs b)) (same_or_below a))
      (λ b. inr (λ e. b (same_at_most e)))
      (decided x y)

  -- One comparison after another

  pub chained : (j k : Comparison) (x y z : m.Element) → Ordered m j x y → Ordered m k y z → Ordered m (j then k) x z
  chained plain plain x y z a b = laws.transitive x y z a b
  chained plain strict x y z a b = λ c. b (laws.transitive z x y c a)
  chained strict plain x y z a b = λ c. a (laws.transitive y z x b c)
  chained strict strict x y z a b = λ c. a (laws.transitive y z x (weaken b) c)

  -- Sums

  pub add_after : (k : Comparison) (x y z : m.Element) → Ordered m k x y → Ordered m k (m.sum x z) (m.sum y z)
  add_after plain x y z a = ⊎_elim (λ e. same_at_most (ap (λ u. m.sum u z) e)) (λ b. weaken (laws.grows_first x y z b)) (same_or_below a)
  add_after strict x y z b = laws.grows_first x y z b

  pub drop_after : (k : Comparison) (x y z : m.Element) → Ordered m k (m.sum x z) (m.sum y z) → Ordered m k x y
  drop_after plain x y z a = ⊎_elim (λ b. b) (λ b. absurd (laws.grows_first y x z b a)) (decided x y)
  drop_after strict x y z b = λ a. b (add_after plain y x z a)

  -- a step before x: x is below s + x if zero is below s, and at most s + x if zero is at most s
  pub step_before : (k : Comparison) (s x : m.Element) → Ordered m k m.zero s → Ordered m k x (m.sum s x)
  step_before k s x o = subst (λ u. Ordered m k u (m.sum s x)) (laws.zero_first x) (add_after k m.zero s x o)

  -- The greater of two

  larger : (x y : m.Element) → m.at_most x y ⊎ Below m y x → m.Element
  larger x y (inl a) = y
  larger x y (inr b) = x

  pub greater : m.Element → m.Element → m.Element
  greater x y = larger x y (decided x y)

  larger_is : (P : m.Element → Type 0) (x y : m.Element) (d : m.at_most x y ⊎ Below m y x) → P x → P y → P (larger x y d)
  unfolding larger
  larger_is P x y (inl a) p q = q
  larger_is P x y (inr b) p q = p

  larger_bounds : (x y : m.Element) (d : m.at_most x y ⊎ Below m y x) → m.at_most x (larger x y d) × m.at_most y (larger x y d)
  unfolding larger
  larger_bounds x y (inl a) = (a, laws.reflexive y)
  larger_bounds x y (inr b) = (laws.reflexive x, weaken b)

  -- it is one of the two
  pub greater_is : (P : m.Element → Type 0) (x y : m.Element) → P x → P y → P (greater x y)
  unfolding greater
  greater_is P x y p q = larger_is P x y (decided x y) p q

  -- neither is above it
  pub greater_bounds : (x y : m.Element) → m.at_most x (greater x y) × m.at_most y (greater x y)
  unfolding greater
  greater_bounds x y = larger_bounds x y (decided x y)

  -- what neither is above, or what both are below, it is not above, or is below
  pub greater_within : (k : Comparison) (x y z : m.Element) → Ordered m k x z → Ordered m k y z → Ordered m k (greater x y) z
  greater_within k x y z = greater_is (λ u. Ordered m k u z) x y

module _ {m : Model} (laws : Laws m) where
  -- Sums at the other end, and at both

  pub add_before : (k : Comparison) (x y z : m.Element) → Ordered m k x y → Ordered m k (m.sum z x) (m.sum z y)
  add_before = add_after (mirrored_laws laws)

  pub drop_before : (k : Comparison) (x y z : m.Element) → Ordered m k (m.sum z x) (m.sum z y) → Ordered m k x y
  drop_before = drop_after (mirrored_laws laws)

  pub step_after : (k : Comparison) (s x : m.Element) → Ordered m k m.zero s → Ordered m k x (m.sum x s)
  step_after = step_before (mirrored_laws laws)

  pub add_both : (j k : Comparison) (x y u v : m.Element) → Ordered m j x y → Ordered m k u v → Ordered m (j then k) (m.sum x u) (m.sum y v)
  add_both j k x y u v o p = chained laws j k (m.sum x u) (m.sum y u) (m.sum y v) (add_after laws j x y u o) (add_before k u v y p)

  -- The lesser of two

  pub lesser : m.Element → m.Element → m.Element
  lesser = greater (reversed_laws laws)

  pub lesser_is : (P : m.Element → Type 0) (x y : m.Element) → P x → P y → P (lesser x y)
  unfolding lesser
  lesser_is = greater_is (reversed_laws laws)

  pub lesser_bounds : (x y : m.Element) → m.at_most (lesser x y) x × m.at_most (lesser x y) y
  unfolding lesser
  lesser_bounds = greater_bounds (reversed_laws laws)

  pub lesser_within : (k : Comparison) (x y z : m.Element) → Ordered m k z x → Ordered m k z y → Ordered m k z (lesser x y)
  lesser_within k x y z = lesser_is (λ u. Ordered m k z u) x y
