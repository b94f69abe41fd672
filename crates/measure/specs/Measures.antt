-- Both models keep the laws of a measure.
use Rattle.std.specs.Prelude.{◌≡◌, ℕ, ◌+◌, ◌*◌, ◌<◌, ◌⊎◌, refl}
use Rattle.std.proofs.Common.{sym, ap, ap₂, ◌∙◌, subst, subst₂, inl, inr, ⊎_elim}
use Rattle.std.proofs.Math.Arith.{add-le_cancel_left}
use Rattle.std.proofs.Math.Nat.{zero-add, add-zero, add_assoc, add_comm, add_left_comm, mul-add, add_right_cancel, add-le-add_iff_right, add-lt-add_iff_right, le_refl, le_trans, le_antisymm, le_of_lt, lt_trans, lt_irrefl, eq-or-lt_of_le}
use Rattle.std.proofs.lemmas.Bool.{cases_lt}
use Rattle.measure.specs.Models.{Laws}
use Rattle.measure.specs.Lengths.{millimetres, Crossing, crossing, distance, NoFarther, joined, crossings}

pub millimetres_lawful : Laws millimetres
millimetres_lawful = record {
  reflexive = le_refl;
  transitive = λ x y z a b. le_trans a b;
  antisymmetric = λ x y a b. le_antisymm a b;
  total = λ x y. ⊎_elim (λ a. inl (le_of_lt a)) inr (cases_lt x y);
  associative = add_assoc;
  zero_first = zero-add;
  zero_last = add-zero;
  grows_first = λ x y z b a. b ((add-le-add_iff_right z).0 a);
  grows_last = λ x y z b a. b (add-le_cancel_left z a);
  extent_sum = λ x y. refl;
  extent_zero = refl;
}

-- two sums of two, added crosswise
add_pairs : (a b c d : ℕ) → (a + b) + (c + d) ≡ (a + c) + (b + d)
add_pairs a b c d = add_assoc a b (c + d) ∙ (ap (λ n. a + n) (add_left_comm b c d) ∙ sym (add_assoc a c (b + d)))

distance_joined : (x y : Crossing) → distance (joined x y) ≡ distance x + distance y
distance_joined x y =
    ap (λ n. (x.clear + y.clear) + n) (mul-add 100 x.partitions y.partitions)
    ∙ add_pairs x.clear y.clear (100 * x.partitions) (100 * y.partitions)

one_after_another : (x y z : Crossing) → NoFarther x y → NoFarther y z → NoFarther x z
one_after_another x y z (inl a) (inl b) = inl (lt_trans a b)
one_after_another x y z (inl a) (inr k) = inl (subst (λ n. distance x < n) k.0 a)
one_after_another x y z (inr h) (inl b) = inl (subst (λ n. n < distance z) (sym h.0) b)
one_after_another x y z (inr h) (inr k) = inr (h.0 ∙ k.0, le_trans k.1 h.1)

-- at equal distance and as many partitions, the clear millimetres are equal too
either_way : (x y : Crossing) → NoFarther x y → NoFarther y x → x ≡ y
either_way x y (inl a) (inl b) = absurd (lt_irrefl (distance x) (lt_trans a b))
either_way x y (inl a) (inr k) = absurd (lt_irrefl (distance x) (subst (λ n. distance x < n) k.0 a))
either_way x y (inr h) (inl b) = absurd (lt_irrefl (distance y) (subst (λ n. distance y < n) h.0 b))
either_way x y (inr h) (inr k) =
    let partitions : x.partitions ≡ y.partitions = le_antisymm k.1 h.1 in
    let clear : x.clear ≡ y.clear = add_right_cancel (100 * y.partitions) (ap (λ n. x.clear + 100 * n) (sym partitions) ∙ h.0) in
    ap₂ crossing clear partitions

as_far : (x y : Crossing) → distance y ≡ distance x → NoFarther x y ⊎ NoFarther y x
as_far x y e = ⊎_elim (λ p. inr (inr (e, le_of_lt p))) (λ q. inl (inr (sym e, q))) (cases_lt x.partitions y.partitions)

compared : (x y : Crossing) → NoFarther x y ⊎ NoFarther y x
compared x y =
    ⊎_elim
    (λ a. inl (inl a))
    (λ b. ⊎_elim (as_far x y) (λ c. inr (inl c)) (eq-or-lt_of_le b))
    (cases_lt (distance x) (distance y))

drop_last : (x y z : Crossing) → NoFarther (joined x z) (joined y z) → NoFarther x y
drop_last x y z (inl a) = inl ((add-lt-add_iff_right (distance z)).0 (subst₂ (λ m n. m < n) (distance_joined x z) (distance_joined y z) a))
drop_last x y z (inr h) =
    inr (add_right_cancel (distance z) (sym (distance_joined x z) ∙ (h.0 ∙ distance_joined y z)), (add-le-add_iff_right z.partitions).0 h.1)

joined_comm : (x y : Crossing) → joined x y ≡ joined y x
joined_comm x y = ap₂ crossing (add_comm x.clear y.clear) (add_comm x.partitions y.partitions)

drop_first : (x y z : Crossing) → NoFarther (joined z x) (joined z y) → NoFarther x y
drop_first x y z a = drop_last x y z (subst₂ NoFarther (joined_comm z x) (joined_comm z y) a)

pub crossings_lawful : Laws crossings
crossings_lawful = record {
  reflexive = λ x. inr (refl, le_refl x.partitions);
  transitive = one_after_another;
  antisymmetric = either_way;
  total = compared;
  associative = λ x y z. ap₂ crossing (add_assoc x.clear y.clear z.clear) (add_assoc x.partitions y.partitions z.partitions);
  zero_first = λ x. ap₂ crossing (zero-add x.clear) (zero-add x.partitions);
  zero_last = λ x. ap₂ crossing (add-zero x.clear) (add-zero x.partitions);
  grows_first = λ x y z b a. b (drop_last y x z a);
  grows_last = λ x y z b a. b (drop_first y x z a);
  extent_sum = distance_joined;
  extent_zero = refl;
}
