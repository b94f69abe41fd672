-- Two proofs that a sheet keeps to the rules are equal, since each rule is an order, an equation of numbers, or a refutation.
use Rattle.std.proofs.Common.{◌≡◌, ℕ, List, [], ◌∷◌, refl}
use denote.Struct.Props.{props}
use native.Mathlib.Bridge.{le_prop as le_one}
use native.Mathlib.Nat.{ℕ_set}
use Rattle.std.specs.List.{AllByRecursion}
use Rattle.sheet.specs.Sheets.{Sheet}
use Rattle.sheet.specs.Sound.{JoinsTwo, Sound, Within}
use Rattle.sheet.specs.declared.pair.Pair.{Pair}

all_prop : {X : Type 0} (P : X → Type 0) → ((x : X) → IsProp (P x)) → (xs : List X) → IsProp (AllByRecursion P xs)
all_prop P h [] a b = refl
all_prop P h (x ∷ xs) a b = λ i. (h x a.0 b.0 i, all_prop P h xs a.1 b.1 i)

within_prop : (low high n : ℕ) → IsProp (Within low high n)
within_prop low high n = hlevel props

two_prop : (n : ℕ) (p : Pair) → IsProp (JoinsTwo n p)
two_prop n p a b = λ i. record {
  first_held = within_prop 1 n p.first a.first_held b.first_held i;
  second_held = within_prop 1 n p.second a.second_held b.second_held i;
  different = different_prop a.different b.different i;
}
  where
    different_prop : IsProp (p.first ≡ p.second → ⊥)
    different_prop = hlevel props

pub sound_prop : (s : Sheet) → IsProp (Sound s)
sound_prop s a b = λ i. record {
  few_rooms = le_one a.few_rooms b.few_rooms i;
  few_pairs = le_one a.few_pairs b.few_pairs i;
  uses = all_prop (Within 1 255) (within_prop 1 255) s.uses a.uses b.uses i;
  pairs = all_prop (JoinsTwo _) (two_prop _) s.pairs a.pairs b.pairs i;
  apart = λ j k p q e f t. ℕ_set j k (a.apart j k p q e f t) (b.apart j k p q e f t) i;
}
