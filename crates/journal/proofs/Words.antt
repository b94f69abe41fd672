-- Each digit is below sixteen, so what `n` digits spell is below sixteen to the `n`, and after at most seven there is room for one more.
use Rattle.std.proofs.Common.{◌≡◌, ℕ, zero, suc, ◌+◌, ◌*◌, ◌^◌, ◌<◌, ◌≤◌, true, false, eqb, List, [], length, get_or, take, is_some, Some, None, Option, unwrap_or, sym, refl, ap, ◌∙◌, pow-suc, add-one, arith, lit<}
use native.Mathlib.Nat.{pow-le-pow_right}
use Rattle.std.specs.Char.{digit_value}
use Rattle.std.specs.List.{list_all}
use Rattle.std.specs.Option.{SomeIff}
use Rattle.std.proofs.lemmas.List.{take_all}
use Rattle.std.proofs.lemmas.List.Folds.{list_all_at}
use Rattle.std.proofs.lemmas.List.Sums.{fold_more}
use Rattle.std.proofs.lemmas.Bool.{and_right, ne_eqb}
use Rattle.std.proofs.lemmas.Bool.Decides.{nat_tests}
use Rattle.journal.specs.Lines.{digit, spelled, word_in}

-- the library's digit is the definition's
pub digit_is : (c : ℕ) (r : Option ℕ) → SomeIff r (digit_value c < 16) (digit_value c) → r ≡ digit c
digit_is c None h = grind (arith, nat_tests)
digit_is c (Some d) h = grind (arith, nat_tests, h)

digit_below : (c : ℕ) → unwrap_or (digit c) 0 < 16
digit_below c = grind (arith, nat_tests)

pub digit_value_below : (c d : ℕ) → Some d ≡ digit c → d < 16
digit_value_below c d h =
    let is : unwrap_or (digit c) 0 ≡ d = ap (λ o. unwrap_or o 0) (sym h) in omega (arith, digit_below c)

module _ (cs : List ℕ) where
  spelled_more : (i : ℕ) → i < length cs → spelled (take (i + 1) cs) ≡ 16 * spelled (take i cs) + unwrap_or (digit (get_or cs i 0)) 0
  unfolding spelled
  spelled_more i l = fold_more (λ n c. 16 * n + unwrap_or (digit c) 0) 0 cs i 0 l

  spelled_none : spelled [] ≡ 0
  unfolding spelled
  spelled_none = refl

  spelled_below : (i : ℕ) → i ≤ length cs → spelled (take i cs) < 16 ^ i
  spelled_below zero l = omega (arith, spelled_none)
  spelled_below (suc i) l =
      let next : spelled (take (suc i) cs) ≡ spelled (take (i + 1) cs) = rw add-one in
      omega (arith, spelled_more i l, digit_below (get_or cs i 0), pow-suc 16 i, spelled_below i (omega arith))

  -- one more digit fits where at most seven are read
  pub spelled_fits : (i : ℕ) → i < 8 → i ≤ length cs → spelled (take i cs) < 2 ^ 28
  spelled_fits i s l =
      let few : i ≤ 7 = omega arith in
      let most : 16 ^ i ≤ 16 ^ 7 = pow-le-pow_right (lit< tt) few in
      omega (arith, spelled_below i l)

  -- too few or too many
  pub no_word_length : (length cs ≡ 8 → ⊥) → word_in cs ≡ None
  unfolding word_in
  no_word_length h = rw (ne_eqb (length cs) 8 h)

  -- one that is no digit
  pub no_word_digit : (i : ℕ) → length cs ≡ 8 → i < length cs → digit (get_or cs i 0) ≡ None → word_in cs ≡ None
  unfolding word_in
  no_word_digit i n l h =
      rw (list_all_at (λ c. is_some (digit c)) cs i 0 l (ap is_some h), and_right (eqb (length cs) 8) false refl)

  -- one digit more
  pub read_more : (i v d : ℕ) → i < length cs → Some d ≡ digit (get_or cs i 0) → v ≡ spelled (take i cs) → v * 16 + d ≡ spelled (take (i + 1) cs)
  read_more i v d l h e =
      let is : unwrap_or (digit (get_or cs i 0)) 0 ≡ d = ap (λ o. unwrap_or o 0) (sym h) in
      omega (arith, spelled_more i l)

  -- all eight are read
  pub read_all : (i v : ℕ) → length cs ≡ 8 → length cs ≤ i → v ≡ spelled (take i cs) → list_all (λ c. is_some (digit c)) (take i cs) ≡ true → Some v ≡ word_in cs
  unfolding word_in
  read_all i v n l e h = let whole = take_all i cs l in rw (n, rw whole at h) (ap Some (e ∙ ap spelled whole))

-- what the loop over the digits cites
pub ruleset reading = (digit_is, digit_value_below, spelled_fits, no_word_length, no_word_digit, read_all)
