-- A test of bytes that found a prefix, or found none, has the answer of the definition's own test of the same bytes.
use Rattle.std.proofs.Common.{◌≡◌, ℕ, ◌<◌, ◌==◌, ◌&&◌, Bool, true, false, cond, List, [], ◌∷◌, length, take, drop, None, codes, nat_eq, Option, sym, refl, ap, ◌∙◌, ⊎_elim, arith}
use Rattle.std.specs.Cmp.Lexicographic.{pointwise}
use Rattle.std.specs.Option.{option_map}
use Rattle.std.proofs.lemmas.List.{length-drop, length-take, take_all}
use Rattle.std.proofs.lemmas.Bool.{cases_lt}
use Rattle.journal.specs.Lines.{said, same_bytes, word_in}
use Rattle.sheet.specs.declared.edit.Edit.{Edit}
use Rattle.sheet.specs.declared.edit.Edit.TheVariants.{Enter, Strike}
use Rattle.journal.proofs.Words.{no_word_length}

-- what a comparison of bytes tells
abbrev Tested : List ℕ → List ℕ → Bool → Type 0
Tested xs ys r = pointwise nat_eq xs ys ≡ r

-- the definition's test is the library's, byte by byte
same_as_pointwise : (xs ys : List ℕ) → same_bytes xs ys ≡ pointwise nat_eq xs ys
same_as_pointwise [] [] = refl
same_as_pointwise [] (y ∷ ys) = refl
same_as_pointwise (x ∷ xs) [] = refl
same_as_pointwise (x ∷ xs) (y ∷ ys) = ap (λ b. x == y && b) (same_as_pointwise xs ys)

answer : (xs ys : List ℕ) (r : Bool) → Tested xs ys r → same_bytes xs ys ≡ r
answer xs ys r h = same_as_pointwise xs ys ∙ h

module _ (line : List ℕ) where
  pub said_enter : (rest : List ℕ) → Tested (take 6 line) (codes "enter ") true → rest ≡ drop 6 line → said line ≡ option_map Enter (word_in rest)
  unfolding said
  said_enter rest e r = rw (answer (take 6 line) (codes "enter ") true e, r)

  pub said_strike : (rest : List ℕ) → Tested (take 6 line) (codes "enter ") false → Tested (take 7 line) (codes "strike ") true → rest ≡ drop 7 line → said line ≡ option_map Strike (word_in rest)
  unfolding said
  said_strike rest e s r =
      rw (answer (take 6 line) (codes "enter ") false e, answer (take 7 line) (codes "strike ") true s, r)

  pub said_nothing : Tested (take 6 line) (codes "enter ") false → Tested (take 7 line) (codes "strike ") false → said line ≡ None
  unfolding said
  said_nothing e s =
      rw (answer (take 6 line) (codes "enter ") false e, answer (take 7 line) (codes "strike ") false s)

pub ruleset said_as_tested = (said_enter, said_strike, said_nothing)

-- ---- a line that is longer than any that can be read
cond_same : (b : Bool) (o : Option Edit) → cond b o o ≡ o
cond_same true o = refl
cond_same false o = refl

said_long : (line : List ℕ) → 15 < length line → said line ≡ None
unfolding said
said_long line l =
    let six : length (drop 6 line) ≡ 8 → ⊥ = λ e. omega (arith, length-drop 6 line) in
    let seven : length (drop 7 line) ≡ 8 → ⊥ = λ e. omega (arith, length-drop 7 line) in
    rw (no_word_length (drop 6 line) six, no_word_length (drop 7 line) seven, cond_same (same_bytes (take 7 line) (codes "strike ")) None, cond_same (same_bytes (take 6 line) (codes "enter ")) None)

-- the first sixteen bytes of a line tell what it says
pub said_front : (line : List ℕ) → said (take 16 line) ≡ said line
said_front line =
    ⊎_elim
    (λ long. said_long (take 16 line) (omega (arith, length-take 16 line)) ∙ sym (said_long line (omega arith)))
    (λ short. ap said (take_all 16 line short))
    (cases_lt 16 (length line))
