-- Zeros in front of the digits of a number, up to a width that they do not pass, are its lowest digits, as many as the width.
use Rattle.std.proofs.Common.{◌≡◌, ℕ, zero, suc, ◌+◌, ◌-◌, ◌/◌, ◌%◌, ◌^◌, ◌<◌, false, cond, List, [], ◌∷◌, ◌++◌, length, append-nil, refl, sym, ap, ap₂, ◌∙◌, add-one, div-one, pow-suc, ⊎_elim, arith}
use Rattle.std.proofs.Math.ListN.{replicate}
use Rattle.std.proofs.Math.Nat.{div-div-eq-div-mul}
use Rattle.std.specs.Fmt.{char_count, digit_glyph, digits, digits_onto, format_spec, padded_integral}
use Rattle.std.proofs.lemmas.Bool.{cases_eq, eq-eqb, ne_eqb}
use Rattle.std.proofs.lemmas.List.{append_assoc, replicate_more}
use Rattle.journal.specs.Texts.{word_text}

-- the k lowest hexadecimal digits of n, the highest first, and then acc
abbrev lowest : ℕ → ℕ → List ℕ → List ℕ
lowest zero n acc = acc
lowest (suc k) n acc = lowest k (n / 16) (digit_glyph false (n % 16) ∷ acc)

-- a text with zeros in front, up to the width
abbrev with_zeros : ℕ → List ℕ → List ℕ
with_zeros width text = replicate (width - length text) 48 ++ text

lowest_of_zero : (k : ℕ) (acc : List ℕ) → lowest k 0 acc ≡ replicate k 48 ++ acc
lowest_of_zero zero acc = refl
lowest_of_zero (suc k) acc =
    lowest_of_zero k (48 ∷ acc) ∙ sym (append_assoc (replicate k 48) (48 ∷ []) acc)
    ∙ ap (λ (l : List ℕ). l ++ acc) (replicate_more k 48 ∙ ap (λ (n : ℕ). replicate n 48) (add-one k))

module _ (n : ℕ) (acc : List ℕ) where
  abbrev front : List ℕ
  front = digit_glyph false (n % 16) ∷ acc

  -- the highest digit
  last_turn : (k j : ℕ) → n / 16 ≡ 0 → with_zeros (suc k + length acc) (digits_onto (suc j) 16 false n acc) ≡ lowest (suc k) n acc
  last_turn k j e =
      let text : digits_onto (suc j) 16 false n acc ≡ front = ap (λ b. cond b front (digits_onto j 16 false (n / 16) front)) (eq-eqb (n / 16) 0 e) in
      let width : suc k + length acc - length front ≡ k = omega arith in
      ap (with_zeros (suc k + length acc)) text ∙ ap (λ (m : ℕ). replicate m 48 ++ front) width ∙ sym (lowest_of_zero k front) ∙ ap (λ (m : ℕ). lowest k m front) (sym e)

  -- a lower one
  turn : (k j : ℕ) → (n / 16 ≡ 0 → ⊥) → with_zeros (k + length front) (digits_onto j 16 false (n / 16) front) ≡ lowest k (n / 16) front → with_zeros (suc k + length acc) (digits_onto (suc j) 16 false n acc) ≡ lowest (suc k) n acc
  turn k j e h =
      let text : digits_onto (suc j) 16 false n acc ≡ digits_onto j 16 false (n / 16) front = ap (λ b. cond b front (digits_onto j 16 false (n / 16) front)) (ne_eqb (n / 16) 0 e) in
      let width : suc k + length acc ≡ k + length front = omega arith in
      ap₂ with_zeros width text ∙ h

zeros_and_digits : (k j n : ℕ) (acc : List ℕ) → k < j → n < 16 ^ (suc k) → with_zeros (suc k + length acc) (digits_onto j 16 false n acc) ≡ lowest (suc k) n acc
zeros_and_digits k zero n acc l h = absurd (omega arith)
zeros_and_digits zero (suc j) n acc l h = last_turn n acc zero j (omega (arith, pow-suc 16 0))
zeros_and_digits (suc k) (suc j) n acc l h =
    ⊎_elim (λ e. last_turn n acc (suc k) j e)
    (λ e. turn n acc (suc k) j e (zeros_and_digits k j (n / 16) (front n acc) (omega arith) (omega (arith, pow-suc 16 (suc k)))))
    (cases_eq (n / 16) 0)

digits_of_word : (w : ℕ) → w < 2 ^ 32 → with_zeros 8 (digits 16 false w) ≡ word_text w
unfolding digits
digits_of_word w h = zeros_and_digits 7 64 w [] (omega arith) h ∙ simp (div-div-eq-div-mul, div-one)

-- what `{:08x}` writes
pub word_padded : (w : ℕ) → w < 2 ^ 32 → padded_integral (format_spec 32 0 4 8 (2 ^ 64 - 1)) false [] (digits 16 false w) ≡ word_text w
unfolding char_count padded_integral
word_padded w h =
    let ds = digits 16 false w in
    let width : 8 - length ds - 0 - 0 ≡ 8 - length ds = omega arith in
    ap₂ (λ (n : ℕ) (l : List ℕ). replicate n 48 ++ l) width (append-nil ds) ∙ digits_of_word w h
