-- Laws of replies and words, in the subject's words.
use Rattle.std.specs.Prelude.{◌≡◌, ℕ, ◌≤◌, true, false, Ok, Err, Result}
use Rattle.std.specs.List.{ContainsAt, AllByRecursion}
use Rattle.fault.specs.Told.{told}
use Rattle.fault.specs.declared.Fault.{Fault}
use Rattle.sheet.specs.Calls.{◌when◌, refusals}
use Rattle.sheet.specs.Sheets.{Sheet}
use Rattle.sheet.specs.Words.{bits, is_pair, pair_in}
use Rattle.sheet.specs.declared.edit.Edit.{Edit}
use Rattle.sheet.specs.declared.pair.Pair.{Pair}

-- no refusal applies to an accepted call; a refused one is told a refusal that applies, and none that applies has a smaller number
abbrev pub SmallestTold : Sheet → Edit → Result (Unit {0}) Fault → Type 0
SmallestTold s e (Ok u) = AllByRecursion (λ r. r.applies ≡ false) (refusals s e)
SmallestTold s e (Err f) =
    ContainsAt (refusals s e) (f when true) × AllByRecursion (λ r. r.applies ≡ true → (told f).number ≤ (told r.refusal).number) (refusals s e)

-- the word is a pair word, its bits between are zero, and its fields are this pair
pub record SaysPair (w : ℕ) (p : Pair) : Type 0 where
  pub pair_word : is_pair w ≡ true
  pub bits_between : bits 27 16 w ≡ 0
  pub fields : pair_in w ≡ p
