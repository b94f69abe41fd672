-- The rows of refusals stand in the order of their numbers, and the fields of a word do not overlap.
use Rattle.std.proofs.Common.{◌≡◌, ℕ, zero, suc, ◌^◌, ◌<◌, ◌≤◌, Bool, true, false, cond, List, [], ◌∷◌, Ok, Err, Result, sym, refl, ap, subst, arith}
use Rattle.std.specs.List.{ContainsAt, AllByRecursion}
use Rattle.std.proofs.ByRecursion.{All-weaker}
use Rattle.std.proofs.lemmas.Bool.{both_ways}
use Rattle.std.proofs.lemmas.Bool.Decides.{nat_tests}
use Rattle.fault.specs.Told.{told}
use Rattle.fault.specs.declared.Fault.{Fault}
use Rattle.sheet.specs.Calls.{Row, ◌when◌, first_told, judged, refusals}
use Rattle.sheet.specs.Sheets.{Sheet}
use Rattle.sheet.specs.Laws.{SaysPair, SmallestTold}
use Rattle.sheet.specs.Words.{is_pair, pair_in, word_of}
use Rattle.sheet.specs.declared.edit.Edit.{Edit}
use Rattle.sheet.specs.declared.edit.Edit.TheVariants.{Enter, Strike}
use Rattle.sheet.specs.declared.pair.Direction.{Direction}
use Rattle.sheet.specs.declared.pair.Direction.TheVariants.{Beside, Above}
use Rattle.sheet.specs.declared.pair.Pair.{Pair}

abbrev number : Row → ℕ
number r = (told r.refusal).number

-- each row's number is at most those of the rows after it
abbrev Rising : List Row → Type 0
Rising [] = Unit {0}
Rising (r ∷ rs) = AllByRecursion (λ x. number r ≤ number x) rs × Rising rs

abbrev ToldFirst : List Row → Result (Unit {0}) Fault → Type 0
ToldFirst rs (Ok u) = AllByRecursion (λ x. x.applies ≡ false) rs
ToldFirst rs (Err f) = ContainsAt rs (f when true) × AllByRecursion (λ x. x.applies ≡ true → (told f).number ≤ number x) rs

has_later : (r x : Row) (rs : List Row) → ContainsAt rs x → ContainsAt (r ∷ rs) x
has_later r x rs h = (suc h.0, omega (arith, h.1), h.2)

first_is_least : (rs : List Row) → Rising rs → ToldFirst rs (first_told rs)
first_is_least [] h = tt
first_is_least (r ∷ rs) h = go r.applies refl (first_told rs) (first_is_least rs h.1)
  where
    go : (b : Bool) → r.applies ≡ b → (rest : Result (Unit {0}) Fault) → ToldFirst rs rest → ToldFirst (r ∷ rs) (cond b (Err r.refusal) rest)
    go true e rest k = ((zero, omega arith, λ d. ap (λ (x : Bool). r.refusal when x) e), ((λ _. omega arith), All-weaker (λ x. number r ≤ number x) (λ x. x.applies ≡ true → number r ≤ number x) (λ x l _. l) rs h.0))
    go false e (Ok u) k = (e, k)
    go false e (Err f) k = (has_later r (f when true) rs k.0, ((λ t. absurd (both_ways r.applies e t)), k.1))

rising : (s : Sheet) (e : Edit) → Rising (refusals s e)
rising s (Enter w) = omega arith
rising s (Strike w) = omega arith

-- the reply is the judged one
pub smallest_told : (s : Sheet) (e : Edit) (r : Result (Unit {0}) Fault) → r ≡ judged s e → SmallestTold s e r
unfolding judged
smallest_told s e r h = go r (subst (ToldFirst (refusals s e)) (sym h) (first_is_least (refusals s e) (rising s e)))
  where
    go : (q : Result (Unit {0}) Fault) → ToldFirst (refusals s e) q → SmallestTold s e q
    go (Ok u) k = k
    go (Err f) k = k

-- ---- words
abbrev pair : Direction → ℕ → ℕ → Pair
pair d a b = record { direction = d; first = a; second = b }

pub says_pair : (p : Pair) (w : ℕ) → w ≡ word_of p → p.first < 2 ^ 8 → p.second < 2 ^ 8 → SaysPair w p
unfolding is_pair pair_in
says_pair p w e h k = subst (λ (v : ℕ). SaysPair v p) (sym e) (go p.direction p.first p.second h k)
  where
    go : (d : Direction) (a b : ℕ) → a < 2 ^ 8 → b < 2 ^ 8 → SaysPair (word_of (pair d a b)) (pair d a b)
    go Beside a b h k = record { pair_word = grind (arith, nat_tests); bits_between = omega arith; fields = grind (arith, nat_tests) }
    go Above a b h k = record { pair_word = grind (arith, nat_tests); bits_between = omega arith; fields = grind (arith, nat_tests) }
