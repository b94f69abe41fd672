-- The first place at which a search finds a pair is a place of the pair, and where a test passes at no first place it passes nowhere.
use Rattle.std.proofs.Common.{◌≡◌, ℕ, zero, ◌+◌, ◌<◌, Bool, true, false, cond, ◌||◌, List, [], ◌∷◌, length, slice_index_or, Some, None, sym, refl, ◌∙◌}
use Rattle.std.specs.List.{list_any, position, position_from}
use Rattle.std.proofs.lemmas.Iterator.Adapters.{position_from-zero}
use Rattle.std.proofs.lemmas.List.Quantifiers.{position-Some}
use Rattle.std.proofs.lemmas.Option.{none-some}
use Rattle.sheet.specs.Sheets.{same_pair}
use Rattle.sheet.specs.declared.pair.Pair.{Pair}

-- the pair p stands at k
pub record Place (ps : List Pair) (p : Pair) (k : ℕ) : Type 0 where
  pub within : k < length ps
  pub here : same_pair p (slice_index_or ps k p) ≡ true

pub first_place : (ps : List Pair) (p : Pair) (k : ℕ) → position (same_pair p) ps ≡ Some k → Place ps p k
first_place ps p k e = let h = position-Some (same_pair p) ps k p e in record { within = h.0; here = h.1 }

from_here : {X : Type 0} (p : X → Bool) (i : ℕ) (xs : List X) → position_from p i xs ≡ None → list_any p xs ≡ false
from_here p i [] e = refl
from_here p i (x ∷ xs) e = go (p x) e (from_here p (i + 1) xs)
  where
    go : (b : Bool) → cond b (Some i) (position_from p (i + 1) xs) ≡ None → (position_from p (i + 1) xs ≡ None → list_any p xs ≡ false) → (b || list_any p xs) ≡ false
    go true f more = absurd (none-some i (sym f))
    go false f more = more f

pub passes_nowhere : {X : Type 0} (p : X → Bool) (xs : List X) → position p xs ≡ None → list_any p xs ≡ false
passes_nowhere p xs e = from_here p zero xs (sym (position_from-zero p xs) ∙ e)
