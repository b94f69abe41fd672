-- The sheet: the uses of the held rooms, room 1 first, and the held pairs in their order.
use Rattle.std.specs.Prelude.{ℕ, zero, suc, Bool, true, false, not, ◌&&◌, ◌||◌, List, [], ◌∷◌, ◌++◌, None, filter, Option, ◌==◌, nat_le}
use Rattle.std.specs.List.{list_any, slice_get}
use Rattle.sheet.specs.declared.pair.Direction.{Direction}
use Rattle.sheet.specs.declared.pair.Direction.TheVariants.{Beside, Above}
use Rattle.sheet.specs.declared.pair.Pair.{Pair}

pub record Sheet : Type 0 where
  pub uses : List ℕ
  pub pairs : List Pair

-- the sheet of a fresh board
abbrev pub empty : Sheet
empty = record { uses = []; pairs = [] }

-- with so many rooms held, this is the number of one
abbrev pub held : ℕ → ℕ → Bool
held rooms room = nat_le 1 room && nat_le room rooms

abbrev pub same_direction : Direction → Direction → Bool
same_direction Beside Beside = true
same_direction Beside Above = false
same_direction Above Beside = false
same_direction Above Above = true

-- the same mark of the same rooms
abbrev pub same_pair : Pair → Pair → Bool
same_pair p q = same_direction p.direction q.direction && (p.first == q.first && p.second == q.second)

-- both join the same two rooms, in either order, in either direction
abbrev pub same_rooms : Pair → Pair → Bool
same_rooms p q = (p.first == q.first && p.second == q.second) || (p.first == q.second && p.second == q.first)

-- the two rooms have a mark
abbrev pub joined : Sheet → Pair → Bool
joined s p = list_any (same_rooms p) s.pairs

-- this very pair is held
abbrev pub holds : Sheet → Pair → Bool
holds s p = list_any (same_pair p) s.pairs

-- one room more, at the end
abbrev pub with_room : Sheet → ℕ → Sheet
with_room s use_number = record { uses = s.uses ++ use_number ∷ []; pairs = s.pairs }

-- one pair more, at the end
abbrev pub with_pair : Sheet → Pair → Sheet
with_pair s p = record { uses = s.uses; pairs = s.pairs ++ p ∷ [] }

-- the other pairs, in their order
abbrev pub without_pair : Sheet → Pair → Sheet
without_pair s p = record { uses = s.uses; pairs = filter (λ q. not (same_pair p q)) s.pairs }

-- the use of a room by its number, from 1
abbrev pub use_of : Sheet → ℕ → Option ℕ
use_of s zero = None
use_of s (suc n) = slice_get s.uses n
