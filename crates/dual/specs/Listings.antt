-- Sides and edges that are in order.
use Rattle.std.specs.Prelude.{◌≡◌, ℕ, suc, ◌<◌, ◌↔◌, List, length, Some}
use Rattle.std.specs.List.{slice_get}
use Rattle.fault.specs.declared.Side.{Side}
use Rattle.sheet.specs.Sheets.{Sheet}
use Rattle.sheet.specs.declared.pair.Direction.{Direction}
use Rattle.dual.specs.Marks.{Room, Marked, OnSide, OnEdge, along}

-- a stands in the list
abbrev pub Listed : List ℕ → ℕ → Type 0
Listed rooms a = (i : ℕ) × (slice_get rooms i ≡ Some a)

-- the list has every room of the set, no other and none twice, and a room is marked before another exactly when the other is the next
pub record Listing (s : Sheet) (d : Direction) (Member : ℕ → Type 0) (rooms : List ℕ) : Type 0 where
  pub members : (a : ℕ) → Listed rooms a ↔ Member a
  pub once : (i j a : ℕ) → slice_get rooms i ≡ Some a → slice_get rooms j ≡ Some a → i ≡ j
  pub next : (i j a b : ℕ) → slice_get rooms i ≡ Some a → slice_get rooms j ≡ Some b → Marked s d a b ↔ (j ≡ suc i)

abbrev pub SideInOrder : Sheet → Side → ℕ → Type 0
SideInOrder s side r = (rooms : List ℕ) × Listing s (along side) (OnSide s side r) rooms

-- an empty edge is not in order
abbrev pub EdgeInOrder : Sheet → Side → Type 0
EdgeInOrder s side = (rooms : List ℕ) × Listing s (along side) (OnEdge s side) rooms × (0 < length rooms)

-- every side of every room, and every edge
pub record InOrder (s : Sheet) : Type 0 where
  pub sides : (r : ℕ) → Room s r → (side : Side) → SideInOrder s side r
  pub edges : (side : Side) → EdgeInOrder s side
