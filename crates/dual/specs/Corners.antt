-- Corners that are closed.
use Rattle.std.specs.Prelude.{ℕ, ◌⊎◌}
use Rattle.fault.specs.declared.Corner.{Corner}
use Rattle.fault.specs.declared.Corner.TheVariants.{NorthWest, NorthEast, SouthEast, SouthWest}
use Rattle.fault.specs.declared.Side.{Side}
use Rattle.fault.specs.declared.Side.TheVariants.{North, East, South, West}
use Rattle.sheet.specs.Sheets.{Sheet}
use Rattle.dual.specs.Marks.{Room, OnSide, Empty, opposite}

-- a corner lies between its west or east side and its north or south side
abbrev pub level : Corner → Side
level NorthWest = West
level NorthEast = East
level SouthEast = East
level SouthWest = West

abbrev pub upright : Corner → Side
upright NorthWest = North
upright NorthEast = North
upright SouthEast = South
upright SouthWest = South

-- a is the end room of a side of r, at its end towards another side: no room of the side lies beyond it
pub record EndRoom (s : Sheet) (side towards : Side) (r a : ℕ) : Type 0 where
  pub member : OnSide s side r a
  pub outermost : (b : ℕ) → OnSide s side r b → OnSide s towards a b → ⊥

-- the corner of r between its sides p and q. Where r has no room on one of them, neither has the end room of the other;
-- where it has rooms on both, one of the two end rooms lies past the other, as seen from r: with p west and q north, b is east of a, or a south of b.
pub record ClosedBetween (s : Sheet) (p q : Side) (r : ℕ) : Type 0 where
  pub without_q : (a : ℕ) → EndRoom s p q r a → Empty s q r → Empty s q a
  pub without_p : (b : ℕ) → EndRoom s q p r b → Empty s p r → Empty s p b
  pub touching : (a b : ℕ) → EndRoom s p q r a → EndRoom s q p r b → OnSide s (opposite p) a b ⊎ OnSide s (opposite q) b a

abbrev pub Closed : Sheet → Corner → ℕ → Type 0
Closed s corner r = ClosedBetween s (level corner) (upright corner) r

-- every corner of every room
abbrev pub CornersClosed : Sheet → Type 0
CornersClosed s = (r : ℕ) → Room s r → (corner : Corner) → Closed s corner r
