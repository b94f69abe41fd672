-- The rooms of a sheet, its marks by direction, and the sides and edges that the marks make.
use Rattle.std.specs.Prelude.{◌≡◌, ℕ, true, length}
use Rattle.fault.specs.declared.Side.{Side}
use Rattle.fault.specs.declared.Side.TheVariants.{North, East, South, West}
use Rattle.sheet.specs.Sheets.{Sheet, holds}
use Rattle.sheet.specs.Sound.{Within}
use Rattle.sheet.specs.declared.pair.Direction.{Direction}
use Rattle.sheet.specs.declared.pair.Direction.TheVariants.{Beside, Above}
use Rattle.sheet.specs.declared.pair.Pair.{Pair}

-- r is the number of a held room
abbrev pub Room : Sheet → ℕ → Type 0
Room s r = Within 1 (length s.uses) r

abbrev pub mark : Direction → ℕ → ℕ → Pair
mark d a b = record { direction = d; first = a; second = b }

-- the sheet says that a and b touch, and that a lies west of b (Beside), or north of it (Above)
abbrev pub Marked : Sheet → Direction → ℕ → ℕ → Type 0
Marked s d a b = holds s (mark d a b) ≡ true

-- the direction at right angles
abbrev pub turn : Direction → Direction
turn Beside = Above
turn Above = Beside

-- a is on that side of r
abbrev pub OnSide : Sheet → Side → ℕ → ℕ → Type 0
OnSide s North r a = Marked s Above a r
OnSide s East r a = Marked s Beside r a
OnSide s South r a = Marked s Above r a
OnSide s West r a = Marked s Beside a r

-- that side of r has no room
abbrev pub Empty : Sheet → Side → ℕ → Type 0
Empty s side r = (a : ℕ) → OnSide s side r a → ⊥

-- an edge is the set of the rooms whose side is empty
abbrev pub OnEdge : Sheet → Side → ℕ → Type 0
OnEdge s side r = Room s r × Empty s side r

abbrev pub opposite : Side → Side
opposite North = South
opposite East = West
opposite South = North
opposite West = East

-- the rooms of a north or south side or edge follow one another from west to east, those of a west or east one from north to south
abbrev pub along : Side → Direction
along North = Beside
along East = Above
along South = Beside
along West = Above

-- the side where a direction begins, and the one where it ends
abbrev pub near_side : Direction → Side
near_side Beside = West
near_side Above = North

abbrev pub far_side : Direction → Side
far_side d = opposite (near_side d)
