-- Steps between walls, ways made of steps, looped walls and least positions. A wall is named by any face on it.
use Rattle.std.specs.Prelude.{◌≡◌, ℕ, ◌⊎◌, List, [], ◌∷◌, Some}
use Rattle.measure.specs.Models.{Model}
use Rattle.sheet.specs.Sheets.{Sheet}
use Rattle.sheet.specs.declared.pair.Direction.{Direction}
use Rattle.dual.specs.Marks.{Room, Marked, OnEdge, mark, near_side, turn}
use Rattle.dual.specs.Plans.{Lengths, Plan, line}
use Rattle.dual.specs.Walls.{Face, before, after, SameWall}

-- from the wall of the west (north) face of one room to the wall of the east (south) face of another, or of the same
pub record Step (m : Model) : Type 0 where
  pub from : ℕ
  pub to : ℕ
  pub length : m.Element

module _ (m : Model) (s : Sheet) (l : Lengths m) (d : Direction) where
  -- a room's own step: as long as the room must be
  pub record RoomStep (t : Step m) : Type 0 where
    pub room : Room s t.from
    pub same : t.from ≡ t.to
    pub long : l.room d t.from ≡ Some t.length

  -- a step of a pair in the other direction, from either of its rooms to either: as long as the wall that they share must be
  pub record PairStep (t : Step m) : Type 0 where
    pub first : ℕ
    pub second : ℕ
    pub marked : Marked s (turn d) first second
    pub leaves : (t.from ≡ first) ⊎ (t.from ≡ second)
    pub enters : (t.to ≡ first) ⊎ (t.to ≡ second)
    pub long : l.wall (mark (turn d) first second) ≡ t.length

  abbrev pub IsStep : Step m → Type 0
  IsStep t = RoomStep t ⊎ PairStep t

  -- the steps, the last one first, lead from the wall of f to the wall of g
  abbrev pub Leads : Face → List (Step m) → Face → Type 0
  Leads f [] g = SameWall s d f g
  Leads f (t ∷ ts) g = Leads f ts (before t.from) × IsStep t × SameWall s d (after t.to) g

  -- one or more steps lead from the wall of f back to it
  abbrev pub Looped : Face → Type 0
  Looped f = (t : Step m) × (ts : List (Step m)) × Leads f (t ∷ ts) f

  -- a way from the west (north) wall to the wall of f
  abbrev pub Way : List (Step m) → Face → Type 0
  Way ts f = (r : ℕ) × OnEdge s (near_side d) r × Leads (before r) ts f

-- the sum of a way's steps, in the order in which they are walked
abbrev pub total : (m : Model) → List (Step m) → m.Element
total m [] = m.zero
total m (t ∷ ts) = m.sum (total m ts) t.length

-- x is the greatest sum of the ways to the wall of f
pub record LeastPosition (m : Model) (s : Sheet) (l : Lengths m) (d : Direction) (f : Face) (x : m.Element) : Type 0 where
  pub attained : (ts : List (Step m)) × Way m s l d ts f × (total m ts ≡ x)
  pub greatest : (ts : List (Step m)) → Way m s l d ts f → m.at_most (total m ts) x

-- no wall is looped, in either direction
abbrev pub Unlooped : (m : Model) → Sheet → Lengths m → Type 0
Unlooped m s l = (d : Direction) (f : Face) → Looped m s l d f → ⊥

-- where a plan has a face
abbrev pub position : (m : Model) → Plan m → Direction → Face → m.Element
position m p d (before r) = (line m p d).lo r
position m p d (after r) = (line m p d).hi r
