-- Faces of rooms, the walls that they are on, and the numbers of the walls. All of it is said for one direction: across walls are those of Beside, down walls those of Above.
use Rattle.std.specs.Prelude.{◌≡◌, ℕ, suc, ◌<◌, ◌≤◌, ◌↔◌, List, [], ◌∷◌, length, Some}
use Rattle.std.specs.List.{slice_get}
use Rattle.sheet.specs.Sheets.{Sheet}
use Rattle.sheet.specs.declared.pair.Direction.{Direction}
use Rattle.dual.specs.Listings.{Listed}
use Rattle.dual.specs.Marks.{Room, Marked, Empty, OnEdge, near_side, far_side}

-- the west (north) face of a room, and its east (south) face
pub data Face : Type 0 where
  before : ℕ → Face
  after : ℕ → Face

-- what puts two faces on one wall: a mark, or the same edge
abbrev pub Adjoin : Sheet → Direction → Face → Face → Type 0
Adjoin s d (after a) (before b) = Marked s d a b
Adjoin s d (before b) (after a) = Marked s d a b
Adjoin s d (before a) (before b) = OnEdge s (near_side d) a × OnEdge s (near_side d) b
Adjoin s d (after a) (after b) = OnEdge s (far_side d) a × OnEdge s (far_side d) b

-- a chain from f to g by way of the faces between
abbrev pub Chain : Sheet → Direction → Face → List Face → Face → Type 0
Chain s d f [] g = f ≡ g
Chain s d f (h ∷ hs) g = Adjoin s d f h × Chain s d h hs g

abbrev pub SameWall : Sheet → Direction → Face → Face → Type 0
SameWall s d f g = (between : List Face) × Chain s d f between g

-- the face is on the west (north) wall; on the east (south) wall
abbrev pub OnNearWall : Sheet → Direction → Face → Type 0
OnNearWall s d f = (r : ℕ) × OnEdge s (near_side d) r × SameWall s d (before r) f

abbrev pub OnFarWall : Sheet → Direction → Face → Type 0
OnFarWall s d f = (r : ℕ) × OnEdge s (far_side d) r × SameWall s d (after r) f

-- r is the lowest room whose west (north) face is on its wall, and that is not the west (north) wall
pub record Head (s : Sheet) (d : Direction) (r : ℕ) : Type 0 where
  pub room : Room s r
  pub inner : Empty s (near_side d) r → ⊥
  pub lowest : (q : ℕ) → Room s q → SameWall s d (before r) (before q) → r ≤ q

-- the heads of all walls between, the lowest first
pub record Heads (s : Sheet) (d : Direction) (heads : List ℕ) : Type 0 where
  pub exact : (r : ℕ) → Listed heads r ↔ Head s d r
  pub rising : (i j a b : ℕ) → slice_get heads i ≡ Some a → slice_get heads j ≡ Some b → i < j → a < b

-- The wall of a face has a number: the west (north) wall 0, then the walls between by their heads, and the east (south) wall the last.
pub data Numbered (s : Sheet) (d : Direction) (heads : List ℕ) (f : Face) : ℕ → Type 0 where
  first : OnNearWall s d f → Numbered s d heads f 0
  inner : (i r : ℕ) → slice_get heads i ≡ Some r → SameWall s d (before r) f → Numbered s d heads f (suc i)
  last : OnFarWall s d f → Numbered s d heads f (suc (length heads))

abbrev pub WallNumber : Sheet → Direction → Face → ℕ → Type 0
WallNumber s d f n = (heads : List ℕ) × Heads s d heads × Numbered s d heads f n

-- the number of walls
abbrev pub WallCount : Sheet → Direction → ℕ → Type 0
WallCount s d n = (heads : List ℕ) × Heads s d heads × (n ≡ suc (suc (length heads)))
