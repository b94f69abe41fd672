-- Plans, and what it is for a plan to keep a sheet, a size book and a door.
use Rattle.std.specs.Prelude.{◌≡◌, ℕ, ◌⊎◌, ◌↔◌, List, [], ◌∷◌, Some, Option, ◌≢◌}
use Rattle.std.specs.Option.{option_flatten, option_map}
use Rattle.std.specs.List.{AllByRecursion}
use Rattle.fault.specs.declared.Side.{Side}
use Rattle.fault.specs.declared.Side.TheVariants.{North, East, South, West}
use Rattle.measure.specs.Models.{Model, Below}
use Rattle.measure.specs.declared.book.Size.{Size}
use Rattle.sheet.specs.Sheets.{Sheet, use_of}
use Rattle.sheet.specs.declared.pair.Direction.{Direction}
use Rattle.sheet.specs.declared.pair.Direction.TheVariants.{Beside, Above}
use Rattle.sheet.specs.declared.pair.Pair.{Pair}
use Rattle.dual.specs.Marks.{Room, Marked, mark, turn}

-- positions by room number; of a number that is no held room nothing is said
pub record Plan (m : Model) : Type 0 where
  pub width : m.Element
  pub depth : m.Element
  pub west : ℕ → m.Element
  pub north : ℕ → m.Element
  pub east : ℕ → m.Element
  pub south : ℕ → m.Element

-- a plan seen in one direction: where it begins and ends, and where each room does
pub record Line (E : Type 0) : Type 0 where
  pub near : E
  pub far : E
  pub lo : ℕ → E
  pub hi : ℕ → E

-- what has to fit into a plan: how long each room must be in each direction, if that is known, and how long the wall that a pair shares
pub record Lengths (m : Model) : Type 0 where
  pub room : Direction → ℕ → Option m.Element
  pub wall : Pair → m.Element

-- rooms that are all different
abbrev pub Different : List ℕ → Type 0
Different [] = Unit {0}
Different (a ∷ rooms) = AllByRecursion (λ b. a ≢ b) rooms × Different rooms

module _ (m : Model) where
  abbrev pub line : Plan m → Direction → Line m.Element
  line p Beside = record { near = m.zero; far = p.width; lo = p.west; hi = p.east }
  line p Above = record { near = m.zero; far = p.depth; lo = p.north; hi = p.south }

  -- where a side of a room stands, and where that edge of the plan does
  abbrev pub stands : Plan m → Side → ℕ → m.Element
  stands p North = p.north
  stands p East = p.east
  stands p South = p.south
  stands p West = p.west

  abbrev pub edge_at : Plan m → Side → m.Element
  edge_at p North = m.zero
  edge_at p East = p.width
  edge_at p South = p.depth
  edge_at p West = m.zero

  -- x lies from a up to, and not at, b
  abbrev pub FromTo : m.Element → m.Element → m.Element → Type 0
  FromTo a b x = m.at_most a x × Below m x b

  -- x lies within the room r, in one direction
  abbrev pub Inside : Line m.Element → ℕ → m.Element → Type 0
  Inside l r x = FromTo (l.lo r) (l.hi r) x

  -- the point (x, y) is in the room r, which has its west and north bounds and lacks the other two
  abbrev pub InRoom : Plan m → ℕ → m.Element → m.Element → Type 0
  InRoom p r x y = Inside (line p Beside) r x × Inside (line p Above) r y

  -- the point (x, y) is a corner of the room r
  abbrev pub CornerAt : Plan m → m.Element → m.Element → ℕ → Type 0
  CornerAt p x y r = ((p.west r ≡ x) ⊎ (p.east r ≡ x)) × ((p.north r ≡ y) ⊎ (p.south r ≡ y))

  -- z is the greater of x and y; z is the lesser
  abbrev pub GreaterOf : m.Element → m.Element → m.Element → Type 0
  GreaterOf x y z = ((x ≡ z) ⊎ (y ≡ z)) × (m.at_most x z × m.at_most y z)

  abbrev pub LesserOf : m.Element → m.Element → m.Element → Type 0
  LesserOf x y z = ((x ≡ z) ⊎ (y ≡ z)) × (m.at_most z x × m.at_most z y)

  -- the wall that a and b share: a ends where b begins, and the wall runs from the greater of where they begin the other way to the lesser of where they end
  pub record SharedWall (p : Plan m) (d : Direction) (a b : ℕ) : Type 0 where
    pub meet : (line p d).hi a ≡ (line p d).lo b
    pub start : m.Element
    pub end : m.Element
    pub starts : GreaterOf ((line p (turn d)).lo a) ((line p (turn d)).lo b) start
    pub ends : LesserOf ((line p (turn d)).hi a) ((line p (turn d)).hi b) end
    pub some : Below m start end

  -- the room r is proper, and inside the plan, in one direction
  pub record Proper (l : Line m.Element) (r : ℕ) : Type 0 where
    pub proper : Below m (l.lo r) (l.hi r)
    pub begins : m.at_most l.near (l.lo r)
    pub ends : m.at_most (l.hi r) l.far

  -- the plan is a rectangular dual of the sheet: its rooms fill it, no four at a point, and they touch just as the sheet marks them
  pub record Dual (s : Sheet) (p : Plan m) : Type 0 where
    pub some : (r : ℕ) × Room s r
    pub proper : (d : Direction) (r : ℕ) → Room s r → Proper (line p d) r
    pub covered : (x y : m.Element) → FromTo m.zero p.width x → FromTo m.zero p.depth y → (r : ℕ) × Room s r × InRoom p r x y
    pub single : (x y : m.Element) (a b : ℕ) → Room s a → Room s b → InRoom p a x y → InRoom p b x y → a ≡ b
    pub uncrossed : (x y : m.Element) (a b c e : ℕ) → Different (a ∷ b ∷ c ∷ e ∷ []) → AllByRecursion (λ r. Room s r × CornerAt p x y r) (a ∷ b ∷ c ∷ e ∷ []) → ⊥
    pub touching : (d : Direction) (a b : ℕ) → Room s a → Room s b → SharedWall p d a b ↔ Marked s d a b

  -- the plan keeps the sheet and leaves room for the lengths
  pub record Keeps (s : Sheet) (l : Lengths m) (p : Plan m) : Type 0 where
    pub dual : Dual s p
    -- each room has a known length in each direction, and is at least so long
    pub sizes : (d : Direction) (r : ℕ) → Room s r → (x : m.Element) × (l.room d r ≡ Some x) × m.at_most (m.sum ((line p d).lo r) x) ((line p d).hi r)
    -- every shared wall is long enough
    pub doors : (d : Direction) (a b : ℕ) → Room s a → Room s b → (w : SharedWall p d a b) → m.at_most (m.sum w.start (l.wall (mark d a b))) w.end

  -- a table of sizes gives a use nothing, or a width and a depth
  abbrev pub Sizes : Type 0
  Sizes = ℕ → Option (Size m.Element)

  -- a size book's table in elements, by what its values mean
  abbrev pub meant : {Value : Type 0} → (Value → m.Element) → (ℕ → Option (Size Value)) → Sizes
  meant means table u = option_map (λ z. record { width = means z.width; depth = means z.depth }) (table u)

  -- the width or the depth
  abbrev pub measured : Direction → Size m.Element → m.Element
  measured Beside z = z.width
  measured Above z = z.depth

  -- the lengths that a table of sizes and a door ask for: each room the size of its use, each pair the door
  abbrev pub lengths : Sheet → Sizes → m.Element → Lengths m
  lengths s sizes door = record { room = λ d r. option_map (measured d) (option_flatten (option_map sizes (use_of s r))); wall = λ pair. door }

  -- the lengths are all above zero
  pub record Positive (l : Lengths m) : Type 0 where
    pub rooms : (d : Direction) (r : ℕ) (x : m.Element) → l.room d r ≡ Some x → Below m m.zero x
    pub walls : (pair : Pair) → Below m m.zero (l.wall pair)

  -- the plan fits a site that is so wide and so deep
  pub record Fits (site_width site_depth : m.Element) (p : Plan m) : Type 0 where
    pub width : m.at_most p.width site_width
    pub depth : m.at_most p.depth site_depth
