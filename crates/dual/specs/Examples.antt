-- Worked sheets with plans in millimetres: house book, door 900.
use Rattle.std.specs.Prelude.{ℕ, List, [], ◌∷◌, map, slice_index}
use Rattle.measure.specs.Books.{house, listed}
use Rattle.measure.specs.Lengths.{figure_of, millimetres}
use Rattle.sheet.specs.Sheets.{Sheet}
use Rattle.sheet.specs.declared.pair.Direction.TheVariants.{Beside, Above}
use Rattle.sheet.specs.declared.pair.Pair.{Pair}
use Rattle.dual.specs.Marks.{mark}
use Rattle.dual.specs.Plans.{Keeps, Lengths, Plan, lengths, meant}

abbrev pub sheet : List ℕ → List Pair → Sheet
sheet uses pairs = record { uses = uses; pairs = pairs }

-- a room's west, north, east and south
pub record Place : Type 0 where
  pub west : ℕ
  pub north : ℕ
  pub east : ℕ
  pub south : ℕ

abbrev pub place : ℕ → ℕ → ℕ → ℕ → Place
place w n e s = record { west = w; north = n; east = e; south = s }

-- the figure of each room, the first room's first
abbrev by_room : (Place → ℕ) → List Place → ℕ → ℕ
by_room figure places r = slice_index (0 ∷ map figure places) r

abbrev pub plan : ℕ → ℕ → List Place → Plan millimetres
plan width depth places = record {
  width = width;
  depth = depth;
  west = by_room (λ p. p.west) places;
  north = by_room (λ p. p.north) places;
  east = by_room (λ p. p.east) places;
  south = by_room (λ p. p.south) places;
}

-- what the house book and a door of 900 ask for
abbrev pub asked : Sheet → Lengths millimetres
asked s = lengths millimetres s (meant millimetres figure_of (listed house)) 900

abbrev pub Kept : Sheet → Plan millimetres → Type 0
Kept s p = Keeps millimetres s (asked s) p

-- an office west of a washroom
abbrev pub two_rooms : Sheet
two_rooms = sheet (2 ∷ 4 ∷ []) (mark Beside 1 2 ∷ [])

abbrev pub two_rooms_plan : Plan millimetres
two_rooms_plan = plan 3900 3000 (place 0 0 2400 3000 ∷ place 2400 0 3900 3000 ∷ [])

-- four staggered corridors: 1 over 2, west of 3 over 4
abbrev pub staggered : Sheet
staggered = sheet (1 ∷ 1 ∷ 1 ∷ 1 ∷ []) (mark Above 1 2 ∷ mark Above 3 4 ∷ mark Beside 1 3 ∷ mark Beside 1 4 ∷ mark Beside 2 4 ∷ [])

abbrev pub staggered_plan : Plan millimetres
staggered_plan = plan 2400 3300 (place 0 0 1200 2100 ∷ place 0 2100 1200 3300 ∷ place 1200 0 2400 1200 ∷ place 1200 1200 2400 3300 ∷ [])

-- a pinwheel: four rooms around a corridor
abbrev pub pinwheel : Sheet
pinwheel = sheet (2 ∷ 4 ∷ 5 ∷ 6 ∷ 1 ∷ []) (
    mark Beside 1 2 ∷ mark Beside 5 2 ∷ mark Beside 4 5 ∷ mark Beside 4 3 ∷
    mark Above 1 4 ∷ mark Above 1 5 ∷ mark Above 2 3 ∷ mark Above 5 3 ∷ [])

abbrev pub pinwheel_plan : Plan millimetres
pinwheel_plan = plan 5100 5400 (
    place 0 0 3600 3000 ∷ place 3600 0 5100 4200 ∷ place 2400 4200 5100 5400 ∷
    place 0 3000 2400 5400 ∷ place 2400 3000 3600 4200 ∷ [])
