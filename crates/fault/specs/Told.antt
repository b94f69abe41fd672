-- What each refusal tells: its number, the room that it names, and the spot that it names.
use Rattle.std.specs.Prelude.{ℕ, List, ◌++◌, codes, decimal}
use Rattle.fault.specs.declared.Side.{Side}
use Rattle.fault.specs.declared.Side.TheVariants.{North, East, South, West}
use Rattle.fault.specs.declared.Corner.{Corner}
use Rattle.fault.specs.declared.Corner.TheVariants.{NorthWest, NorthEast, SouthEast, SouthWest}
use Rattle.fault.specs.declared.Axis.{Axis}
use Rattle.fault.specs.declared.Axis.TheVariants.{Across, Down}
use Rattle.fault.specs.declared.Fault.{Fault}
use Rattle.fault.specs.declared.Fault.TheVariants.{WrongKind, OutOfRange, Full, SameRoom, AlreadyJoined, NotHeld, NoRooms, BadDoor, UnknownUse, TooShort, NotInOrder, NotClosed, Looped, TooWide, TooDeep}

pub record Told : Type 0 where
  pub number : ℕ
  pub room : ℕ
  pub spot : ℕ

abbrev row : ℕ → ℕ → ℕ → Told
row n r s = record { number = n; room = r; spot = s }

abbrev pub side_number : Side → ℕ
side_number North = 0
side_number East = 1
side_number South = 2
side_number West = 3

abbrev pub corner_number : Corner → ℕ
corner_number NorthWest = 0
corner_number NorthEast = 1
corner_number SouthEast = 2
corner_number SouthWest = 3

abbrev pub axis_number : Axis → ℕ
axis_number Across = 0
axis_number Down = 1

-- number, room, spot; 0 where none is named
abbrev pub told : Fault → Told
told WrongKind = row 1 0 0
told OutOfRange = row 2 0 0
told Full = row 3 0 0
told SameRoom = row 4 0 0
told AlreadyJoined = row 5 0 0
told NotHeld = row 6 0 0
told NoRooms = row 7 0 0
told BadDoor = row 8 0 0
told (UnknownUse room) = row 9 room 0
told TooShort = row 10 0 0
told (NotInOrder room side) = row 11 room (side_number side)
told (NotClosed room corner) = row 12 room (corner_number corner)
told (Looped room axis) = row 13 room (axis_number axis)
told TooWide = row 14 0 0
told TooDeep = row 15 0 0

-- `fault N R S`
abbrev pub fault_text : Fault → List ℕ
fault_text f = codes "fault " ++ (decimal (told f).number ++ (codes " " ++ (decimal (told f).room ++ (codes " " ++ decimal (told f).spot))))
