-- What a plan that keeps a sheet forces, in any model.
use Rattle.std.specs.Prelude.{◌≡◌, ℕ, ◌↔◌, List, ◌≢◌}
use Rattle.fault.specs.declared.Side.{Side}
use Rattle.measure.specs.Models.{Model}
use Rattle.sheet.specs.Sheets.{Sheet}
use Rattle.sheet.specs.Sound.{Sound}
use Rattle.sheet.specs.declared.pair.Direction.{Direction}
use Rattle.dual.specs.Marks.{OnSide, Empty, along}
use Rattle.dual.specs.Plans.{Dual, Inside, Keeps, Lengths, Plan, edge_at, line, stands}
use Rattle.dual.specs.Walls.{Face, SameWall}
use Rattle.dual.specs.Ways.{LeastPosition, Step, Way, position, total}

-- a side of a room is empty exactly when it stands at the edge of the plan; otherwise, at every height within the room, a room on that side is there
pub record Neighboured (m : Model) (s : Sheet) (p : Plan m) (side : Side) (r : ℕ) : Type 0 where
  pub empty_at_edge : Empty s side r ↔ (stands m p side r ≡ edge_at m p side)
  pub at_every_height : (x : m.Element) → Inside m (line m p (along side)) r x → (stands m p side r ≢ edge_at m p side) →
      (a : ℕ) × OnSide s side r a × Inside m (line m p (along side)) a x

-- the plan has every wall at one position, and no way to a wall has a sum beyond it; so no least position is beyond it
pub record NotBelow (m : Model) (s : Sheet) (l : Lengths m) (p : Plan m) : Type 0 where
  pub straight : (d : Direction) (f g : Face) → SameWall s d f g → position m p d f ≡ position m p d g
  pub ways : (d : Direction) (ts : List (Step m)) (f : Face) → Way m s l d ts f → m.at_most (total m ts) (position m p d f)
  pub least : (d : Direction) (f : Face) (x : m.Element) → LeastPosition m s l d f x → m.at_most x (position m p d f)

-- a fact of every sound sheet and every rectangular dual of it
abbrev pub InEveryDual : (m : Model) → ((s : Sheet) → Plan m → Type 0) → Type 0
InEveryDual m Fact = (s : Sheet) → Sound s → (p : Plan m) → Dual m s p → Fact s p

-- a fact of every sound sheet, all lengths, and every plan that keeps them
abbrev pub InEveryPlan : (m : Model) → ((s : Sheet) → Lengths m → Plan m → Type 0) → Type 0
InEveryPlan m Fact = (s : Sheet) → Sound s → (l : Lengths m) (p : Plan m) → Keeps m s l p → Fact s l p
