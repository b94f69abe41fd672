-- What a size book says: for each use nothing, or a width and a depth.
use Rattle.std.specs.Prelude.{◌≡◌, ℕ, zero, suc, cond, List, [], ◌∷◌, Some, None, Ok, Err, Option, Result, ◌==◌}
use Rattle.std.specs.Option.{option_map}
use Rattle.fault.specs.declared.Fault.{Fault}
use Rattle.fault.specs.declared.Fault.TheVariants.{OutOfRange}
use Rattle.measure.specs.Models.{Model, Step}
use Rattle.measure.specs.Lengths.{Sized, crossing, crossing_of, mm, partitioned}
use Rattle.measure.specs.declared.book.Size.{Size}
use Rattle.measure.specs.declared.books.FlatBook.{FlatBook}
use Rattle.measure.specs.declared.lengths.Millimetres.{Millimetres}
use Rattle.measure.specs.declared.lengths.PartitionLength.{PartitionLength}

-- a size that a book may have: its width and its depth may both be steps
pub record Fair (m : Model) (greatest : ℕ) {Value : Type 0} (means : Value → m.Element) (s : Size Value) : Type 0 where
  pub width : Step m greatest (means s.width)
  pub depth : Step m greatest (means s.depth)

-- what a book may say of a use: nothing, or a fair size
abbrev pub Lawful : (m : Model) (greatest : ℕ) {Value : Type 0} (means : Value → m.Element) → Option (Size Value) → Type 0
Lawful m greatest means None = Unit {0}
Lawful m greatest means (Some s) = Fair m greatest means s

-- a row of a book in millimetres: a use, a width and a depth
pub record Row : Type 0 where
  pub purpose : ℕ
  pub width : ℕ
  pub depth : ℕ

abbrev pub row : ℕ → ℕ → ℕ → Row
row purpose width depth = record { purpose = purpose; width = width; depth = depth }

-- width by depth
abbrev pub by : ℕ → ℕ → Size Millimetres
by width depth = record { width = mm width; depth = mm depth }

-- what rows say of a use: the size in the first row of that use
abbrev pub listed : List Row → ℕ → Option (Size Millimetres)
listed [] u = None
listed (r ∷ rs) u = cond (u == r.purpose) (Some (by r.width r.depth)) (listed rs u)

-- corridor, office, meeting, washroom, store, kitchen
abbrev pub house : List Row
house = row 1 1200 1200 ∷ row 2 2400 3000 ∷ row 3 3600 3600 ∷ row 4 1500 1800 ∷ row 5 1800 1200 ∷ row 6 2400 2400 ∷ []

-- making a flat book: refused exactly when a figure is no size
abbrev pub FlatMade : ℕ → ℕ → Result FlatBook Fault → Type 0
FlatMade width depth (Ok b) = (b.size.width.figure ≡ width) × (b.size.depth.figure ≡ depth) × (Sized width × Sized depth)
FlatMade width depth (Err f) = (f ≡ OutOfRange) × (Sized width × Sized depth → ⊥)

-- one size for every use; 0 is no use
abbrev pub flat : FlatBook → ℕ → Option (Size Millimetres)
flat b zero = None
flat b (suc u) = Some b.size

-- the same uses, with a partition on top of each size
abbrev pub with_partitions : (ℕ → Option (Size Millimetres)) → ℕ → Option (Size PartitionLength)
with_partitions table u = option_map (λ s. record { width = partitioned s.width; depth = partitioned s.depth }) (table u)

-- a partition book's answer to what the book below it says: nothing to nothing, and to a size the same clear millimetres with one partition each
abbrev pub Partitioned : Option (Size Millimetres) → Option (Size PartitionLength) → Type 0
Partitioned None None = Unit {0}
Partitioned None (Some t) = ⊥
Partitioned (Some s) None = ⊥
Partitioned (Some s) (Some t) = (crossing_of t.width ≡ crossing s.width.figure 1) × (crossing_of t.depth ≡ crossing s.depth.figure 1)
