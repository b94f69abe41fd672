-- The two models: millimetres, and lengths that count the partitions they cross.
use Rattle.std.specs.Prelude.{◌≡◌, ℕ, ◌+◌, ◌-◌, ◌*◌, ◌^◌, ◌<◌, ◌≤◌, min, ◌⊎◌}
use Rattle.std.proofs.Math.Nat.{add-le-add, le_refl, min-le_right}
use Rattle.measure.specs.Models.{Model}
use Rattle.measure.specs.declared.lengths.Millimetres.{Millimetres}
use Rattle.measure.specs.declared.lengths.PartitionLength.{PartitionLength}

-- whole numbers, with their order and sum; the number is the extent
abbrev pub millimetres : Model
millimetres = record { Element = ℕ; at_most = ◌≤◌; sum = ◌+◌; zero = 0; extent = λ n. n }

abbrev pub figure_of : Millimetres → ℕ
figure_of x = x.figure

-- so many millimetres as a value. A figure past 2^30, where there is none, is cut; no book has one.
abbrev pub mm : ℕ → Millimetres
mm n = record { figure = min n (2 ^ 30); small = min-le_right n (2 ^ 30) }

-- a figure that a size in millimetres may have
abbrev pub Sized : ℕ → Type 0
Sized n = (1 ≤ n) × (n ≤ 60000)

-- millimetres in the clear, and partitions crossed
pub record Crossing : Type 0 where
  pub clear : ℕ
  pub partitions : ℕ

abbrev pub crossing : ℕ → ℕ → Crossing
crossing clear partitions = record { clear = clear; partitions = partitions }

-- a partition is 100 mm thick
abbrev pub distance : Crossing → ℕ
distance x = x.clear + 100 * x.partitions

-- a smaller distance is the lesser; at equal distance, more partitions are the lesser
abbrev pub NoFarther : Crossing → Crossing → Type 0
NoFarther x y = (distance x < distance y) ⊎ ((distance x ≡ distance y) × (y.partitions ≤ x.partitions))

-- added part by part
abbrev pub joined : Crossing → Crossing → Crossing
joined x y = crossing (x.clear + y.clear) (x.partitions + y.partitions)

abbrev pub crossings : Model
crossings = record { Element = Crossing; at_most = NoFarther; sum = joined; zero = crossing 0 0; extent = distance }

abbrev pub crossing_of : PartitionLength → Crossing
crossing_of x = crossing x.clear x.partitions

-- the same length with a partition on top. Past 2^30 - 100 mm, where there is none, it is cut; no book has such a length.
abbrev pub partitioned : Millimetres → PartitionLength
partitioned x = record { clear = min x.figure (2 ^ 30 - 100); partitions = 1; small = add-le-add (min-le_right x.figure (2 ^ 30 - 100)) (le_refl 100) }
