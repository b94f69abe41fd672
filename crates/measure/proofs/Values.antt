-- A value is its figures: the fact beside them has one proof at most.
use mathlib.Core.HLevel.{is_prop→PathP}
use Rattle.std.proofs.Common.{◌≡◌, ◌+◌, ◌*◌, ◌^◌, ◌≤◌}
use native.Mathlib.Bridge.{le_prop}
use Rattle.measure.specs.declared.book.Size.{Size}
use Rattle.measure.specs.declared.lengths.Millimetres.{Millimetres}
use Rattle.measure.specs.declared.lengths.PartitionLength.{PartitionLength}

pub same_millimetres : (x y : Millimetres) → x.figure ≡ y.figure → x ≡ y
same_millimetres x y e = λ i. record {
  figure = e i;
  small = is_prop→PathP (λ j. e j ≤ 2 ^ 30) (λ j. le_prop) x.small y.small i;
}

pub same_size : (s t : Size Millimetres) → s.width.figure ≡ t.width.figure → s.depth.figure ≡ t.depth.figure → s ≡ t
same_size s t w d = λ i. record { width = same_millimetres s.width t.width w i; depth = same_millimetres s.depth t.depth d i }

pub same_partition_length : (x y : PartitionLength) → x.clear ≡ y.clear → x.partitions ≡ y.partitions → x ≡ y
same_partition_length x y c p = λ i. record {
  clear = c i;
  partitions = p i;
  small = is_prop→PathP (λ j. c j + 100 * p j ≤ 2 ^ 30) (λ j. le_prop) x.small y.small i;
}
