-- What the flat and the partition book say is lawful: every figure may be a step.
use Rattle.std.specs.Prelude.{◌≡◌, ℕ, zero, suc, ◌-◌, ◌^◌, ◌≤◌, min, Some, None, Option}
use Rattle.std.proofs.Common.{ap, subst, inl, inr, lit≤}
use Rattle.std.proofs.Math.Nat.{add-le-add, le-add_left, le_refl, le_trans, min-le_left, not-suc-le-zero}
use Rattle.measure.specs.Models.{Step}
use Rattle.measure.specs.Lengths.{Crossing, NoFarther, Sized, crossing, crossing_of, crossings, distance, figure_of, millimetres, partitioned}
use Rattle.measure.specs.Books.{Lawful, flat, with_partitions}
use Rattle.measure.specs.declared.book.Size.{Size}
use Rattle.measure.specs.declared.books.FlatBook.{FlatBook}
use Rattle.measure.specs.declared.lengths.Millimetres.{Millimetres}

pub sized_step : (n : ℕ) → Sized n → Step millimetres 60000 n
sized_step n h = record { above_zero = λ a. not-suc-le-zero (le_trans h.0 a); short = h.1 }

pub flat_lawful : (b : FlatBook) (u : ℕ) → Lawful millimetres 60000 figure_of (flat b u)
flat_lawful b zero = tt
flat_lawful b (suc u) = record {
  width = sized_step b.size.width.figure b.width_sized;
  depth = sized_step b.size.depth.figure b.depth_sized;
}

-- a length of some distance is not zero
not_zero : (x : Crossing) → 1 ≤ distance x → NoFarther x (crossing 0 0) → ⊥
not_zero x h (inl a) = not-suc-le-zero a
not_zero x h (inr k) = not-suc-le-zero (subst (λ n. 1 ≤ n) k.0 h)

-- a partition on top is a distance of 100 mm by itself, and raises the greatest step by as much
partitioned_step : (x : Millimetres) → Step millimetres 60000 (figure_of x) → Step crossings 60100 (crossing_of (partitioned x))
partitioned_step x h = record {
  above_zero = not_zero (crossing_of (partitioned x)) (le_trans (lit≤ tt) (le-add_left 100 (min x.figure (2 ^ 30 - 100))));
  short = add-le-add (le_trans (min-le_left x.figure (2 ^ 30 - 100)) h.short) (le_refl 100);
}

size_lawful : (o : Option (Size Millimetres)) → Lawful millimetres 60000 figure_of o → Lawful crossings 60100 crossing_of (with_partitions (λ _. o) 0)
size_lawful None h = tt
size_lawful (Some s) h = record { width = partitioned_step s.width h.width; depth = partitioned_step s.depth h.depth }

-- a book over a lawful one is lawful
pub with_partitions_lawful : (table : ℕ → Option (Size Millimetres)) (u : ℕ) → Lawful millimetres 60000 figure_of (table u) → Lawful crossings 60100 crossing_of (with_partitions table u)
with_partitions_lawful table u h = size_lawful (table u) h

pub with_partitions_unused : (table : ℕ → Option (Size Millimetres)) → table 0 ≡ None → with_partitions table 0 ≡ None
with_partitions_unused table e = ap (λ o. with_partitions (λ _. o) 0) e
