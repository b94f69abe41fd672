-- Values compare as the elements that they mean: a comparison of numbers says which is the lesser, and one of partition lengths compares the distances and, where these are equal, the partitions.
use Rattle.std.specs.Prelude.{◌≡◌, ◌<◌, ◌≤◌, true, ◌&&◌, ◌==◌}
use Rattle.std.specs.Bool.{Decides, one_answer}
use Rattle.std.specs.Cmp.{Equal-is, IsTotalOrder, ranks}
use Rattle.std.specs.Ordering.{MatchOrdering, eq_by_cmp, flip_args, is_eq, nat_cmp, on, ordering_then, then_cmp}
use Rattle.std.specs.declared.cmp.Ordering.TheVariants.{Less, Equal, Greater}
use Rattle.std.specs.declared.cmp.Ordering.{Ordering}
use Rattle.std.proofs.Common.{sym, ap, ap₂, subst, inl, inr, eq-eqb, eqb-true}
use Rattle.std.proofs.Math.Nat.{le_refl, lt_irrefl, lt_trans, not-le_of_lt}
use Rattle.std.proofs.lemmas.Bool.{and_parts}
use Rattle.std.proofs.lemmas.Cmp.{back_total, nat_cmp_total, on_total, then_total, tied_itself}
use Rattle.measure.specs.Models.{Below}
use Rattle.measure.specs.Replies.{Compared}
use Rattle.measure.specs.Lengths.{Crossing, crossing, crossing_of, crossings, distance, figure_of, millimetres}
use Rattle.measure.specs.Measures.{crossings_lawful}
use Rattle.measure.specs.declared.lengths.Millimetres.{Millimetres}
use Rattle.measure.specs.declared.lengths.PartitionLength.{PartitionLength}

figures_compared : (x y : Millimetres) (o : Ordering) → MatchOrdering o (x.figure < y.figure) (x.figure ≡ y.figure) (y.figure < x.figure) → Compared millimetres figure_of x y o
figures_compared x y Less h = not-le_of_lt h
figures_compared x y Equal h = h
figures_compared x y Greater h = not-le_of_lt h

pub millimetres_ordered : (x y : Millimetres) → Compared millimetres figure_of x y (nat_cmp x.figure y.figure)
millimetres_ordered x y = figures_compared x y (nat_cmp x.figure y.figure) (ranks x.figure y.figure)

-- by distance, and at equal distance more partitions first
abbrev pub crossing_cmp : Crossing → Crossing → Ordering
crossing_cmp = then_cmp (on distance nat_cmp) (flip_args (on (λ x. x.partitions) nat_cmp))

pub crossing_cmp_total : IsTotalOrder crossing_cmp
crossing_cmp_total = then_total (on_total distance nat_cmp_total) (back_total (on_total (λ x. x.partitions) nat_cmp_total))

nearer : (x y : Crossing) → distance x < distance y → Below crossings x y
nearer x y h (inl a) = lt_irrefl (distance x) (lt_trans h a)
nearer x y h (inr k) = lt_irrefl (distance x) (subst (λ n. distance x < n) k.0 h)

more_partitions : (x y : Crossing) → distance x ≡ distance y → y.partitions < x.partitions → Below crossings x y
more_partitions x y e h (inl a) = lt_irrefl (distance y) (subst (λ n. distance y < n) e a)
more_partitions x y e h (inr k) = not-le_of_lt h k.1

as_many : (x y : Crossing) → distance x ≡ distance y → y.partitions ≡ x.partitions → x ≡ y
as_many x y e h =
    crossings_lawful.antisymmetric x y
    (inr (e, subst (λ n. y.partitions ≤ n) h (le_refl y.partitions)))
    (inr (sym e, subst (λ n. n ≤ y.partitions) h (le_refl y.partitions)))

partitions_compared : (x y : PartitionLength) (o : Ordering)
    → distance (crossing_of x) ≡ distance (crossing_of y)
    → MatchOrdering o (y.partitions < x.partitions) (y.partitions ≡ x.partitions) (x.partitions < y.partitions)
    → Compared crossings crossing_of x y o
partitions_compared x y Less e h = more_partitions (crossing_of x) (crossing_of y) e h
partitions_compared x y Equal e h = as_many (crossing_of x) (crossing_of y) e h
partitions_compared x y Greater e h = more_partitions (crossing_of y) (crossing_of x) (sym e) h

distances_compared : (x y : PartitionLength) (o : Ordering)
    → MatchOrdering o (distance (crossing_of x) < distance (crossing_of y)) (distance (crossing_of x) ≡ distance (crossing_of y)) (distance (crossing_of y) < distance (crossing_of x))
    → Compared crossings crossing_of x y (ordering_then o (nat_cmp y.partitions x.partitions))
distances_compared x y Less h = nearer (crossing_of x) (crossing_of y) h
distances_compared x y Equal h = partitions_compared x y (nat_cmp y.partitions x.partitions) h (ranks y.partitions x.partitions)
distances_compared x y Greater h = nearer (crossing_of y) (crossing_of x) h

pub crossings_ordered : (x y : PartitionLength) → Compared crossings crossing_of x y (on crossing_of crossing_cmp x y)
crossings_ordered x y = distances_compared x y (nat_cmp (distance (crossing_of x)) (distance (crossing_of y))) (ranks (distance (crossing_of x)) (distance (crossing_of y)))

same_figures : (x y : Crossing) → Decides ((x.clear == y.clear) && (x.partitions == y.partitions)) (x ≡ y)
same_figures x y = (
  λ t. let p = and_parts (x.clear == y.clear) (x.partitions == y.partitions) t in ap₂ crossing (eqb-true x.clear y.clear p.0) (eqb-true x.partitions y.partitions p.1),
  λ e. ap₂ ◌&&◌ (eq-eqb x.clear y.clear (ap (λ z. z.clear) e)) (eq-eqb x.partitions y.partitions (ap (λ z. z.partitions) e)),
)

-- equal figures are what the comparison does not tell apart
pub crossing_ties : (x y : PartitionLength) → ((x.clear == y.clear) && (x.partitions == y.partitions)) ≡ eq_by_cmp (on crossing_of crossing_cmp) x y
crossing_ties x y =
    one_answer ((x.clear == y.clear) && (x.partitions == y.partitions)) (eq_by_cmp (on crossing_of crossing_cmp) x y)
    (same_figures (crossing_of x) (crossing_of y)) (
      λ t. subst (Compared crossings crossing_of x y) ((Equal-is (on crossing_of crossing_cmp x y)).0 t) (crossings_ordered x y),
      λ e. subst (λ z. is_eq (crossing_cmp (crossing_of x) z) ≡ true) e (ap is_eq (tied_itself crossing_cmp_total (crossing_of x))),
    )
