-- A book of rows is lawful when its rows are: the rule is one test of the whole table, which antt computes.
use Rattle.std.specs.Prelude.{◌≡◌, ℕ, ◌^◌, min, Bool, true, ◌&&◌, List, [], ◌∷◌, Some, ◌==◌, nat_le}
use Rattle.std.proofs.Common.{lit≤}
use Rattle.std.proofs.Math.Nat.{le-min, le_trans, min-le_left}
use Rattle.std.proofs.lemmas.Bool.{and_parts, cond_both, leb-true}
use Rattle.measure.specs.Books.{Fair, Lawful, Row, by, listed}
use Rattle.measure.specs.Lengths.{Sized, figure_of, millimetres}
use Rattle.measure.specs.Tables.{sized_step}

abbrev sized : ℕ → Bool
sized n = nat_le 1 n && nat_le n 60000

abbrev pub all_sized : List Row → Bool
all_sized [] = true
all_sized (r ∷ rs) = (sized r.width && sized r.depth) && all_sized rs

is_sized : (n : ℕ) → sized n ≡ true → Sized n
is_sized n t = let p = and_parts (nat_le 1 n) (nat_le n 60000) t in (leb-true 1 n p.0, leb-true n 60000 p.1)

-- no size is cut
within : (n : ℕ) → Sized n → Sized (min n (2 ^ 30))
within n h = (le-min h.0 (lit≤ tt), le_trans (min-le_left n (2 ^ 30)) h.1)

sized_fair : (width depth : ℕ) → Sized width → Sized depth → Fair millimetres 60000 figure_of (by width depth)
sized_fair width depth w d = record {
  width = sized_step (min width (2 ^ 30)) (within width w);
  depth = sized_step (min depth (2 ^ 30)) (within depth d);
}

pub rows_lawful : (rows : List Row) → all_sized rows ≡ true → (u : ℕ) → Lawful millimetres 60000 figure_of (listed rows u)
rows_lawful [] t u = tt
rows_lawful (r ∷ rs) t u =
    let here = and_parts (sized r.width && sized r.depth) (all_sized rs) t in
    let sides = and_parts (sized r.width) (sized r.depth) here.0 in
    cond_both (u == r.purpose) (Some (by r.width r.depth)) (listed rs u) (Lawful millimetres 60000 figure_of)
    (λ _. sized_fair r.width r.depth (is_sized r.width sides.0) (is_sized r.depth sides.1))
    (λ _. rows_lawful rs here.1 u)
