-- What every sheet keeps to.
use Rattle.std.specs.Prelude.{◌≡◌, ℕ, ◌≤◌, true, length, Some}
use Rattle.std.specs.List.{slice_get, AllByRecursion}
use Rattle.sheet.specs.Sheets.{Sheet, same_rooms}
use Rattle.sheet.specs.declared.pair.Pair.{Pair}

-- a number from low to high
abbrev pub Within : ℕ → ℕ → ℕ → Type 0
Within low high n = (low ≤ n) × (n ≤ high)

pub record JoinsTwo (rooms : ℕ) (p : Pair) : Type 0 where
  pub first_held : Within 1 rooms p.first
  pub second_held : Within 1 rooms p.second
  pub different : p.first ≡ p.second → ⊥

pub record Sound (s : Sheet) : Type 0 where
  pub few_rooms : length s.uses ≤ 200
  pub few_pairs : length s.pairs ≤ 600
  -- each use is from 1 to 255
  pub uses : AllByRecursion (Within 1 255) s.uses
  -- each pair joins two different held rooms
  pub pairs : AllByRecursion (JoinsTwo (length s.uses)) s.pairs
  -- no two pairs join the same two rooms
  pub apart : (i j : ℕ) (p q : Pair) → slice_get s.pairs i ≡ Some p → slice_get s.pairs j ≡ Some q → same_rooms p q ≡ true → i ≡ j
