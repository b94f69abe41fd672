-- What lengths mean: elements with a total order, a sum, a zero and an extent.
use Rattle.std.specs.Prelude.{◌≡◌, ℕ, ◌+◌, ◌≤◌, ◌⊎◌}

pub record Model : Type 1 where
  pub Element : Type 0
  pub at_most : Element → Element → Type 0
  pub sum : Element → Element → Element
  pub zero : Element
  pub extent : Element → ℕ

-- x is below y when y is not at most x; since any two are compared, x is then at most y
abbrev pub Below : (m : Model) → m.Element → m.Element → Type 0
Below m x y = m.at_most y x → ⊥

-- All that may be assumed of a model. The sum need not commute, zero need not be the least element, and the order need not follow the extent.
pub record Laws (m : Model) : Type 0 where
  pub reflexive : (x : m.Element) → m.at_most x x
  pub transitive : (x y z : m.Element) → m.at_most x y → m.at_most y z → m.at_most x z
  pub antisymmetric : (x y : m.Element) → m.at_most x y → m.at_most y x → x ≡ y
  pub total : (x y : m.Element) → m.at_most x y ⊎ m.at_most y x
  pub associative : (x y z : m.Element) → m.sum (m.sum x y) z ≡ m.sum x (m.sum y z)
  pub zero_first : (x : m.Element) → m.sum m.zero x ≡ x
  pub zero_last : (x : m.Element) → m.sum x m.zero ≡ x
  pub grows_first : (x y z : m.Element) → Below m x y → Below m (m.sum x z) (m.sum y z)
  pub grows_last : (x y z : m.Element) → Below m x y → Below m (m.sum z x) (m.sum z y)
  pub extent_sum : (x y : m.Element) → m.extent (m.sum x y) ≡ m.extent x + m.extent y
  pub extent_zero : m.extent m.zero ≡ 0

-- a length that a step may have: above zero, and of an extent up to the greatest step
pub record Step (m : Model) (greatest : ℕ) (x : m.Element) : Type 0 where
  pub above_zero : Below m m.zero x
  pub short : m.extent x ≤ greatest
