-- What a measure's functions answer.
use Rattle.std.specs.Prelude.{◌≡◌, ◌+◌, ◌^◌, ◌<◌, ◌≤◌, Some, None, Ok, Err, Option, Result}
use Rattle.std.specs.declared.cmp.Ordering.TheVariants.{Less, Equal, Greater}
use Rattle.std.specs.declared.cmp.Ordering.{Ordering}
use Rattle.fault.specs.declared.Fault.{Fault}
use Rattle.fault.specs.declared.Fault.TheVariants.{OutOfRange}
use Rattle.measure.specs.Models.{Model, Below}

module _ (m : Model) {Value : Type 0} (means : Value → m.Element) where
  -- making the value of an element: refused exactly when its extent passes 2^30
  abbrev pub Made : m.Element → Result Value Fault → Type 0
  Made x (Ok v) = (means v ≡ x) × (m.extent x ≤ 2 ^ 30)
  Made x (Err f) = (f ≡ OutOfRange) × (2 ^ 30 < m.extent x)

  -- adding: nothing exactly when the extents together pass 2^30, else the sum
  abbrev pub Added : Value → Value → Option Value → Type 0
  Added a b (Some v) = (means v ≡ m.sum (means a) (means b)) × (m.extent (means a) + m.extent (means b) ≤ 2 ^ 30)
  Added a b None = 2 ^ 30 < m.extent (means a) + m.extent (means b)

  -- comparing: below, equal or above
  abbrev pub Compared : Value → Value → Ordering → Type 0
  Compared a b Less = Below m (means a) (means b)
  Compared a b Equal = means a ≡ means b
  Compared a b Greater = Below m (means b) (means a)
