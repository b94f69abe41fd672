-- The front of a list has the places of the list, and copying what stands behind a gap one place up leaves the front without the element at the gap.
use Rattle.std.proofs.Common.{◌≡◌, ℕ, suc, ◌+◌, ◌-◌, ◌<◌, ◌≤◌, List, length, get_or, take, drop, Some, sym, ap, ◌∙◌, add-one, length-take-le, get_or-take, arith}
use Rattle.std.specs.List.{copy_within, remove, slice_get}
use Rattle.std.proofs.lemmas.List.{take-take, drop-take, length-drop}
use Rattle.std.proofs.lemmas.List.Edits.{take-paste}
use Rattle.std.proofs.lemmas.Option.{slice_get-get_or}

pub nth_front : {X : Type 0} (xs : List X) (i n : ℕ) (d : X) → i < n → n ≤ length xs → slice_get (take n xs) i ≡ Some (get_or xs i d)
nth_front xs i n d l u =
    let e : i < length (take n xs) = rw (length-take-le n xs u) l in
    slice_get-get_or (take n xs) i d e ∙ ap Some (get_or-take n xs i d l)

gap : {X : Type 0} (ps : List X) (at m : ℕ) → at < m → m ≤ length ps → take (m - 1) (copy_within ps (at + 1) m at) ≡ remove (take m ps) at
gap ps at m l u =
    let n : ℕ = m - (at + 1) in
    let q : m - 1 ≡ at + n = omega arith in
    let r : at + 1 + n ≡ m = omega arith in
    let front : take at (take m ps) ≡ take at ps = take-take at m ps (omega arith) in
    let back : drop (suc at) (take m ps) ≡ take n (drop (at + 1) ps) =
    ap (λ (k : ℕ). drop (suc at) (take k ps)) (sym r) ∙ ap (λ (k : ℕ). drop k (take (at + 1 + n) ps)) (sym (add-one at)) ∙ drop-take (at + 1) n ps in
    ap (λ (k : ℕ). take k (copy_within ps (at + 1) m at)) q
    ∙ take-paste ps at (drop (at + 1) ps) n (omega arith) (simp length-drop (omega arith)) ∙ (rw (front, back))

-- what is copied is what stands behind the gap
pub closed_gap : {X : Type 0} (ps : List X) (at m start end : ℕ) → start ≡ at + 1 → end ≡ m → at < m → m ≤ length ps → take (m - 1) (copy_within ps start end at) ≡ remove (take m ps) at
closed_gap ps at m start end s f l u = rw (s, f) (gap ps at m l u)
