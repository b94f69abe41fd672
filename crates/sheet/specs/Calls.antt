-- The calls on a sheet: which refusal each meets, and the sheet that it leaves.
use Rattle.std.specs.Prelude.{Bool, cond, not, ◌&&◌, ◌||◌, List, [], ◌∷◌, length, is_ok, Ok, Err, Result, ◌==◌, nat_le}
use Rattle.fault.specs.declared.Fault.{Fault}
use Rattle.fault.specs.declared.Fault.TheVariants.{WrongKind, OutOfRange, Full, SameRoom, AlreadyJoined, NotHeld}
use Rattle.sheet.specs.declared.edit.Edit.{Edit}
use Rattle.sheet.specs.declared.edit.Edit.TheVariants.{Enter, Strike}
use Rattle.sheet.specs.Sheets.{Sheet, empty, joined, holds, with_room, with_pair, without_pair}
use Rattle.sheet.specs.Words.{is_room, is_pair, use_in, pair_in, room_fits, pair_fits}

-- a refusal, and whether it applies
pub record Row : Type 0 where
  pub refusal : Fault
  pub applies : Bool

infix 30 ◌when◌
abbrev pub ◌when◌ : Fault → Bool → Row
f when b = record { refusal = f; applies = b }

-- the refusals of a call on a sheet, by number
abbrev pub refusals : Sheet → Edit → List Row
refusals s (Enter w) =
    (WrongKind when not (is_room w || is_pair w))
    ∷ (OutOfRange when not (cond (is_room w) (room_fits w) (pair_fits (length s.uses) w)))
    ∷ (Full when cond (is_room w) (nat_le 200 (length s.uses)) (nat_le 600 (length s.pairs)))
    ∷ (SameRoom when (is_pair w && (pair_in w).first == (pair_in w).second))
    ∷ (AlreadyJoined when (is_pair w && joined s (pair_in w)))
    ∷ []
refusals s (Strike w) =
    (WrongKind when not (is_pair w))
    ∷ (OutOfRange when not (pair_fits (length s.uses) w))
    ∷ (NotHeld when not (holds s (pair_in w)))
    ∷ []

-- the first that applies is told; where none does, the call is accepted
abbrev pub first_told : List Row → Result (Unit {0}) Fault
first_told [] = Ok tt
first_told (r ∷ rs) = cond r.applies (Err r.refusal) (first_told rs)

-- the reply to a call on a sheet
unfoldable pub judged : Sheet → Edit → Result (Unit {0}) Fault
judged s e = first_told (refusals s e)

-- what an accepted call makes of a sheet
abbrev pub done : Sheet → Edit → Sheet
done s (Enter w) = cond (is_room w) (with_room s (use_in w)) (with_pair s (pair_in w))
done s (Strike w) = without_pair s (pair_in w)

pub data Call : Type 0 where
  edit : Edit → Call
  draw : Call

-- the sheet after one call: a refused one leaves it, and so does a drawing
abbrev pub after : Sheet → Call → Sheet
after s (edit e) = cond (is_ok (judged s e)) (done s e) s
after s draw = s

-- the sheet that a list of calls makes of another, the first call first
abbrev pub run : Sheet → List Call → Sheet
run s [] = s
run s (c ∷ cs) = run (after s c) cs

-- the sheet that a list of calls makes on a fresh board
abbrev pub sheet_after : List Call → Sheet
sheet_after cs = run empty cs
