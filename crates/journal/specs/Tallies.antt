-- Counting replies.
use Rattle.std.specs.Prelude.{◌≡◌, ℕ, ◌-◌, ◌^◌, min, Bool, true, false, not, List, length, filter, Ok, Err}
use Rattle.journal.specs.Replies.{Reply}
use Rattle.journal.specs.declared.reply.LineError.TheVariants.{Refused, Unreadable}
use Rattle.journal.specs.declared.tally.Tally.{Tally}

abbrev pub is_accepted : Reply → Bool
is_accepted (Ok u) = true
is_accepted (Err e) = false

abbrev pub is_refused : Reply → Bool
is_refused (Ok u) = false
is_refused (Err Unreadable) = false
is_refused (Err (Refused f)) = true

abbrev pub is_unreadable : Reply → Bool
is_unreadable (Ok u) = false
is_unreadable (Err Unreadable) = true
is_unreadable (Err (Refused f)) = false

-- a call was made: accepted or refused
abbrev pub is_call : Reply → Bool
is_call r = not (is_unreadable r)

-- how many replies pass a test; a count stops at the greatest number of 64 bits
abbrev pub count : (Reply → Bool) → List Reply → ℕ
count test rs = min (length (filter test rs)) (2 ^ 64 - 1)

pub record Tallied (t : Tally) (rs : List Reply) : Type 0 where
  pub calls : t.calls ≡ count is_call rs
  pub accepted : t.accepted ≡ count is_accepted rs
  pub refused : t.refused ≡ count is_refused rs
  pub unreadable : t.unreadable ≡ count is_unreadable rs
