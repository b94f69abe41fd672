-- What the bits of a word say.
use Rattle.std.specs.Prelude.{ℕ, ◌+◌, ◌-◌, ◌*◌, ◌/◌, ◌%◌, ◌^◌, Bool, cond, ◌&&◌, ◌||◌, ◌==◌, nat_le}
use Rattle.sheet.specs.Sheets.{held}
use Rattle.sheet.specs.declared.pair.Direction.{Direction}
use Rattle.sheet.specs.declared.pair.Direction.TheVariants.{Beside, Above}
use Rattle.sheet.specs.declared.pair.Pair.{Pair}

-- bits `high` to `low` of a word, as a number
abbrev pub bits : ℕ → ℕ → ℕ → ℕ
bits high low w = w / 2 ^ low % 2 ^ (high + 1 - low)

abbrev pub kind : ℕ → ℕ
kind w = bits 31 28 w

-- kind 1 is a room
unfoldable pub is_room : ℕ → Bool
is_room w = kind w == 1

-- kind 2 is a pair whose first room lies west, kind 3 one whose first room lies north
unfoldable pub is_pair : ℕ → Bool
is_pair w = kind w == 2 || kind w == 3

abbrev pub use_in : ℕ → ℕ
use_in w = bits 7 0 w

unfoldable pub pair_in : ℕ → Pair
pair_in w = record { direction = cond (kind w == 2) Beside Above; first = bits 15 8 w; second = bits 7 0 w }

-- a room word's fields are in range: a use from 1 to 255, the bits between zero
unfoldable pub room_fits : ℕ → Bool
room_fits w = bits 27 8 w == 0 && nat_le 1 (bits 7 0 w)

-- a pair word's fields are in range: two held rooms, the bits between zero
unfoldable pub pair_fits : ℕ → ℕ → Bool
pair_fits rooms w = bits 27 16 w == 0 && (held rooms (bits 15 8 w) && held rooms (bits 7 0 w))

abbrev pub kind_of : Direction → ℕ
kind_of Beside = 2
kind_of Above = 3

-- the word of a pair
abbrev pub word_of : Pair → ℕ
word_of p = kind_of p.direction * 2 ^ 28 + p.first * 2 ^ 8 + p.second
