-- What reading a word finds: the entry that it says, or why it says none.
use Rattle.std.specs.Prelude.{◌≡◌, ◌≢◌, ℕ, true, false, ◌⊎◌, Ok, Err, Result}
use Rattle.fault.specs.declared.Fault.{Fault}
use Rattle.fault.specs.declared.Fault.TheVariants.{WrongKind, OutOfRange}
use Rattle.sheet.specs.Words.{is_room, is_pair, kind_of, room_fits, pair_fits, use_in, pair_in}
use Rattle.sheet.specs.declared.pair.Direction.{Direction}
use Rattle.sheet.specs.declared.pair.Pair.{Pair}
use Rattle.sheet.specs.declared.word.Entry.{Entry}
use Rattle.sheet.specs.declared.word.Entry.TheVariants.{Room, Touch}
use Rattle.sheet.specs.declared.word.Kind.{Kind}
use Rattle.sheet.specs.declared.word.Kind.TheVariants.{RoomWord, PairWord}

-- the kind that a number names, or that it names none
abbrev pub Named : ℕ → Result Kind Fault → Type 0
Named n (Ok RoomWord) = n ≡ 1
Named n (Ok (PairWord d)) = n ≡ kind_of d
Named n (Err f) = (f ≡ WrongKind) × (n ≢ 1) × ((d : Direction) → n ≢ kind_of d)

abbrev pub PairRead : ℕ → ℕ → Pair → Type 0
PairRead n w p = (is_pair w ≡ true) × (pair_fits n w ≡ true) × (p ≡ pair_in w)

abbrev pub PairUnread : ℕ → ℕ → Fault → Type 0
PairUnread n w f =
    ((is_pair w ≡ false) × (f ≡ WrongKind)) ⊎ ((is_pair w ≡ true) × (pair_fits n w ≡ false) × (f ≡ OutOfRange))

abbrev pub Read : ℕ → ℕ → Entry → Type 0
Read n w (Room u) = (is_room w ≡ true) × (room_fits w ≡ true) × (u ≡ use_in w)
Read n w (Touch p) = (is_room w ≡ false) × PairRead n w p

abbrev pub Unread : ℕ → ℕ → Fault → Type 0
Unread n w f =
    ((is_room w ≡ true) × (room_fits w ≡ false) × (f ≡ OutOfRange)) ⊎ ((is_room w ≡ false) × PairUnread n w f)
