-- A word is below 2 ^ 32, so its kind is what is left after a shift by 28.
use Rattle.std.proofs.Common.{◌≡◌, ℕ, ◌/◌, ◌%◌, ◌^◌, ◌<◌, true, false, Ok, Err, Result, MatchResult, inr, arith}
use Rattle.std.proofs.lemmas.Bool.Decides.{nat_tests}
use Rattle.fault.specs.declared.Fault.{Fault}
use Rattle.fault.specs.declared.Fault.TheVariants.{WrongKind}
use Rattle.sheet.specs.Reads.{Named, PairRead, PairUnread, Read, Unread}
use Rattle.sheet.specs.Words.{is_pair, is_room, pair_in}
use Rattle.sheet.specs.declared.pair.Direction.{Direction}
use Rattle.sheet.specs.declared.pair.Direction.TheVariants.{Beside, Above}
use Rattle.sheet.specs.declared.pair.Pair.{Pair}
use Rattle.sheet.specs.declared.word.Entry.{Entry}
use Rattle.sheet.specs.declared.word.Entry.TheVariants.{Touch}
use Rattle.sheet.specs.declared.word.Kind.TheVariants.{RoomWord, PairWord}

-- the fields of a pair word
abbrev pub pair_of : Direction → ℕ → Pair
pair_of d w = record { direction = d; first = w / 256 % 256; second = w % 256 }

module _ (w : ℕ) (h : w < 2 ^ 32) where
  pub room_word : Named (w / 2 ^ 28) (Ok RoomWord) → (is_room w ≡ true) × (is_pair w ≡ false)
  unfolding is_room is_pair
  room_word k = (grind (arith, nat_tests), grind (arith, nat_tests))

  pub pair_word : (d : Direction) → Named (w / 2 ^ 28) (Ok (PairWord d)) → (is_room w ≡ false) × (is_pair w ≡ true) × (pair_of d w ≡ pair_in w)
  unfolding is_room is_pair pair_in
  pair_word Beside k = (grind (arith, nat_tests), grind (arith, nat_tests), grind (arith, nat_tests))
  pair_word Above k = (grind (arith, nat_tests), grind (arith, nat_tests), grind (arith, nat_tests))

  pub no_word : (f : Fault) → Named (w / 2 ^ 28) (Err f) → (is_room w ≡ false) × (is_pair w ≡ false) × (f ≡ WrongKind)
  unfolding is_room is_pair
  no_word f k =
      let beside = k.2 Beside in
      let above = k.2 Above in
      (grind (arith, nat_tests), grind (arith, nat_tests), k.0)

-- what a pair word that is no room word says, as an entry
pub touched : (n w : ℕ) (r : Result Pair Fault) (e : Result Entry Fault) → is_room w ≡ false → MatchResult r (PairRead n w) (PairUnread n w) → MatchResult r (λ p. e ≡ Ok (Touch p)) (λ f. e ≡ Err f) → MatchResult e (Read n w) (Unread n w)
touched n w (Ok p) e k h m = rw m (k, h)
touched n w (Err f) e k h m = rw m (inr (k, h))
