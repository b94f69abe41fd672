-- The text of each line that a journal prints.
use Rattle.std.specs.Prelude.{ℕ, ◌/◌, ◌%◌, ◌^◌, false, List, [], ◌∷◌, ◌++◌, codes, decimal, Ok, Err}
use Rattle.std.specs.Fmt.{digit_glyph}
use Rattle.fault.specs.Told.{fault_text}
use Rattle.journal.specs.Replies.{Reply}
use Rattle.journal.specs.declared.reply.LineError.{LineError}
use Rattle.journal.specs.declared.reply.LineError.TheVariants.{Refused, Unreadable}
use Rattle.journal.specs.declared.tally.Tally.{Tally}
use Rattle.journal.specs.declared.text.Summary.{Summary}

-- the hexadecimal digit of w above its k lowest bits, in lower case
abbrev pub place : ℕ → ℕ → ℕ
place w k = digit_glyph false (w / 2 ^ k % 16)

-- a word in eight lower-case hexadecimal digits, the highest first
abbrev pub word_text : ℕ → List ℕ
word_text w = place w 28 ∷ (place w 24 ∷ (place w 20 ∷ (place w 16 ∷ (place w 12 ∷ (place w 8 ∷ (place w 4 ∷ (place w 0 ∷ [])))))))

-- `unreadable` or `fault N R S`
abbrev pub error_text : LineError → List ℕ
error_text Unreadable = codes "unreadable"
error_text (Refused f) = fault_text f

-- `ok`, or the text of the error
abbrev pub reply_text : Reply → List ℕ
reply_text (Ok u) = codes "ok"
reply_text (Err e) = error_text e

-- `held K USE`
abbrev pub held_text : ℕ → ℕ → List ℕ
held_text room purpose = codes "held " ++ (decimal room ++ (codes " " ++ decimal purpose))

-- `pair WORD`
abbrev pub pair_text : ℕ → List ℕ
pair_text w = codes "pair " ++ word_text w

-- `calls N, accepted A, refused R, unreadable U`
abbrev pub tally_text : Tally → List ℕ
tally_text t =
    codes "calls " ++ (decimal t.calls ++ (codes ", accepted " ++ (decimal t.accepted ++ (codes ", refused " ++ (decimal t.refused ++ (codes ", unreadable " ++ decimal t.unreadable))))))

-- the text of its tally, and `; rooms X, pairs Y`
abbrev pub summary_text : Summary → List ℕ
summary_text s =
    tally_text s.tally ++ (codes "; rooms " ++ (decimal s.rooms ++ (codes ", pairs " ++ decimal s.pairs)))
