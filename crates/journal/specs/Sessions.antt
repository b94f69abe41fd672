-- What a session holds after some bytes, and what more bytes and the end do.
use Rattle.std.specs.Prelude.{◌≡◌, ℕ, List, ◌++◌, take}
use Rattle.sheet.specs.Boards.{sheet_of}
use Rattle.sheet.specs.Calls.{sheet_after}
use Rattle.journal.specs.Cuts.{Cut, cut}
use Rattle.journal.specs.Tallies.{Tallied}
use Rattle.journal.specs.Transcripts.{answered_so_far, calls_in, replies, transcript}
use Rattle.journal.specs.declared.session.Session.{Session}

-- what a session holds at a cut of the text: its board has the sheet that the ended lines made, its counts are of their replies, and its line is the first bytes of the rest
pub record Holds (j : Session) (c : Cut) : Type 0 where
  pub sheet : sheet_of j.board ≡ sheet_after (calls_in c.ended)
  pub tally : Tallied j.tally (replies c.ended)
  pub line : j.line.items ≡ take 16 c.rest

-- the session has been fed this text
abbrev pub After : Session → List ℕ → Type 0
After j text = Holds j (cut text)

-- `more` is what the longer answer has behind the shorter
pub record Adds (shorter longer out out' : List ℕ) : Type 0 where
  pub more : List ℕ
  pub longer_is : longer ≡ shorter ++ more
  pub out_is : out' ≡ out ++ more

-- whatever text was fed before, the session has now been fed these bytes too, and the replies to the lines that they ended are added to the output
abbrev pub Fed : Session → Session → List ℕ → List ℕ → List ℕ → Type 0
Fed j k bytes out out' =
    (text : List ℕ) → After j text → After k (text ++ bytes) × Adds (answered_so_far text) (answered_so_far (text ++ bytes)) out out'

-- whatever text was fed before, the rest of its transcript is added to the output
abbrev pub Finished : Session → List ℕ → List ℕ → Type 0
Finished j out out' = (text : List ℕ) → After j text → Adds (answered_so_far text) (transcript text) out out'
