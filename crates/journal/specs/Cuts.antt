-- A text cut into lines.
use Rattle.std.specs.Prelude.{◌≡◌, ℕ, cond, List, [], ◌∷◌, ◌++◌, fold, ◌==◌, ◌≢◌}
use Rattle.std.specs.List.{flat_map, AllByRecursion}

pub record Cut : Type 0 where
  -- the lines that a line feed ends
  pub ended : List (List ℕ)
  -- the bytes after the last line feed
  pub rest : List ℕ

-- a line feed ends the line, and any other byte goes on with it
abbrev pub one_more : Cut → ℕ → Cut
one_more c b =
    cond (b == 10) (record { ended = c.ended ++ c.rest ∷ []; rest = [] }) (record { ended = c.ended; rest = c.rest ++ b ∷ [] })

unfoldable pub cut : List ℕ → Cut
cut text = fold one_more (record { ended = []; rest = [] }) text

-- a line and its line feed
abbrev pub with_feed : List ℕ → List ℕ
with_feed line = line ++ 10 ∷ []

-- the law of a cut: the text is its lines, each with its line feed, and the rest, and none of them has a line feed inside
pub record CutOf (text : List ℕ) (c : Cut) : Type 0 where
  pub whole : text ≡ flat_map with_feed c.ended ++ c.rest
  pub lines : AllByRecursion (AllByRecursion (λ b. b ≢ 10)) c.ended
  pub last : AllByRecursion (λ b. b ≢ 10) c.rest

-- the last line may lack its line feed
abbrev pub last_line : List ℕ → List (List ℕ)
last_line [] = []
last_line (b ∷ bs) = (b ∷ bs) ∷ []

abbrev pub lines_of : List ℕ → List (List ℕ)
lines_of text = (cut text).ended ++ last_line (cut text).rest
