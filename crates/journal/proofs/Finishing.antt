-- At the end a rest that is not empty is one line more, and what follows the replies is printed from the sheet and the counts.
use Rattle.std.proofs.Common.{◌≡◌, ℕ, List, [], ◌∷◌, ◌++◌, length, take, sym, refl, ap, ◌∙◌, subst, ap₂, arith}
use Rattle.std.proofs.lemmas.List.{append_assoc, append-nil, length-take, nil_from_length}
use Rattle.sheet.specs.Boards.{sheet_of}
use Rattle.sheet.specs.Calls.{sheet_after}
use Rattle.sheet.specs.Sheets.{Sheet}
use Rattle.journal.specs.Cuts.{Cut, cut, last_line, lines_of, with_feed}
use Rattle.journal.specs.Replies.{Reply}
use Rattle.journal.specs.Sessions.{Adds, After, Fed}
use Rattle.journal.specs.Tallies.{Tallied}
use Rattle.journal.specs.Texts.{summary_text}
use Rattle.journal.specs.Transcripts.{answered_so_far, calls_in, closing, pair_lines, replies, reply_lines, room_lines, summary_of, transcript}
use Rattle.journal.specs.declared.session.Session.{Session}
use Rattle.journal.specs.declared.tally.Tally.{Tally}
use Rattle.journal.specs.declared.text.Summary.{Summary}
use Rattle.journal.proofs.Cutting.{cut_feed}
use Rattle.journal.proofs.Feeding.{adds_none, adds_then}

-- the session holds just the lines of the text, and the replies to them are out
pub record Ready (k : Session) (text out out' : List ℕ) : Type 0 where
  pub sheet : sheet_of k.board ≡ sheet_after (calls_in (lines_of text))
  pub tally : Tallied k.tally (replies (lines_of text))
  pub adds : Adds (answered_so_far text) (reply_lines (replies (lines_of text))) out out'

some_last : (rest : List ℕ) → (rest ≡ [] → ⊥) → last_line rest ≡ rest ∷ []
some_last [] n = absurd (n refl)
some_last (b ∷ bs) n = refl

no_rest : (rest : List ℕ) → take 16 rest ≡ [] → rest ≡ []
no_rest rest e = nil_from_length rest (omega (arith, length-take 16 rest, ap length e))

-- the lines of the text are these
ready : (k : Session) (text out out' : List ℕ) (ls : List (List ℕ)) → ls ≡ lines_of text → sheet_of k.board ≡ sheet_after (calls_in ls) → Tallied k.tally (replies ls) → Adds (answered_so_far text) (reply_lines (replies ls)) out out' → Ready k text out out'
ready k text out out' ls all sheet tally adds = record {
  sheet = sheet ∙ ap (λ (x : List (List ℕ)). sheet_after (calls_in x)) all;
  tally = subst (λ (x : List (List ℕ)). Tallied k.tally (replies x)) all tally;
  adds = subst (λ (x : List (List ℕ)). Adds (answered_so_far text) (reply_lines (replies x)) out out') all adds;
}

-- nothing is left of the last line
pub ready_now : (j : Session) (text out : List ℕ) → After j text → j.line.items ≡ [] → Ready j text out out
ready_now j text out h e =
    let none : lines_of text ≡ (cut text).ended = ap (λ (x : List ℕ). (cut text).ended ++ last_line x) (no_rest (cut text).rest (sym h.line ∙ e)) ∙ append-nil (cut text).ended in
    ready j text out out (cut text).ended (sym none) h.sheet h.tally (adds_none (answered_so_far text) out)

-- the last line lacks its line feed, and is ended as if it had it
pub ready_fed : (j k : Session) (text out out' : List ℕ) → After j text → (j.line.items ≡ [] → ⊥) → Fed j k (10 ∷ []) out out' → Ready k text out out'
ready_fed j k text out out' h n f =
    let fed = f text h in
    let some : (cut text).rest ≡ [] → ⊥ = λ e. n (h.line ∙ ap (take 16) e) in
    let all : (cut (text ++ 10 ∷ [])).ended ≡ lines_of text =
    ap (λ (c : Cut). c.ended) (cut_feed text) ∙ ap (λ (x : List (List ℕ)). (cut text).ended ++ x) (sym (some_last (cut text).rest some)) in
    ready k text out out' (cut (text ++ 10 ∷ [])).ended all fed.0.sheet fed.0.tally fed.1

-- what is counted and held is what the summary says
summed : (t : Tally) (s : Sheet) (rs : List Reply) (z : Summary) → Tallied t rs → z.tally ≡ t → z.rooms ≡ length s.uses → z.pairs ≡ length s.pairs → z ≡ summary_of rs s
summed t s rs z h is rooms pairs =
    let counts : t ≡ (summary_of rs s).tally = λ i. record { calls = h.calls i; accepted = h.accepted i; refused = h.refused i; unreadable = h.unreadable i } in
    λ i. record { tally = (is ∙ counts) i; rooms = rooms i; pairs = pairs i }

module _ (k : Session) (z : Summary) (o p q r : List ℕ)
    (rooms : p ≡ o ++ room_lines (sheet_of k.board))
    (pairs : q ≡ p ++ pair_lines (sheet_of k.board))
    (last : r ≡ q ++ with_feed (summary_text z))
    (counts : z.tally ≡ k.tally)
    (room_count : z.rooms ≡ length (sheet_of k.board).uses) (pair_count : z.pairs ≡ length (sheet_of k.board).pairs) where
  closed : (rs : List Reply) → Tallied k.tally rs → r ≡ o ++ closing rs (sheet_of k.board)
  closed rs h =
      let s = sheet_of k.board in
      let sum = summed k.tally s rs z h counts room_count pair_count in
      last ∙ ap₂ (λ (x : List ℕ) (y : Summary). x ++ with_feed (summary_text y)) (pairs ∙ ap (λ (x : List ℕ). x ++ pair_lines s) rooms) sum
      ∙ append_assoc (o ++ room_lines s) (pair_lines s) (with_feed (summary_text (summary_of rs s)))
      ∙ append_assoc o (room_lines s) (pair_lines s ++ with_feed (summary_text (summary_of rs s)))

  pub finished : (text out : List ℕ) → Ready k text out o → Adds (answered_so_far text) (transcript text) out r
  finished text out h =
      let rs = replies (lines_of text) in
      let end : r ≡ o ++ closing rs (sheet_after (calls_in (lines_of text))) = closed rs h.tally ∙ ap (λ (x : Sheet). o ++ closing rs x) h.sheet in
      adds_then h.adds (record { more = closing rs (sheet_after (calls_in (lines_of text))); longer_is = refl; out_is = end })
