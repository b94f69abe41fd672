-- Bytes fed one after another are as good as fed at once, and each ended line adds its reply to the output.
use Rattle.std.proofs.Common.{◌≡◌, ℕ, zero, suc, ◌+◌, ◌<◌, List, [], ◌∷◌, ◌++◌, length, get_or, take, Option, Result, Ok, Err, IsOk, OnOk, OnErr, ◌↔◌, sym, refl, ap, ◌∙◌, subst, ap₂, arith}
use Rattle.std.proofs.lemmas.List.{append_assoc, append-nil, length_push, take-append-le, take_all, take_more}
use Rattle.sheet.specs.Boards.{sheet_of}
use Rattle.sheet.specs.Calls.{run, sheet_after}
use Rattle.sheet.specs.Sheets.{Sheet}
use Rattle.sheet.specs.declared.edit.Edit.{Edit}
use Rattle.journal.specs.Cuts.{cut, with_feed}
use Rattle.journal.specs.Lines.{said}
use Rattle.journal.specs.Replies.{Reply}
use Rattle.journal.specs.Sessions.{Adds, Fed}
use Rattle.journal.specs.Tallies.{Tallied}
use Rattle.journal.specs.Texts.{reply_text}
use Rattle.journal.specs.Transcripts.{answered, answered_so_far, called, calls_in, replies, reply_lines}
use Rattle.journal.specs.declared.session.Session.{Session}
use Rattle.journal.specs.declared.tally.Tally.{Tally}
use Rattle.journal.proofs.Cutting.{cut_byte, cut_feed}
use Rattle.journal.proofs.Replied.{lines_push, replies_push, sheet_push}
use Rattle.journal.proofs.Spoken.{said_front}

-- ---- nothing, and one after another
pub adds_none : (a out : List ℕ) → Adds a a out out
adds_none a out = record { more = []; longer_is = sym (append-nil a); out_is = sym (append-nil out) }

pub adds_then : {a b c o p q : List ℕ} → Adds a b o p → Adds b c p q → Adds a c o q
adds_then {a} {b} {c} {o} {p} {q} h k = record {
  more = h.more ++ k.more;
  longer_is = k.longer_is ∙ ap (λ (x : List ℕ). x ++ k.more) h.longer_is ∙ append_assoc a h.more k.more;
  out_is = k.out_is ∙ ap (λ (x : List ℕ). x ++ k.more) h.out_is ∙ append_assoc o h.more k.more;
}

pub fed_then : (j k m : Session) (xs ys o p q : List ℕ) → Fed j k xs o p → Fed k m ys p q → Fed j m (xs ++ ys) o q
fed_then j k m xs ys o p q f g text h =
    let a = f text h in
    let b = g (text ++ xs) a.0 in
    rw (← append_assoc text xs ys) (b.0, adds_then a.1 b.1)

-- ---- a byte that ends no line
take_front : (n : ℕ) (xs : List ℕ) (b : ℕ) → take n (take n xs ++ b ∷ []) ≡ take n (xs ++ b ∷ [])
take_front zero xs b = refl
take_front (suc n) [] b = refl
take_front (suc n) (x ∷ xs) b = ap (λ (l : List ℕ). x ∷ l) (take_front n xs b)

-- what a full line keeps of one byte more, and what another keeps
pub line_more : {E : Type 0} (r : Result (Unit {0}) E) (old new : List ℕ) (b : ℕ) → IsOk r ↔ (length old < 16) → OnOk r (new ≡ old ++ b ∷ []) → OnErr r (new ≡ old) → OnErr r (length old ≡ 16) → new ≡ take 16 (old ++ b ∷ [])
line_more (Ok u) old new b room more same full = more ∙ sym (take_all 16 (old ++ b ∷ []) (omega (arith, length_push old b, room.0 refl)))
line_more (Err e) old new b room more same full =
    same ∙ sym (take-append-le 16 old (b ∷ []) (omega arith) ∙ take_all 16 old (omega arith))

module _ (j k : Session) (b : ℕ) (out : List ℕ) where
  pub fed_one : (b ≡ 10 → ⊥) → sheet_of k.board ≡ sheet_of j.board → k.tally ≡ j.tally → k.line.items ≡ take 16 (j.line.items ++ b ∷ []) → Fed j k (b ∷ []) out out
  fed_one n s t l text h =
      rw (cut_byte text b n) (
        record {
          sheet = s ∙ h.sheet;
          tally = subst (λ (x : Tally). Tallied x (replies (cut text).ended)) (sym t) h.tally;
          line = l ∙ ap (λ (x : List ℕ). take 16 (x ++ b ∷ [])) h.line ∙ take_front 16 (cut text).rest b;
        },
        adds_none (answered_so_far text) out,
      )

-- ---- a line feed
module _ (j k : Session) (r : Reply) (out : List ℕ)
    (is : r ≡ answered (sheet_of j.board) (said (j.line.items)))
    (s : sheet_of k.board ≡ run (sheet_of j.board) (called (said (j.line.items))))
    (t : (rs : List Reply) → Tallied j.tally rs → Tallied k.tally (rs ++ r ∷ []))
    (l : k.line.items ≡ []) where
  pub fed_end : (out' : List ℕ) → out' ≡ out ++ with_feed (reply_text r) → Fed j k (10 ∷ []) out out'
  fed_end out' o text h =
      let ls = (cut text).ended in
      let rest = (cut text).rest in
      let says : said (j.line.items) ≡ said rest = ap said h.line ∙ said_front rest in
      let told : answered (sheet_after (calls_in ls)) (said rest) ≡ r =
      sym (is ∙ ap₂ answered h.sheet says) in
      let more : replies (ls ++ rest ∷ []) ≡ replies ls ++ r ∷ [] = replies_push ls rest ∙ ap (λ (x : Reply). replies ls ++ x ∷ []) told in
      rw (cut_feed text) (
        record {
          sheet = s ∙ ap₂ (λ (x : Sheet) (y : Option Edit). run x (called y)) h.sheet says ∙ sym (sheet_push ls rest);
          tally = subst (Tallied k.tally) (sym more) (t (replies ls) h.tally);
          line = l;
        },
        record {
          more = with_feed (reply_text r);
          longer_is = ap reply_lines more ∙ lines_push (replies ls) r;
          out_is = o;
        },
      )

-- ---- a turn of the loop: one byte more of the front
pub fed_more : (j k m : Session) (bytes : List ℕ) (i : ℕ) (o p q : List ℕ) → i < length bytes → Fed j k (take i bytes) o p → Fed k m (get_or bytes i 0 ∷ []) p q → Fed j m (take (i + 1) bytes) o q
fed_more j k m bytes i o p q l f g =
    subst (λ (x : List ℕ). Fed j m x o q) (sym (take_more bytes i 0 l)) (fed_then j k m (take i bytes) (get_or bytes i 0 ∷ []) o p q f g)

-- ---- from nothing
pub adds_all : (whole out out' : List ℕ) → out ≡ [] → Adds (answered_so_far []) whole out out' → out' ≡ whole
unfolding cut replies
adds_all whole out out' e h = h.out_is ∙ ap (λ (x : List ℕ). x ++ h.more) e ∙ sym h.longer_is
