-- One line more adds its call to the calls and its reply to the replies, judged on the sheet so far.
use Rattle.std.proofs.Common.{◌≡◌, ℕ, ◌<◌, List, [], ◌∷◌, ◌++◌, map, length, get_or, take, Err, sym, refl, ap, ◌∙◌, ap₂, arith}
use Rattle.std.specs.List.{range_with_len}
use Rattle.std.proofs.lemmas.List.FromFn.{fill_by_all, get_or-map-range_with_len, length-map-range_with_len, map-range_with_len_more}
use Rattle.std.proofs.lemmas.List.{get_or_append_left, get_or_push, flat_map_more, length_push, take-append-le, take_at}
use Rattle.sheet.specs.Calls.{run, sheet_after}
use Rattle.sheet.specs.Sheets.{empty}
use Rattle.sheet.proofs.Rules.{run_append}
use Rattle.journal.specs.Cuts.{with_feed}
use Rattle.journal.specs.Lines.{said}
use Rattle.journal.specs.Replies.{Reply}
use Rattle.journal.specs.Texts.{reply_text}
use Rattle.journal.specs.Transcripts.{answered, called, calls_in, replies, reply_lines}
use Rattle.journal.specs.declared.reply.LineError.TheVariants.{Unreadable}

pub sheet_push : (ls : List (List ℕ)) (l : List ℕ) → sheet_after (calls_in (ls ++ l ∷ [])) ≡ run (sheet_after (calls_in ls)) (called (said l))
sheet_push ls l = ap sheet_after (sym (flat_map_more (λ (x : List ℕ). called (said x)) [] ls l)) ∙ run_append empty (calls_in ls) (called (said l))

abbrev reply_at : List (List ℕ) → ℕ → Reply
reply_at ls k = answered (sheet_after (calls_in (take k ls))) (said (get_or ls k []))

map_same : (f g : ℕ → Reply) (n : ℕ) → ((k : ℕ) → k < n → f k ≡ g k) → map f (range_with_len 0 n) ≡ map g (range_with_len 0 n)
map_same f g n h =
    fill_by_all g (map f (range_with_len 0 n)) n (Err Unreadable) (length-map-range_with_len f 0 n)
    (λ k l. get_or-map-range_with_len f 0 n k k (Err Unreadable) l (omega arith) ∙ h k l)

pub replies_push : (ls : List (List ℕ)) (l : List ℕ) → replies (ls ++ l ∷ []) ≡ replies ls ++ answered (sheet_after (calls_in ls)) (said l) ∷ []
unfolding replies
replies_push ls l =
    let n = length ls in
    let more : List (List ℕ) = ls ++ l ∷ [] in
    let front : map (reply_at more) (range_with_len 0 n) ≡ map (reply_at ls) (range_with_len 0 n) =
    map_same (reply_at more) (reply_at ls) n
    (λ k h. ap₂ (λ (x : List (List ℕ)) (y : List ℕ). answered (sheet_after (calls_in x)) (said y)) (take-append-le k ls (l ∷ []) (omega arith)) (get_or_append_left ls (l ∷ []) [] k h)) in
    let last : reply_at more n ≡ answered (sheet_after (calls_in ls)) (said l) =
    ap₂ (λ (x : List (List ℕ)) (y : List ℕ). answered (sheet_after (calls_in x)) (said y)) (take_at ls (l ∷ []) n refl) (get_or_push ls l [] n refl) in
    ap (λ (m : ℕ). map (reply_at more) (range_with_len 0 m)) (length_push ls l) ∙ map-range_with_len_more (reply_at more) 0 n n (omega arith)
    ∙ ap₂ (λ (xs : List Reply) (x : Reply). xs ++ x ∷ []) front last

pub lines_push : (rs : List Reply) (r : Reply) → reply_lines (rs ++ r ∷ []) ≡ reply_lines rs ++ with_feed (reply_text r)
lines_push rs r = sym (flat_map_more (λ (x : Reply). with_feed (reply_text x)) [] rs r)
