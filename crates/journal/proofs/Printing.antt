-- A loop that adds the line of one element after another has added the lines of all of them.
use Rattle.std.proofs.Common.{◌≡◌, ℕ, ◌+◌, ◌<◌, List, [], ◌∷◌, ◌++◌, length, get_or, take, sym, ap, ◌∙◌, arith}
use Rattle.std.specs.List.{range_with_len, flat_map}
use Rattle.std.proofs.lemmas.List.FromFn.{map-range_with_len_more}
use Rattle.std.proofs.lemmas.List.{flat_map_more, map-id, take_more}
use Rattle.sheet.specs.Words.{word_of}
use Rattle.sheet.specs.declared.pair.Pair.{Pair}
use Rattle.journal.specs.Cuts.{with_feed}
use Rattle.journal.specs.Texts.{held_text, pair_text}

-- the line of room k + 1
abbrev pub room_line : List ℕ → ℕ → List ℕ
room_line uses k = with_feed (held_text (k + 1) (get_or uses k 0))

-- the lines of the first n rooms
abbrev pub rooms_text : List ℕ → ℕ → List ℕ
rooms_text uses n = flat_map (room_line uses) (range_with_len 0 n)

abbrev pub pair_line : Pair → List ℕ
pair_line p = with_feed (pair_text (word_of p))

abbrev pub pairs_text : List Pair → List ℕ
pairs_text ps = flat_map pair_line ps

counting_push : (n : ℕ) → range_with_len 0 (n + 1) ≡ range_with_len 0 n ++ n ∷ []
counting_push n =
    sym (map-id (range_with_len 0 (n + 1))) ∙ map-range_with_len_more (λ (x : ℕ). x) 0 n n (omega arith) ∙ ap (λ (l : List ℕ). l ++ n ∷ []) (map-id (range_with_len 0 n))

pub rooms_more : (out uses : List ℕ) (n : ℕ) → out ++ rooms_text uses (n + 1) ≡ (out ++ rooms_text uses n) ++ room_line uses n
rooms_more out uses n =
    ap (λ (l : List ℕ). out ++ flat_map (room_line uses) l) (counting_push n) ∙ sym (flat_map_more (room_line uses) out (range_with_len 0 n) n)

pub pairs_more : (out : List ℕ) (ps : List Pair) (i : ℕ) (d : Pair) → i < length ps → out ++ pairs_text (take (i + 1) ps) ≡ (out ++ pairs_text (take i ps)) ++ pair_line (get_or ps i d)
pairs_more out ps i d l =
    ap (λ (l : List Pair). out ++ pairs_text l) (take_more ps i d l) ∙ sym (flat_map_more pair_line out (take i ps) (get_or ps i d))
