-- A cut grows byte by byte: a line feed moves the rest to the ended lines, and any other byte goes to the rest.
use Rattle.std.proofs.Common.{◌≡◌, ℕ, List, [], ◌∷◌, ◌++◌, fold, sym, refl, ap, ◌∙◌, subst, ⊎_elim}
use Rattle.std.specs.List.{flat_map, AllByRecursion}
use Rattle.std.proofs.ByRecursion.{All-push}
use Rattle.std.proofs.lemmas.List.{append_assoc, append-nil, flat_map_more}
use Rattle.std.proofs.lemmas.List.Sums.{fold_push}
use Rattle.std.proofs.lemmas.Bool.{cases_eq, eq-eqb, ne_eqb}
use Rattle.journal.specs.Cuts.{Cut, CutOf, cut, one_more, with_feed}

abbrev pub fed_line : Cut → Cut
fed_line c = record { ended = c.ended ++ c.rest ∷ []; rest = [] }

abbrev pub fed_byte : Cut → ℕ → Cut
fed_byte c b = record { ended = c.ended; rest = c.rest ++ b ∷ [] }

pub cut_feed : (t : List ℕ) → cut (t ++ 10 ∷ []) ≡ fed_line (cut t)
unfolding cut
cut_feed t = fold_push one_more (record { ended = []; rest = [] }) t 10

pub cut_byte : (t : List ℕ) (b : ℕ) → (b ≡ 10 → ⊥) → cut (t ++ b ∷ []) ≡ fed_byte (cut t) b
unfolding cut
cut_byte t b n = fold_push one_more (record { ended = []; rest = [] }) t b ∙ (rw (ne_eqb b 10 n))

-- ---- the law of a cut
law_feed : (t : List ℕ) (c : Cut) → CutOf t c → CutOf (t ++ 10 ∷ []) (fed_line c)
law_feed t c h = record {
  whole = ap (λ (x : List ℕ). x ++ 10 ∷ []) h.whole ∙ append_assoc (flat_map with_feed c.ended) c.rest (10 ∷ []) ∙ flat_map_more with_feed [] c.ended c.rest ∙ sym (append-nil (flat_map with_feed (c.ended ++ c.rest ∷ [])));
  lines = All-push (AllByRecursion (λ (b : ℕ). b ≡ 10 → ⊥)) c.ended c.rest h.lines h.last;
  last = tt;
}

law_byte : (t : List ℕ) (c : Cut) (b : ℕ) → (b ≡ 10 → ⊥) → CutOf t c → CutOf (t ++ b ∷ []) (fed_byte c b)
law_byte t c b n h = record {
  whole = ap (λ (x : List ℕ). x ++ b ∷ []) h.whole ∙ append_assoc (flat_map with_feed c.ended) c.rest (b ∷ []);
  lines = h.lines;
  last = All-push (λ (x : ℕ). x ≡ 10 → ⊥) c.rest b h.last n;
}

law_more : (t : List ℕ) (c : Cut) (b : ℕ) → CutOf t c → CutOf (t ++ b ∷ []) (one_more c b)
law_more t c b h =
    ⊎_elim
    (λ e. rw (eq-eqb b 10 e) (subst (λ (x : ℕ). CutOf (t ++ x ∷ []) (fed_line c)) (sym e) (law_feed t c h)))
    (λ n. rw (ne_eqb b 10 n) (law_byte t c b n h)) (cases_eq b 10)

law_all : (t more : List ℕ) (c : Cut) → CutOf t c → CutOf (t ++ more) (fold one_more c more)
law_all t [] c h = subst (λ (x : List ℕ). CutOf x c) (sym (append-nil t)) h
law_all t (b ∷ bs) c h =
    subst (λ (x : List ℕ). CutOf x (fold one_more (one_more c b) bs)) (append_assoc t (b ∷ []) bs)
    (law_all (t ++ b ∷ []) bs (one_more c b) (law_more t c b h))

pub cut_law : (t : List ℕ) → CutOf t (cut t)
unfolding cut
cut_law t = law_all [] t (record { ended = []; rest = [] }) (record { whole = refl; lines = tt; last = tt })
