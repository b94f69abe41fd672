-- A call leaves a board with its invariant: the sheet after it is sound and made by one call more.
use Rattle.std.proofs.Common.{◌≡◌, ℕ, ◌+◌, ◌≤◌, length, sym, ap, ◌∙◌, subst, arith}
use mathlib.Core.Logic.{∥∥₁_elim}
use Rattle.std.specs.List.{remove}
use Rattle.std.proofs.lemmas.List.{length_push}
use Rattle.std.proofs.lemmas.List.Edits.{length-remove}
use Rattle.sheet.specs.Boards.{sheet_of}
use Rattle.sheet.specs.Calls.{Call, after}
use Rattle.sheet.specs.Sheets.{Sheet, with_pair, with_room, without_pair}
use Rattle.sheet.specs.Sound.{Sound}
use Rattle.sheet.specs.Tables.{sheet_in, with_pairs}
use Rattle.sheet.specs.declared.board.Board.{Board}
use Rattle.sheet.specs.declared.pair.Pair.{Pair}
use Rattle.sheet.specs.declared.table.Table.{Table}
use Rattle.sheet.proofs.Pairs.{removed_is_kept}
use Rattle.sheet.proofs.Places.{Place}
use Rattle.sheet.proofs.Props.{sound_prop}
use Rattle.sheet.proofs.Rules.{Made, made_more, sound_after}

-- the ghost fields of a board, as the check asks for them
abbrev pub Kept : Table → Type 0
Kept t = record {
  few : t.rooms ≤ 200;
  short : t.marks ≤ 600;
  rooms : length (sheet_in t).uses ≡ t.rooms;
  marks : length (sheet_in t).pairs ≡ t.marks;
  sound : ∥ Sound (sheet_in t) ∥₁;
  made : Made (sheet_in t);
}

pub sound : (b : Board) → Sound (sheet_of b)
sound b = ∥∥₁_elim b.sound (sound_prop (sheet_of b)) (λ h. h)

module _ (b : Board) (t : Table) (c : Call) (e : sheet_in t ≡ after (sheet_of b) c) where
  -- what is left to show is that the counts are those of the lists
  pub kept : length (sheet_in t).uses ≡ t.rooms → length (sheet_in t).pairs ≡ t.marks → Kept t
  kept r m =
      let s : Sound (sheet_in t) = subst Sound (sym e) (sound_after (sheet_of b) c (sound b)) in
      record {
        few = omega (arith, s.few_rooms);
        short = omega (arith, s.few_pairs);
        rooms = r;
        marks = m;
        sound = ∣ s ∣₁;
        made = made_more (sheet_of b) (sheet_in t) c b.made e;
      }

module _ (b : Board) (t : Table) where
  pub room_counts : (u : ℕ) → sheet_in t ≡ with_room (sheet_of b) u → t.rooms ≡ b.table.rooms + 1 → t.marks ≡ b.table.marks
      → (length (sheet_in t).uses ≡ t.rooms) × (length (sheet_in t).pairs ≡ t.marks)
  room_counts u e r m = (
    ap (λ (s : Sheet). length s.uses) e ∙ length_push (sheet_of b).uses u ∙ ap (λ (x : ℕ). x + 1) b.rooms ∙ sym r,
    ap (λ (s : Sheet). length s.pairs) e ∙ b.marks ∙ sym m,
  )

  pub pair_counts : (p : Pair) → sheet_in t ≡ with_pair (sheet_of b) p → t.rooms ≡ b.table.rooms → t.marks ≡ b.table.marks + 1
      → (length (sheet_in t).uses ≡ t.rooms) × (length (sheet_in t).pairs ≡ t.marks)
  pair_counts p e r m = (
    ap (λ (s : Sheet). length s.uses) e ∙ b.rooms ∙ sym r,
    ap (λ (s : Sheet). length s.pairs) e ∙ length_push (sheet_of b).pairs p ∙ ap (λ (x : ℕ). x + 1) b.marks ∙ sym m,
  )

  module _ (p : Pair) (k : ℕ) (h : Place (sheet_of b).pairs p k) (e : sheet_in t ≡ with_pairs (sheet_of b) (remove (sheet_of b).pairs k)) where
    pub struck : sheet_in t ≡ without_pair (sheet_of b) p
    struck = e ∙ ap (with_pairs (sheet_of b)) (removed_is_kept p (sheet_of b).pairs k (sound b).apart h.within h.here)

    pub struck_counts : t.rooms ≡ b.table.rooms → t.marks + 1 ≡ b.table.marks → (length (sheet_in t).uses ≡ t.rooms) × (length (sheet_in t).pairs ≡ t.marks)
    struck_counts r m =
        let n = length-remove (sheet_of b).pairs k h.within in
        let c : length (sheet_in t).pairs ≡ length (remove (sheet_of b).pairs k) = ap (λ (s : Sheet). length s.pairs) e in
        (ap (λ (s : Sheet). length s.uses) e ∙ b.rooms ∙ sym r, omega (arith, b.marks))
