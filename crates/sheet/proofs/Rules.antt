-- The empty sheet keeps to the rules and each accepted call keeps them, since a call that would break one is refused.
use Rattle.std.proofs.Common.{◌≡◌, ℕ, ◌+◌, ◌<◌, Bool, true, false, not, List, [], ◌∷◌, ◌++◌, length, is_ok, sym, refl, ap, ◌∙◌, subst, ⊎_elim, arith, lit≤}
use mathlib.Core.Logic.{∥∥₁_map}
use Rattle.std.specs.List.{AllByRecursion}
use Rattle.std.proofs.ByRecursion.{All-push, All-weaker, all_kept_by}
use Rattle.std.proofs.lemmas.List.{length_push}
use Rattle.std.proofs.lemmas.List.Sums.{count_by-le-length, length-filter}
use Rattle.std.proofs.lemmas.Option.{none-some}
use Rattle.std.proofs.lemmas.Bool.{cases_Bool, cond_both, eqb-false, leb-false, not-false}
use Rattle.std.proofs.lemmas.Bool.Decides.{nat_tests}
use Rattle.sheet.specs.Calls.{Call, after, done, draw, edit, judged, refusals, run, sheet_after}
use Rattle.sheet.specs.Sheets.{Sheet, empty, joined, same_pair, with_pair, with_room, without_pair}
use Rattle.sheet.specs.Sound.{JoinsTwo, Sound, Within}
use Rattle.sheet.specs.Words.{is_pair, is_room, pair_fits, pair_in, room_fits, use_in}
use Rattle.sheet.specs.declared.edit.Edit.{Edit}
use Rattle.sheet.specs.declared.edit.Edit.TheVariants.{Enter, Strike}
use Rattle.sheet.specs.declared.pair.Pair.{Pair}
use Rattle.sheet.proofs.Pairs.{apart_kept, apart_push}
use Rattle.sheet.proofs.Replies.{none_applies}

use_within : (w : ℕ) → room_fits w ≡ true → Within 1 255 (use_in w)
unfolding room_fits
use_within w h = grind (arith, nat_tests)

joins_more : (n : ℕ) (p : Pair) → JoinsTwo n p → JoinsTwo (n + 1) p
joins_more n p h = record {
  first_held = (h.first_held.0, omega (arith, h.first_held.1));
  second_held = (h.second_held.0, omega (arith, h.second_held.1));
  different = h.different;
}

pub sound_room : (s : Sheet) (u : ℕ) → Sound s → length s.uses < 200 → Within 1 255 u → Sound (with_room s u)
sound_room s u h l k =
    let n = length_push s.uses u in record {
      few_rooms = omega arith;
      few_pairs = h.few_pairs;
      uses = All-push (Within 1 255) s.uses u h.uses k;
      pairs = subst (λ (x : ℕ). AllByRecursion (JoinsTwo x) s.pairs) (sym n) (All-weaker (JoinsTwo (length s.uses)) (JoinsTwo (length s.uses + 1)) (joins_more (length s.uses)) s.pairs h.pairs);
      apart = h.apart;
    }

pub sound_pair : (s : Sheet) (p : Pair) → Sound s → length s.pairs < 600 → JoinsTwo (length s.uses) p → joined s p ≡ false → Sound (with_pair s p)
sound_pair s p h l k j =
    let n = length_push s.pairs p in record {
      few_rooms = h.few_rooms;
      few_pairs = omega arith;
      uses = h.uses;
      pairs = All-push (JoinsTwo (length s.uses)) s.pairs p h.pairs k;
      apart = apart_push s.pairs p h.apart j;
    }

pub sound_without : (s : Sheet) (p : Pair) → Sound s → Sound (without_pair s p)
sound_without s p h =
    let t : Pair → Bool = λ q. not (same_pair p q) in
    let n = count_by-le-length t s.pairs in
    let l = length-filter t s.pairs in
    let m = h.few_pairs in record {
      few_rooms = h.few_rooms;
      few_pairs = omega arith;
      uses = h.uses;
      pairs = all_kept_by t (JoinsTwo (length s.uses)) s.pairs h.pairs;
      apart = apart_kept t s.pairs h.apart;
    }

-- ---- what no row of an accepted entry says
two_held : (n w : ℕ) → pair_fits n w ≡ true → ((pair_in w).first ≡ (pair_in w).second → ⊥) → JoinsTwo n (pair_in w)
unfolding pair_fits pair_in
two_held n w f d = record { first_held = grind (arith, nat_tests); second_held = grind (arith, nat_tests); different = d }

module _ (s : Sheet) (w : ℕ) (h : Sound s) where
  sound_enter : AllByRecursion (λ r. r.applies ≡ false) (refusals s (Enter w)) → Sound (done s (Enter w))
  sound_enter a =
      ⊎_elim
      (λ r.
      let fits : room_fits w ≡ true = not-false (room_fits w) (rw r at a.1.0) in
      let few : length s.uses < 200 = leb-false 200 (length s.uses) (rw r at a.1.1.0) in
      rw r (sound_room s (use_in w) h few (use_within w fits)))
      (λ r.
      let pair : is_pair w ≡ true = not-false (is_pair w) (rw r at a.0) in
      let fits : pair_fits (length s.uses) w ≡ true = not-false (pair_fits (length s.uses) w) (rw r at a.1.0) in
      let few : length s.pairs < 600 = leb-false 600 (length s.pairs) (rw r at a.1.1.0) in
      let apart : joined s (pair_in w) ≡ false = rw pair at a.1.1.1.1.0 in
      let differ : (pair_in w).first ≡ (pair_in w).second → ⊥ = eqb-false (pair_in w).first (pair_in w).second (rw pair at a.1.1.1.0) in
      rw r (sound_pair s (pair_in w) h few (two_held (length s.uses) w fits differ) apart))
      (cases_Bool (is_room w))

sound_done : (s : Sheet) (e : Edit) → Sound s → AllByRecursion (λ r. r.applies ≡ false) (refusals s e) → Sound (done s e)
sound_done s (Enter w) h a = sound_enter s w h a
sound_done s (Strike w) h a = sound_without s (pair_in w) h

pub sound_after : (s : Sheet) (c : Call) → Sound s → Sound (after s c)
unfolding judged
sound_after s (edit e) h =
    cond_both (is_ok (judged s e)) (done s e) s Sound (λ ok. sound_done s e h (none_applies (refusals s e) ok)) (λ _. h)
sound_after s draw h = h

sound_run : (s : Sheet) (cs : List Call) → Sound s → Sound (run s cs)
sound_run s [] h = h
sound_run s (c ∷ cs) h = sound_run (after s c) cs (sound_after s c h)

pub always_sound : (calls : List Call) → Sound (sheet_after calls)
always_sound cs =
    sound_run empty cs (record { few_rooms = lit≤ tt; few_pairs = lit≤ tt; uses = tt; pairs = tt; apart = λ i j p q e f k. absurd (none-some p e) })

-- ---- a list of calls made it
abbrev pub Made : Sheet → Type 0
Made s = ∥ ((calls : List Call) × (s ≡ sheet_after calls)) ∥₁

pub run_append : (s : Sheet) (cs ds : List Call) → run s (cs ++ ds) ≡ run (run s cs) ds
run_append s [] ds = refl
run_append s (c ∷ cs) ds = run_append (after s c) cs ds

pub made_more : (s t : Sheet) (c : Call) → Made s → t ≡ after s c → Made t
made_more s t c h e = ∥∥₁_map h (λ p. (p.0 ++ c ∷ [], e ∙ ap (λ (x : Sheet). after x c) p.1 ∙ sym (run_append empty p.0 (c ∷ []))))
