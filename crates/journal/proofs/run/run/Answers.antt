-- A call more adds its judged reply and leaves the replies before it.
use Rattle.std.proofs.Common.{ℕ, List, get_or, Ok, vec_items, Result, sym, ap, ◌∙◌, arith, below_more}
use Rattle.std.proofs.lemmas.List.{get_or_append_left, get_or_push}
use Rattle.fault.specs.declared.Fault.{Fault}
use Rattle.sheet.specs.Calls.{after, edit, judged}
use Rattle.sheet.specs.Sheets.{Sheet}
use Rattle.sheet.specs.declared.edit.Edit.TheVariants.{Enter}
use Rattle.journal.proofs.Running.{judged_in_order, one_call_more}
use Rattle.journal.proofs.run.run.Goals as goal

pub loop-call-preserved : goal.loop-call-preserved
loop-call-preserved c =
    let v = c.loop-call.invariant in
    let es = c.args.calls.now in
    let i = c.loop-call.call-index in
    let e = get_or es i (Enter 0) in
    let rs = vec_items c.loop-call.replies in
    let r = c.apply.result in
    let at = λ (k : ℕ). ap (λ (xs : List (Result (Unit {0}) Fault)). get_or xs k (Ok tt)) c.in_ok-push.ensures.items in
    record {
      sheet = c.apply.ensures.sheet ∙ ap (λ (s : Sheet). after s (edit e)) v.sheet ∙ sym (one_call_more es i (Enter 0) c.loop-call-test.true);
      sound = c.apply.ensures.sound;
      as_many = omega (arith, c.in_ok-push.ensures.len);
      each = below_more _ _ (λ k l. at k ∙ get_or_append_left rs _ (Ok tt) k (omega arith) ∙ v.each k l)
          (at i ∙ get_or_push rs r (Ok tt) i v.as_many ∙ c.apply.ensures.reply ∙ ap (λ (s : Sheet). judged s e) v.sheet);
    }

pub returns-clause-replies : goal.returns-clause-replies
returns-clause-replies c = judged_in_order _ _ (omega arith) (λ k l. c.loop-call.invariant.each k (omega arith))
