-- A line feed ends the line and any other byte goes to the line, so each turn feeds one byte more.
use Rattle.std.proofs.Common.{ℕ, [], ◌∷◌, get_or, string_bytes, sym, refl, subst, arith, rules}
use Rattle.std.proofs.lemmas.List.{take_all}
use Rattle.journal.specs.Sessions.{Fed}
use Rattle.journal.proofs.Feeding.{fed_more, fed_one, line_more}
use Rattle.journal.proofs.session.Session.feed.Goals as goal
use Rattle.journal.proofs.session.Session.feed.Goals.{then-byte-eq10+in_ok-end_line, else-byte-eq10}

pub loop-byte-preserved : goal.loop-byte-preserved
loop-byte-preserved c =
    let bytes = c.args.bytes.now in
    let i = c.loop-byte.byte-index in
    let j = c.args.self.now in
    let k = c.loop-byte.self in
    let o = string_bytes c.args.out.now in
    let p = string_bytes c.loop-byte.out in
    elim c.if-byte-eq10.branch [
      | then-byte-eq10+in_ok-end_line w ↦
          rw (w.self-is, w.out-is)
          (fed_more j k w.end_line.new.self bytes i o p (string_bytes w.end_line.new.out) (omega arith) c.loop-byte.invariant
          (subst (λ (b : ℕ). Fed k w.end_line.new.self (b ∷ []) p (string_bytes w.end_line.new.out)) (sym w.if-byte-eq10.true) w.in_ok-end_line.ensures))
      | else-byte-eq10 w ↦
          rw (w.self-is, w.out-is)
          (fed_more j k (record { board = k.board; tally = k.tally; line = w.try_push.new.self }) bytes i o p p (omega arith) c.loop-byte.invariant
          (fed_one k _ (get_or bytes i 0) p w.if-byte-eq10.false refl refl
          (line_more w.try_push.result k.line.items _ (get_or bytes i 0) w.try_push.ensures.variant w.try_push.ensures.ok (search rules) w.try_push.ensures.full)))
    ]

pub returns : goal.returns
returns c = let l = c.loop-byte-test.false in rw take_all at c.loop-byte.invariant
