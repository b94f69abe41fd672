-- The tests are made in the order of the refusals' numbers; where all fail no row applies, and the table has one pair more.
use Rattle.std.proofs.Common.{arith}
use Rattle.std.specs.List.{list_any}
use Rattle.sheet.specs.Calls.{edit}
use Rattle.sheet.specs.Sheets.{same_rooms}
use Rattle.sheet.specs.declared.edit.Edit.TheVariants.{Enter}
use Rattle.sheet.proofs.Keeping.{kept, pair_counts}
use Rattle.sheet.proofs.Ways.{as_found, pair_entered, pair_full, pair_itself, pair_joined}
use Rattle.sheet.proofs.board.Board.enter_pair.Goals as goal

pub returns-then-self-eq-PAIRS : goal.returns-then-self-eq-PAIRS
returns-then-self-eq-PAIRS c =
    let k = pair_full c.args.self.now c.args.word c.args.pair c.requires (omega arith) in
    record { sheet = k.0; reply = k.1 }

pub returns-then-pair : goal.returns-then-pair
returns-then-pair c =
    let k = pair_itself c.args.self.now c.args.word c.args.pair c.requires c.if-self-eq-PAIRS.false c.if-pair.true in
    record { sheet = k.0; reply = k.1 }

pub returns-then-is_joined_among : goal.returns-then-is_joined_among
returns-then-is_joined_among c =
    let k = pair_joined c.args.self.now c.args.word c.args.pair c.requires c.if-self-eq-PAIRS.false c.if-pair.false (as_found c.args.self.now (list_any (same_rooms c.args.pair)) _ c.pair_list.ensures _ c.if-is_joined_among.ensures) in
    record { sheet = k.0; reply = k.1 }

pub invariant_of-self : goal.invariant_of-self
invariant_of-self c =
    let b = c.args.self.now in
    let w = c.args.word in
    let p = c.args.pair in
    let t = c.add_pair.new.self in
    let e = c.add_pair.ensures.sheet in
    let n = pair_counts b t p e c.add_pair.ensures.rooms c.add_pair.ensures.marks in
    kept b t (edit (Enter w)) (pair_entered b w p c.requires c.if-self-eq-PAIRS.false c.if-pair.false t (as_found c.args.self.now (list_any (same_rooms c.args.pair)) _ c.pair_list.ensures _ c.if-is_joined_among.ensures) e).0 n.0 n.1

pub returns : goal.returns
returns c =
    let k = pair_entered c.args.self.now c.args.word c.args.pair c.requires c.if-self-eq-PAIRS.false c.if-pair.false c.add_pair.new.self (as_found c.args.self.now (list_any (same_rooms c.args.pair)) _ c.pair_list.ensures _ c.if-is_joined_among.ensures) c.add_pair.ensures.sheet in
    record { sheet = k.0; reply = k.1 }
