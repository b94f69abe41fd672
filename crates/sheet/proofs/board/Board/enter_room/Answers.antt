-- With fewer than 200 rooms no row applies to a room word in range, and the table has one room more.
use Rattle.std.proofs.Common.{arith}
use Rattle.sheet.specs.Calls.{edit}
use Rattle.sheet.specs.declared.edit.Edit.TheVariants.{Enter}
use Rattle.sheet.proofs.Keeping.{kept, room_counts}
use Rattle.sheet.proofs.Ways.{room_entered, room_full}
use Rattle.sheet.proofs.board.Board.enter_room.Goals as goal

pub returns-then-self-eq-ROOMS : goal.returns-then-self-eq-ROOMS
returns-then-self-eq-ROOMS c =
    let k = room_full c.args.self.now c.args.word c.args.purpose c.requires (omega arith) in
    record { sheet = k.0; reply = k.1 }

pub invariant_of-self : goal.invariant_of-self
invariant_of-self c =
    let b = c.args.self.now in
    let w = c.args.word in
    let t = c.add_room.new.self in
    let e = c.add_room.ensures.sheet in
    let n = room_counts b t c.args.purpose e c.add_room.ensures.rooms c.add_room.ensures.marks in
    kept b t (edit (Enter w)) (room_entered b w c.args.purpose c.requires t c.if-self-eq-ROOMS.false e).0 n.0 n.1

pub returns : goal.returns
returns c =
    let k = room_entered c.args.self.now c.args.word c.args.purpose c.requires c.add_room.new.self c.if-self-eq-ROOMS.false c.add_room.ensures.sheet in
    record { sheet = k.0; reply = k.1 }
