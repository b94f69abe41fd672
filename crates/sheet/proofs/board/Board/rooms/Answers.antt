-- The count is the length of its list, by the board's invariant. The check finds it too; a rule of the project keeps it: without it the edit board_rooms is refused at a limit of the search, and not at a fact.
use Rattle.std.proofs.Common.{arith}
use Rattle.sheet.proofs.board.Board.rooms.Goals as goal

pub returns-clause-count : goal.returns-clause-count
returns-clause-count c = omega (arith, c.args.self.now.rooms)
