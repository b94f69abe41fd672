-- The sheet that a board keeps.
use Rattle.sheet.specs.Sheets.{Sheet}
use Rattle.sheet.specs.Tables.{sheet_in}
use Rattle.sheet.specs.declared.board.Board.{Board}

abbrev pub sheet_of : Board → Sheet
sheet_of b = sheet_in b.table
