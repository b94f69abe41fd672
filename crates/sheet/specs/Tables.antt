-- The sheet that a table holds.
use Rattle.std.specs.Prelude.{List, take}
use Rattle.sheet.specs.Sheets.{Sheet}
use Rattle.sheet.specs.declared.pair.Pair.{Pair}
use Rattle.sheet.specs.declared.table.Table.{Table}

abbrev pub sheet_in : Table → Sheet
sheet_in t = record { uses = take t.rooms t.uses; pairs = take t.marks t.pairs }

abbrev pub with_pairs : Sheet → List Pair → Sheet
with_pairs s ps = record { uses = s.uses; pairs = ps }
