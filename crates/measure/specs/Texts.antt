-- How lengths are written.
use Rattle.std.specs.Prelude.{ℕ, List, ◌++◌, codes, decimal}
use Rattle.measure.specs.declared.lengths.Millimetres.{Millimetres}
use Rattle.measure.specs.declared.lengths.PartitionLength.{PartitionLength}

-- the figure in decimal digits
abbrev pub millimetres_text : Millimetres → List ℕ
millimetres_text x = decimal x.figure

-- `C+P`
abbrev pub partition_text : PartitionLength → List ℕ
partition_text x = decimal x.clear ++ (codes "+" ++ decimal x.partitions)
