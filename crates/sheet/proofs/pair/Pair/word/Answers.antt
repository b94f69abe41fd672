-- The fields of a word do not overlap, so each is read back as it was written.
use Rattle.std.proofs.Common.{rules}
use Rattle.sheet.proofs.Laws.{says_pair}
use Rattle.sheet.proofs.pair.Pair.word.Goals as goal

pub returns-clause-says : goal.returns-clause-says
returns-clause-says c = says_pair _ _ (search rules) (search rules) (search rules)
