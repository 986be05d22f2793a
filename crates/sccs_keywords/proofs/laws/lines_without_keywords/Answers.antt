use Rattle.sccs_keywords.proofs.KeywordLaws.{plain_stays}
use Rattle.sccs_keywords.proofs.laws.lines_without_keywords.Goals as goal

pub returns : goal.returns
returns c = λ facts number line none. plain_stays facts number line none
