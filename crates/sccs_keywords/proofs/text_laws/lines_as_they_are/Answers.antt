use Rattle.sccs_keywords.proofs.TextLaws.{as_they_are}
use Rattle.sccs_keywords.proofs.text_laws.lines_as_they_are.Goals as goal

pub returns : goal.returns
returns c = as_they_are
