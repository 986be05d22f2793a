use Rattle.sccs_keywords.proofs.TextLaws.{without_keywords}
use Rattle.sccs_keywords.proofs.text_laws.texts_without_keywords.Goals as goal

pub returns : goal.returns
returns c = without_keywords
