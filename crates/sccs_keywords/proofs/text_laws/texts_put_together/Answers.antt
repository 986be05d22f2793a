use Rattle.sccs_keywords.proofs.TextLaws.{put_together}
use Rattle.sccs_keywords.proofs.text_laws.texts_put_together.Goals as goal

pub returns : goal.returns
returns c = put_together
