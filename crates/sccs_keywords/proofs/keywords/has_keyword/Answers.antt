use Rattle.std.proofs.Common.{◌∙◌}
use Rattle.sccs_keywords.proofs.KeywordLaws.{any_found}
use Rattle.sccs_keywords.proofs.keywords.has_keyword.Goals as goal

pub returns : goal.returns
returns c = c.is_some.ensures ∙ any_found c.args.line.now c.find_keyword.result c.find_keyword.ensures.first
