use Rattle.sccs_copies.proofs.TextRuns.{texts_pass}
use Rattle.sccs_copies.proofs.filters.IdentityBodyFilter.passes_texts.Goals as goal

pub returns : goal.returns
returns c = texts_pass c.args.self.now
