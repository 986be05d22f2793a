use Rattle.sccs_summary.proofs.Marked.{applied_marked, others_marked}
use Rattle.sccs_summary.proofs.laws.summaries_mark_the_set.Goals as goal

pub returns-clause-applied : goal.returns-clause-applied
returns-clause-applied c = applied_marked

pub returns-clause-others : goal.returns-clause-others
returns-clause-others c = others_marked
