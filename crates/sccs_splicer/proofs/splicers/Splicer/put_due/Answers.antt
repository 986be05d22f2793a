use Rattle.std.proofs.Common.{sym, ap, ◌∙◌}
use Rattle.sccs_splicer.specs.Splices.{SplicerState}
use Rattle.sccs_splicer.proofs.Calls.{due_none, nothing_put}
use Rattle.sccs_splicer.proofs.splicers.Splicer.put_due.Goals as goal

pub returns-else-self : goal.returns-else-self
returns-else-self g c = nothing_put _ (due_none c.args.self.now (sym (ap (λ (s : SplicerState). s.due) c.self.view_is)
    ∙ c.if-self.false)) c.args.out.now _ _
