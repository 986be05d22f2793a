use Rattle.sccs_versions.proofs.Places.{popped_stack}
use Rattle.sccs_versions.proofs.regions.close_last.Goals as goal

pub returns-in-Some : goal.returns-in-Some
returns-in-Some c = popped_stack c.args.regions.now.items c.pop.new.self.items _ c.in-Some.ensures.items
