use Rattle.std.proofs.Common.{None}
use Rattle.sccs_edit.specs.SactStep.{shows_entries}
use Rattle.sccs_edit.proofs.SactLaws.{shows_of}
use Rattle.sccs_edit.proofs.sact.show.Goals as goal

pub returns-clause-shows : goal.returns-clause-shows
returns-clause-shows g c =
    shows_of c.report.result _ (shows_entries c.args.heading c.args.name.now c.args.edits.now) _ _ _ _ c.in-Ok.ensures
    c.in-Ok-message_of.ensures (c.report.ensures.reports None)
