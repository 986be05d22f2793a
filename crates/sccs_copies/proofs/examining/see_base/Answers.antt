use Rattle.std.proofs.Common.{[], ◌∙◌, ap, not, subst}
use Rattle.sccs_disk.specs.Told.{seen}
use Rattle.sccs_script_laws.specs.Plans.{added_after}
use Rattle.sccs_history.specs.Numbers.{front_if}
use Rattle.sccs_splicer.specs.PlanPlaces.{Passed}
use Rattle.sccs_table.specs.ReaderState.{bytes_in}
use Rattle.sccs_copies.specs.Examining.{SeesAll}
use Rattle.sccs_copies.proofs.CheckLaws.{base_line_is, sees_then}
use Rattle.sccs_copies.proofs.examining.see_base.Goals as goal

pub returns-clause-sees : goal.returns-clause-sees
returns-clause-sees g c =
    subst (λ l. SeesAll (bytes_in (seen (g.D.Disk.told c.args.disk.now)) c.args.check.now.lines.name) l c.args.check.now
    c.see_lines.new.check c.see_lines.result)
    (base_line_is c.args.at.now.plan c.args.at.now.line (not c.deletes_next.result) c.bytes.result.now c.args.line.now
    c.new_lines.result.now (ap not c.deletes_next.ensures) c.bytes.ensures.value
    (c.new_lines.ensures ∙ ap (λ (p : Passed). added_after p.line p.plan.added) c.advance.ensures))
    (sees_then _ _ (front_if (not c.deletes_next.result) c.bytes.result.now []) c.new_lines.result.now c.args.check.now
    c.see_kept.new.check c.see_lines.new.check c.see_lines.result
    (ap (λ t. bytes_in (seen t) c.see_kept.new.check.lines.name) c.in_ok-see_kept.ensures.frame.same
    ∙ ap (bytes_in (seen (g.D.Disk.told c.args.disk.now))) c.in_ok-see_kept.ensures.name)
    c.in_ok-see_kept.ensures.sees c.see_lines.ensures.sees)
