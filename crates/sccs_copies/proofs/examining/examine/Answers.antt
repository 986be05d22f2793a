use Rattle.std.proofs.Common.{◌∙◌, ap, subst}
use Rattle.std.specs.Prelude.{drop}
use Rattle.sccs_disk.specs.Told.{seen}
use Rattle.sccs_script_laws.specs.declared.scripts.Plan.{Plan}
use Rattle.sccs_history.specs.Body.{lines_of}
use Rattle.sccs_history.specs.Select.{select}
use Rattle.sccs_splicer.specs.PlanPlaces.{Passed}
use Rattle.sccs_table.specs.ReaderState.{bytes_in}
use Rattle.sccs_copies.specs.Examining.{Examines}
use Rattle.sccs_copies.proofs.BaseLaws.{body_few}
use Rattle.sccs_copies.proofs.examining.examine.Goals as goal

pub returns-clause-told : goal.returns-clause-told
returns-clause-told g c = λ file items is.
    subst (λ (p : Plan). Examines (bytes_in (seen (g.D.Disk.told c.args.disk.now)) (drop 2 c.args.name.now)) p
    (select c.args.set.now (lines_of items)) c.args.compares c.examine_all.result)
    (ap (λ (p : Passed). p.plan) c.new-at.ensures)
    (subst (λ n. Examines (bytes_in (seen (g.D.Disk.told c.args.disk.now)) n) c.new-at.result.plan
    (select c.args.set.now (lines_of items)) c.args.compares c.examine_all.result) c.module.ensures
    (c.examine_all.ensures.told file c.args.set.now c.module.result (lines_of items)
    (ap (bytes_in (seen (g.D.Disk.told c.args.disk.now))) c.in-Ok.ensures.name ∙ is.told_is)
    (c.in-Ok.ensures.coming _ file items is)
    (body_few _ c.args.front.now c.args.set.now file items is) c.new-check.ensures))
