use Rattle.std.proofs.Common.{[], ap, sym, ◌∙◌}
use Rattle.std.specs.Prelude.{not, ◌&&◌, if◌then◌else◌}
use Rattle.sccs_versions.specs.Regions.{keeps}
use Rattle.sccs_versions.specs.Stacks.{stacked}
use Rattle.sccs_versions.proofs.Places.{stacked_end}
use Rattle.sccs_versions.proofs.regions.open_last.Goals as goal

pub returns-clause-ok : goal.returns-clause-ok
returns-clause-ok c = ap (stacked []) c.in_ok-push.ensures.items ∙ stacked_end [] c.args.regions.now.items c.args.region

pub returns-clause-keep : goal.returns-clause-keep
returns-clause-keep c =
    c.keeps_above.ensures ∙ (ap (λ k. if c.args.region.inserts then c.args.region.applied
    else (not c.args.region.applied && k)) c.requires
    ∙ ap keeps (sym (ap (stacked []) c.in_ok-push.ensures.items
    ∙ stacked_end [] c.args.regions.now.items c.args.region)))
