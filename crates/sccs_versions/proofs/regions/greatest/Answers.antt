use Rattle.std.proofs.Common.{sym, ap, ◌∙◌}
use Rattle.std.specs.Option.{option_copied}
use Rattle.sccs_versions.proofs.Places.{greatest_last, greatest_none}
use Rattle.sccs_versions.proofs.regions.greatest.Goals as goal

pub returns-in-Some : goal.returns-in-Some
returns-in-Some c = greatest_last c.args.regions.now c.in-Some.last.now (sym c.last.ensures.value
    ∙ ap option_copied c.in-Some.is)

pub returns-in-None : goal.returns-in-None
returns-in-None c = greatest_none c.args.regions.now (sym c.last.ensures.value ∙ ap option_copied c.in-None.is)
