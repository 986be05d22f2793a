use Rattle.std.proofs.Common.{◌==◌, ◌∙◌, ap, sym}
use Rattle.std.specs.Option.{option_copied}
use Rattle.sccs_rmdel.proofs.FirstMade.{made_last}
use Rattle.sccs_rmdel.proofs.leaves.is_first.Goals as goal

pub returns-in-Some : goal.returns-in-Some
returns-in-Some c = made_last (λ a. a.serial == c.args.serial) c.args.records.now c.in-Some.delta.now
    (sym c.last.ensures.value ∙ ap option_copied c.in-Some.is)
