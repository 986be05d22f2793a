use Rattle.std.proofs.Common.{sym, subst, ◌≡◌, ◌∙◌, Some}
use Rattle.std.specs.Option.{option_copied}
use Rattle.sccs_sets.specs.Retrieved.{retrieved}
use Rattle.sccs_sets.proofs.Living.{retrieved_live}
use Rattle.sccs_sets.proofs.retrieval.retrieve.Goals as goal

pub returns-in-Some-clause-live : goal.returns-in-Some-clause-live
returns-in-Some-clause-live c =
    let records = c.args.header.now.records in
    retrieved_live records (option_copied c.args.spec) c.args.top c.in-Some.serial
    (subst (λ rs. retrieved rs (option_copied c.args.spec) c.args.top ≡ Some c.in-Some.serial) c.items.ensures
    (sym c.found.ensures ∙ c.in-Some.is))
