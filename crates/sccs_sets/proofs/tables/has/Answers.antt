use Rattle.std.specs.Bool.{Decides}
use Rattle.std.specs.List.{Contains}
use Rattle.std.proofs.Common.{rules}
use Rattle.std.proofs.lemmas.Bool.Decides.{same_from_decides}
use Rattle.sccs_history.specs.Numbers.{has}
use Rattle.sccs_history.proofs.Membership.{has_decides}
use Rattle.sccs_sets.proofs.tables.has.Goals as goal

pub returns : goal.returns
returns c =
    let found : Decides c.contains.result (Contains c.args.numbers.now c.args.number) = search rules in
    same_from_decides c.contains.result (has c.args.numbers.now c.args.number) found
    (has_decides c.args.numbers.now c.args.number)
