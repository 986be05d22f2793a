use Rattle.sccs_store.proofs.Working.{without_moves}
use Rattle.std.specs.Str.{bytes_eq}
use Rattle.sccs_group.proofs.Parts.{may_moves}
use Rattle.sccs_group.proofs.plans.drop_text.Goals as goal

pub returns-in-Ok-clause-moves : goal.returns-in-Ok-clause-moves
returns-in-Ok-clause-moves g c = without_moves c.args.name.now _ _ c.in-Ok.ensures.view

pub returns-in-Err-clause-moves : goal.returns-in-Err-clause-moves
returns-in-Err-clause-moves g c = may_moves (bytes_eq c.args.name.now) c.args.name.now _ _
    (λ k h. h) c.in-Err.ensures.view_err
