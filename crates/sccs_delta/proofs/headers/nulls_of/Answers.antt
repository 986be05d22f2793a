use Rattle.std.proofs.Common.{List, subst, sym}
use Rattle.std.specs.List.{AllByRecursion}
use Rattle.sccs_sid.specs.Sid.{IsSid}
use Rattle.sccs_sid.specs.declared.sids.Sid.{Sid}
use Rattle.sccs_delta.proofs.NullSids.{skipped_sids}
use Rattle.sccs_delta.proofs.headers.nulls_of.Goals as goal

pub returns-clause-sids : goal.returns-clause-sids
returns-clause-sids c = subst (λ (sids : List Sid). AllByRecursion IsSid sids) (sym c.in-Ok-skipped.ensures)
    (skipped_sids c.args.header.now c.args.edit.now.got c.args.edit.now.made c.items.result.now c.requires.got
    c.requires.made)
