use Rattle.std.proofs.Common.{◌≡◌, subst}
use Rattle.std.specs.Prelude.{IfOk, map}
use Rattle.sccs_history.specs.declared.headers.Header.{Header}
use Rattle.sccs_records.specs.NewDeltas.{null_delta}
use Rattle.sccs_records.specs.declared.new_deltas.NewDelta.{NewDelta}
use Rattle.sccs_delta.specs.DeltaStep.{header_with}
use Rattle.sccs_delta.proofs.headers.header_of.Goals as goal

pub returns-clause-value : goal.returns-clause-value
returns-clause-value c =
    subst (λ (d : NewDelta). IfOk c.header_with.result (λ (h : Header). h ≡ header_with c.args.header c.args.on
    (map (null_delta c.args.stamp.now) c.args.nulls.now) d)) c.in_ok-delta.ensures.value c.header_with.ensures.value
