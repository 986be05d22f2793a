use Rattle.std.proofs.Common.{◌+◌, ◌<◌, length, sym, ◌∙◌, ap, Ok, arith}
use Rattle.sccs_sid.proofs.ListTurns.{to_read, starts, goes_on, is_last, fails, too_many, valid_push, valid_none}
use Rattle.sccs_sid.proofs.sid_lists.SidList.read.Goals as goal

pub pieces-init : goal.pieces-init
pieces-init c = record {
  same = starts _ _ c.empty-ranges.ensures;
  short = omega arith;
  valid =
      valid_none _ c.empty-ranges.ensures;
}

pub returns-in-Err-clause-value : goal.returns-in-Err-clause-value
returns-in-Err-clause-value c = sym c.pieces.invariant.same ∙ fails _ c.pieces.ranges _ _ _ c.pieces-test.true
    c.in-Err.ensures.value

pub returns-in_default-more-clause-value : goal.returns-in_default-more-clause-value
returns-in_default-more-clause-value c =
    sym c.pieces.invariant.same
    ∙ (is_last _ c.pieces.ranges _ _ c.in-Ok.piece.0 c.pieces-test.true
    (rw c.in_default-more.is at c.in-Ok.ensures.value) ∙ ap Ok (sym c.in-Ok-push.ensures.ok))

pub returns-in_default-more-clause-valid : goal.returns-in_default-more-clause-valid
returns-in_default-more-clause-valid c =
    valid_push c.pieces.ranges _ c.in-Ok.piece.0 c.in-Ok-push.ensures.ok c.pieces.invariant.valid c.in-Ok.ensures.valid

pub pieces-preserved : goal.pieces-preserved
pieces-preserved c =
    let shorter : length c.in-Some.more.now < length c.pieces.rest.now = rw c.in-Some.is at c.in-Ok.ensures.shorter in
    record {
      same = ap (λ before. to_read c.args.bytes.now before (c.pieces._turn + 1) c.in-Some.more.now)
          c.in-Ok-push.ensures.ok
          ∙ (sym (goes_on _ c.pieces.ranges _ _ c.in-Ok.piece.0 c.in-Some.more.now c.pieces-test.true
          (rw c.in-Some.is at c.in-Ok.ensures.value)) ∙ c.pieces.invariant.same);
      short = omega arith;
      valid = valid_push c.pieces.ranges _ c.in-Ok.piece.0 c.in-Ok-push.ensures.ok c.pieces.invariant.valid
          c.in-Ok.ensures.valid;
    }

pub returns-clause-value : goal.returns-clause-value
returns-clause-value c = sym c.pieces.invariant.same ∙ too_many _ c.pieces.ranges _ c.pieces.rest.now
    c.pieces-test.false
