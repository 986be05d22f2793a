use Rattle.std.proofs.Common.{◌+◌, ap, sym, ◌∙◌, arith}
use Rattle.sccs_pfile.specs.Reading.{entries_at}
use Rattle.sccs_pfile.proofs.Turns.{all_read, behind_edits, one_before, starts, valid_none, valid_push}
use Rattle.sccs_pfile.proofs.reading.read_edits.Goals as goal
use Rattle.sccs_base.proofs.SameBytes.{no_bytes}

pub lines-init : goal.lines-init
lines-init c = record {
  same = starts c.empty-edits.result c.args.bytes.now c.empty-edits.ensures;
  short = omega arith;
  valid = valid_none c.empty-edits.result c.empty-edits.ensures;
}

pub lines-preserved : goal.lines-preserved
lines-preserved c = record {
  same = ap (λ l. behind_edits l (entries_at (c.lines.number + 1) c.in_ok-edit.more.now)) c.in-Ok.ensures.ok
      ∙ (sym (one_before c.lines.edits c.in_ok-edit.edit c.lines.number
      (entries_at (c.lines.number + 1) c.in_ok-edit.more.now))
      ∙ (ap (behind_edits c.lines.edits) c.in_ok-edit.ensures.value ∙ c.lines.invariant.same));
  short = omega (arith, c.lines.invariant.short, c.in_ok-edit.ensures.shorter);
  valid = valid_push c.lines.edits c.push.new.self c.in_ok-edit.edit c.in-Ok.ensures.ok c.lines.invariant.valid
      c.in_ok-edit.ensures.valid;
}

pub returns-clause-value : goal.returns-clause-value
returns-clause-value c = all_read c.lines.edits c.lines.number c.lines.rest.now _ (no_bytes c.lines.rest.now
    (sym c.is_empty.ensures ∙ c.lines-test.false)) c.lines.invariant.same
