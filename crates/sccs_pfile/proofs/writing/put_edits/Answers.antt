use Rattle.std.proofs.Common.{get_or}
use Rattle.sccs_tokens.specs.Written.{ended}
use Rattle.sccs_writers.proofs.PutLaws.{part_cut, part_put, puts_nothing}
use Rattle.sccs_pfile.specs.Written.{entry_text}
use Rattle.sccs_pfile.proofs.Texts.{entry_as}
use Rattle.sccs_pfile.proofs.writing.put_edits.Goals as goal

pub loop-edit-init : goal.loop-edit-init
loop-edit-init g c = puts_nothing c.args.out.now _ _

pub returns-in-Err : goal.returns-in-Err
returns-in-Err g c =
    part_cut (λ e. ended (entry_text e)) c.args.edits.now c.loop-edit.edit-index c.edit-item.result
    c.loop-edit-test.true c.args.out.now c.loop-edit.out c.put_entry.new.out _ _ _ _ _ _ c.put_entry.result
    c.in-Err.fault c.in-Err.is c.loop-edit.invariant (entry_as c.edit-item.result
    (get_or c.args.edits.now c.loop-edit.edit-index c.edit-item.result) c.loop-edit.out c.put_entry.new.out _ _ _ _
    c.put_entry.result c.edit-item.is c.put_entry.ensures)

pub loop-edit-preserved : goal.loop-edit-preserved
loop-edit-preserved g c =
    part_put (λ e. ended (entry_text e)) c.args.edits.now c.loop-edit.edit-index c.edit-item.result
    c.loop-edit-test.true c.args.out.now c.loop-edit.out c.put_entry.new.out _ _ _ _ _ _ c.put_entry.result
    c.in_default.field-0 c.in_default.is c.loop-edit.invariant (entry_as c.edit-item.result
    (get_or c.args.edits.now c.loop-edit.edit-index c.edit-item.result) c.loop-edit.out c.put_entry.new.out _ _ _ _
    c.put_entry.result c.edit-item.is c.put_entry.ensures)
