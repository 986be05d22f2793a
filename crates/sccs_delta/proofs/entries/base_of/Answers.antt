use Rattle.std.proofs.Common.{Err, subst, sym}
use Rattle.sccs_changes.specs.PFiles.{Answers}
use Rattle.sccs_delta.specs.DeltaStep.{entry_base}
use Rattle.sccs_delta.specs.declared.entries.Base.{Base}
use Rattle.sccs_delta.proofs.EntryBases.{base_made, exclude_ends, include_ends, no_got, shared_ends}
use Rattle.sccs_delta.proofs.entries.base_of.Goals as goal

pub returns-in-Err-clause-value : goal.returns-in-Err-clause-value
returns-in-Err-clause-value c = no_got c.args.header.now.records c.args.number c.args.edit.now c.in-Err.ensures.value

pub returns-in-Err-serials-clause-value : goal.returns-in-Err-serials-clause-value
returns-in-Err-serials-clause-value c =
    subst (λ e. Answers {A = Base} (entry_base c.args.header.now.records c.args.number c.args.edit.now) (Err e))
    (sym c.list_fault.ensures)
    (include_ends c.args.header.now.records c.args.number c.args.edit.now c.in-Ok.got c.in-Err-serials.fault
    c.in-Ok.ensures.value c.in-Err-serials.ensures.value)

pub returns-in-Err-serials-2-clause-value : goal.returns-in-Err-serials-2-clause-value
returns-in-Err-serials-2-clause-value c =
    subst (λ e. Answers {A = Base} (entry_base c.args.header.now.records c.args.number c.args.edit.now) (Err e))
    (sym c.list_fault-in-Err-serials-2.ensures)
    (exclude_ends c.args.header.now.records c.args.number c.args.edit.now c.in-Ok.got c.in-Ok-serials.include
    c.in-Err-serials-2.fault c.in-Ok.ensures.value c.in-Ok-serials.ensures.value c.in-Err-serials-2.ensures.value)

pub returns-in-Ok-delta_set-clause-value : goal.returns-in-Ok-delta_set-clause-value
returns-in-Ok-delta_set-clause-value c =
    base_made c.args.header.now.records c.args.number c.args.edit.now c.in-Ok.got c.in-Ok-serials.include
    c.in-Ok-serials-2.exclude c.in-Ok-delta_set.set c.in-Ok.ensures.value c.in-Ok-serials.ensures.value
    c.in-Ok-serials-2.ensures.value c.in-Ok-delta_set.ensures.apart c.in-Ok-delta_set.ensures.set

pub returns-in-Err-delta_set-clause-value : goal.returns-in-Err-delta_set-clause-value
returns-in-Err-delta_set-clause-value c =
    subst (λ e. Answers {A = Base} (entry_base c.args.header.now.records c.args.number c.args.edit.now) (Err e))
    (sym c.list_fault-in-Err-delta_set.ensures)
    (shared_ends c.args.header.now.records c.args.number c.args.edit.now c.in-Ok.got c.in-Ok-serials.include
    c.in-Ok-serials-2.exclude c.in-Err-delta_set.fault c.in-Ok.ensures.value c.in-Ok-serials.ensures.value
    c.in-Ok-serials-2.ensures.value c.in-Err-delta_set.ensures.err)
