use Rattle.std.proofs.Common.{◌∙◌, Ok, ap, subst}
use Rattle.sccs_disk.specs.Told.{seen}
use Rattle.sccs_table.proofs.FrontLaws.{exit_is}
use Rattle.sccs_table.proofs.ReaderLaws.{same_file}
use Rattle.sccs_body.specs.ToCome.{GivesNext}
use Rattle.sccs_body.proofs.ComingLaws.{agrees_fault, outer_next}
use Rattle.sccs_body.proofs.item_readers.ItemReader.next.Goals as goal

pub returns-in_err-check_end-in-Ok-None-clause-told : goal.returns-in_err-check_end-in-Ok-None-clause-told
returns-in_err-check_end-in-Ok-None-clause-told g c = λ file live before found is p.
    let exit = exit_is c.from_residual.result c.in_err-check_end-in-Ok-None.field-0.0 c.from_residual.ensures.1 in
    let file_is = same_file _ _ _ _ (ap seen c.next_read.ensures.frame.same) c.next_read.ensures.kept.name in
    outer_next file live before found _ c.in_err-check_end-in-Ok-None.field-0.0 c.from_residual.result exit
    (c.in_err-check_end-in-Ok-None.ensures.same file (file_is ∙ is) (c.next_read.ensures.stays file live before found is
    p) (c.next_read.ensures.kept.size ∙ p.size) (c.next_read.ensures.kept.sum ∙ p.sum))

pub returns-in_err-check_end-in-Err-BadFormat-clause-told : goal.returns-in_err-check_end-in-Err-BadFormat-clause-told
returns-in_err-check_end-in-Err-BadFormat-clause-told g c = λ file live before found is p.
    let exit = exit_is c.from_residual-in_err-check_end-in-Err-BadFormat.result
    c.in_err-check_end-in-Err-BadFormat.field-0.0 c.from_residual-in_err-check_end-in-Err-BadFormat.ensures.1 in
    let file_is = same_file _ _ _ _ (ap seen c.next_read.ensures.frame.same) c.next_read.ensures.kept.name in
    outer_next file live before found _ c.in_err-check_end-in-Err-BadFormat.field-0.0
    c.from_residual-in_err-check_end-in-Err-BadFormat.result exit
    (c.in_err-check_end-in-Err-BadFormat.ensures.same file (file_is ∙ is)
    (c.next_read.ensures.stays file live before found is p) (c.next_read.ensures.kept.size ∙ p.size)
    (c.next_read.ensures.kept.sum ∙ p.sum))

pub returns-in-Ok-Some-clause-told : goal.returns-in-Ok-Some-clause-told
returns-in-Ok-Some-clause-told g c = λ file live before found is p. subst
    (λ f. GivesNext file live before found c.next_read.new.self (Ok f)) c.in-Ok-Some.field-0-is
    (c.in-Ok-Some.ensures.gives file live before found is p)

pub returns-in_err-check_end-in-Ok-None-clause-agrees : goal.returns-in_err-check_end-in-Ok-None-clause-agrees
returns-in_err-check_end-in-Ok-None-clause-agrees g c = agrees_fault _ c.in_err-check_end-in-Ok-None.field-0.0
    c.from_residual.result (exit_is c.from_residual.result c.in_err-check_end-in-Ok-None.field-0.0
    c.from_residual.ensures.1) c.in_err-check_end-in-Ok-None.ensures.never

pub returns-in_err-check_end-in-Err-BadFormat-clause-agrees : goal.returns-in_err-check_end-in-Err-BadFormat-clause-agrees
returns-in_err-check_end-in-Err-BadFormat-clause-agrees g c =
    agrees_fault _ c.in_err-check_end-in-Err-BadFormat.field-0.0
    c.from_residual-in_err-check_end-in-Err-BadFormat.result
    (exit_is c.from_residual-in_err-check_end-in-Err-BadFormat.result c.in_err-check_end-in-Err-BadFormat.field-0.0
    c.from_residual-in_err-check_end-in-Err-BadFormat.ensures.1) c.in_err-check_end-in-Err-BadFormat.ensures.never
