use Rattle.std.proofs.Common.{Ok, Err, ap, arith, refl}
use Rattle.sccs_writers.specs.Spelled.{spelled}
use Rattle.sccs_copies.proofs.BodyLaws.{body_put}
use Rattle.sccs_copies.proofs.CopyLaws.{never_refused, outer_left, some_both, some_cut, some_put, some_refused}
use Rattle.sccs_copies.proofs.CopyLaws.{whole_put}
use Rattle.sccs_copies.proofs.copies.put_body.Goals as goal

pub returns-in_err-copy_all-clause-told : goal.returns-in_err-copy_all-clause-told
returns-in_err-copy_all-clause-told g c = λ file items is come.
    outer_left g.F.BodyFilter.filter items c.copy_all.new.copying.filter c.args.out.now c.copy_all.new.out
    c.copy_all.new.out (g.D.Disk.told c.args.disk.now) (g.D.Disk.told c.copy_all.new.disk)
    (g.D.Disk.told c.copy_all.new.disk) c.in_err-copy_all.field-0.0 c.from_residual.result c.from_residual.ensures.1
    (c.in_err-copy_all.ensures.told file items is come)

pub returns-in-Ok-true-clause-puts : goal.returns-in-Ok-true-clause-puts
returns-in-Ok-true-clause-puts g c =
    some_both c.args.out.now c.copy_all.new.out c.finish.new.out _ _ _ _ _ _ c.copy_all.result c.in_ok-copy_all.field-0
    (Ok tt) c.in_ok-copy_all.was c.copy_all.ensures.puts
    (some_put (spelled c.in-Ok-true.ensures.finishes.items) c.copy_all.new.out c.finish.new.out _ _ _ _ _ _
    (Ok c.in-Ok-true.field-0) c.in-Ok-true.field-0 tt refl refl (omega arith) c.in-Ok-true.ensures.finishes.puts)

pub returns-in-Ok-true-clause-told : goal.returns-in-Ok-true-clause-told
returns-in-Ok-true-clause-told g c = λ file items is come.
    whole_put g.F.BodyFilter.filter items c.copy_all.new.copying.filter c.args.out.now c.copy_all.new.out
    c.finish.new.out _ _ _ _ _ (Ok c.in-Ok-true.field-0) c.in-Ok-true.field-0 refl c.in-Ok-true.field-0-test
    (c.in_ok-copy_all.ensures.told file items is come) c.in-Ok-true.ensures.finishes

pub returns-in-Ok-true-clause-whole : goal.returns-in-Ok-true-clause-whole
returns-in-Ok-true-clause-whole g c = λ live begun.
    body_put g.F.BodyFilter.filter live c.args.copying.now c.copy_all.new.copying c.args.out.now c.copy_all.new.out
    c.finish.new.out _ _ _ _ _ (Ok c.in-Ok-true.field-0) c.in-Ok-true.field-0 refl c.in-Ok-true.field-0-test
    (c.in_ok-copy_all.ensures.goes live begun) c.in-Ok-true.ensures.finishes

pub returns-in-Ok-false-clause-puts : goal.returns-in-Ok-false-clause-puts
returns-in-Ok-false-clause-puts g c =
    some_both c.args.out.now c.copy_all.new.out c.finish.new.out _ _ _ _ _ _ c.copy_all.result c.in_ok-copy_all.field-0
    _ c.in_ok-copy_all.was c.copy_all.ensures.puts
    (some_refused (spelled c.in-Ok-false.ensures.finishes.items) c.copy_all.new.out c.finish.new.out _ _ _ _
    (Ok c.in-Ok-false.field-0) c.in-Ok-false.field-0 c.copy_all.new.copying.line refl
    c.in-Ok-false.ensures.finishes.puts)

pub returns-in-Ok-false-clause-told : goal.returns-in-Ok-false-clause-told
returns-in-Ok-false-clause-told g c = λ file items is come.
    never_refused g.F.BodyFilter.filter items c.copy_all.new.copying.filter c.args.out.now c.copy_all.new.out
    c.finish.new.out _ _ _ _ _ (Ok c.in-Ok-false.field-0) c.in-Ok-false.field-0 refl c.in-Ok-false.field-0-test
    (c.in_ok-copy_all.ensures.told file items is come) c.in-Ok-false.ensures.finishes

pub returns-in-Err-clause-puts : goal.returns-in-Err-clause-puts
returns-in-Err-clause-puts g c =
    some_both c.args.out.now c.copy_all.new.out c.finish.new.out _ _ _ _ _ _ c.copy_all.result c.in_ok-copy_all.field-0
    _ c.in_ok-copy_all.was c.copy_all.ensures.puts
    (some_cut (spelled c.finish.ensures.finishes.items) c.copy_all.new.out c.finish.new.out _ _ _ _ _ _ c.finish.result
    c.in-Err.refusal _ c.in-Err.is (ap Err c.file_fault.ensures) refl (omega arith) c.finish.ensures.finishes.puts)
