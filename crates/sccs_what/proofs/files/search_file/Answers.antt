use Rattle.std.proofs.Common.{Ok, drop, arith, subst, ap, ◌∙◌}
use Rattle.sccs_disk.specs.Told.{seen}
use Rattle.sccs_name_files.specs.WholeFiles.{file_bytes}
use Rattle.sccs_what.specs.SearchedFiles.{SearchesPiece}
use Rattle.sccs_what.proofs.FileLaws.{causes_both, finished_next, finished_past, stopped, went_on}
use Rattle.sccs_what.proofs.files.search_file.Goals as goal

pub pieces-preserved : goal.pieces-preserved
pieces-preserved g c = record {
  so_far = λ bytes is. went_on c.args.first bytes c.pieces.from c.in-Ok-Some.next c.pieces.search
      c.search_next.new.search c.args.held.now c.pieces.held c.search_next.new.held _ _ _
      (c.pieces.invariant.so_far bytes is)
      (subst (λ o. SearchesPiece c.args.first (drop c.pieces.from bytes) c.pieces.from c.pieces.search
      c.search_next.new.search c.pieces.held c.search_next.new.held (g.O.Sink.given c.pieces.out)
      (g.O.Sink.given c.search_next.new.out) (Ok o)) c.in-Ok-Some.field-0-is (c.in-Ok-Some.ensures.told bytes
      (ap (λ t. file_bytes (seen t) c.args.name.now) c.pieces.invariant.same ∙ is)));
  same = c.in-Ok-Some.ensures.same ∙ c.pieces.invariant.same;
  later = omega (arith, c.pieces.invariant.later, c.in-Ok-Some.ensures.causes.out_later);
  disk_later = omega (arith, c.pieces.invariant.disk_later, c.in-Ok-Some.ensures.causes.disk_later);
}

pub returns-in-Ok-None-clause-told : goal.returns-in-Ok-None-clause-told
returns-in-Ok-None-clause-told g c = λ bytes is size.
    finished_next c.args.first bytes c.pieces.from c.pieces.search c.search_next.new.search c.args.held.now
    c.pieces.held c.search_next.new.held c.finish.new.held _ _ _ _ c.finish.result
    (c.pieces.invariant.so_far bytes is)
    (subst (λ o. SearchesPiece c.args.first (drop c.pieces.from bytes) c.pieces.from c.pieces.search
    c.search_next.new.search c.pieces.held c.search_next.new.held (g.O.Sink.given c.pieces.out)
    (g.O.Sink.given c.search_next.new.out) (Ok o)) c.in-Ok-None.field-0-is (c.in-Ok-None.ensures.told bytes
    (ap (λ t. file_bytes (seen t) c.args.name.now) c.pieces.invariant.same ∙ is))) c.finish.ensures.ends

pub returns-in-Err-clause-told : goal.returns-in-Err-clause-told
returns-in-Err-clause-told g c = λ bytes is size.
    stopped c.args.first bytes c.pieces.from c.pieces.search c.search_next.new.search c.args.held.now c.pieces.held
    c.search_next.new.held _ _ _ c.in-Err.fault
    (c.pieces.invariant.so_far bytes is) (c.in-Err.ensures.told bytes (ap (λ t. file_bytes (seen t) c.args.name.now)
    c.pieces.invariant.same ∙ is))

pub returns-clause-told : goal.returns-clause-told
returns-clause-told g c = λ bytes is size.
    finished_past c.args.first bytes c.pieces.from c.pieces.search c.args.held.now c.pieces.held c.finish-2.new.held _ _
    _ c.finish-2.result (omega (arith, size, c.pieces-test.false)) (c.pieces.invariant.so_far bytes is)
    c.finish-2.ensures.ends

pub returns-in-Ok-None-clause-causes : goal.returns-in-Ok-None-clause-causes
returns-in-Ok-None-clause-causes g c =
    causes_both c.finish.result _ (g.O.Sink.faults c.search_next.new.out) _ _ (g.D.Disk.faults c.search_next.new.disk) _
    (omega (arith, c.pieces.invariant.later, c.in-Ok-None.ensures.causes.out_later))
    (omega (arith, c.pieces.invariant.disk_later, c.in-Ok-None.ensures.causes.disk_later))
    (c.finish.ensures.causes (g.D.Disk.faults c.search_next.new.disk))

pub returns-clause-causes : goal.returns-clause-causes
returns-clause-causes g c =
    causes_both c.finish-2.result _ (g.O.Sink.faults c.pieces.out) _ _ (g.D.Disk.faults c.pieces.disk) _
    c.pieces.invariant.later c.pieces.invariant.disk_later (c.finish-2.ensures.causes
    (g.D.Disk.faults c.pieces.disk))
