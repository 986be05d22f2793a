use Rattle.std.proofs.lemmas.Result.{err_from_is_err_and}
use Rattle.std.proofs.Common.{arith, refl, sym, ◌∙◌}
use Rattle.std.specs.Str.{bytes_eq}
use Rattle.sccs_base.specs.Name.{x_file}
use Rattle.sccs_disk.specs.Effects.{empty_file}
use Rattle.sccs_disk.specs.Told.{seen}
use Rattle.sccs_copies.proofs.BodyLaws.{of_some}
use Rattle.sccs_store.specs.Commits.{Becomes}
use Rattle.sccs_store.specs.SealedFiles.{sealed}
use Rattle.sccs_disk.specs.Files.{put}
use Rattle.std.specs.Prelude.{Some}
use Rattle.sccs_copies.specs.Copies.{AppendsFile}
use Rattle.sccs_writers.specs.Spelled.{spelled}
use Rattle.sccs_crash_points.proofs.FileNames.{from_s}
use Rattle.sccs_store.proofs.SealedLaws.{has_digits, sealed_made, spelled_bytes}
use Rattle.sccs_disk.specs.Images.{IsFirm}
use Rattle.sccs_store.proofs.Working.{firm_after, leaves_from, made_moves, made_there, moves_then, written_touches}
use Rattle.sccs_writers.proofs.OneFile.{only_both}
use Rattle.sccs_grammar.specs.declared.faults.FileFault.TheVariants as faults
use Rattle.sccs_copies.proofs.CopyLaws.{err_again, failed_as, fault_of}
use Rattle.sccs_copies.proofs.ComingItems.{bytes_stay}
use Rattle.sccs_copies.proofs.writing.write_sfile.Goals as goal
use Rattle.sccs_base.proofs.Rises.{rose_later}

pub append_x-requires-clause-there : goal.append_x-requires-clause-there
append_x-requires-clause-there g c = made_there (x_file c.args.name.now) empty_file (g.D.Disk.told c.args.disk.now)
    (g.D.Disk.told c.start.new.disk) c.in_default.ensures.view

pub returns-in_err-sum-clause-told : goal.returns-in_err-sum-clause-told
returns-in_err-sum-clause-told g c =
    let p = err_from_is_err_and c.from_residual.result c.from_residual.ensures.1 in
    rw (p.1, p.2) (λ file items is come.
    c.in_err-sum.ensures.told file items
    (bytes_stay (x_file c.args.name.now) c.args.name.now file _ _ (from_s 120 c.args.name.now c.requires.sfile refl)
    (made_moves (x_file c.args.name.now) empty_file _ _ c.in_default.ensures.view) is) come)

pub finish_x-requires-clause-there : goal.finish_x-requires-clause-there
finish_x-requires-clause-there g c =
    has_digits (x_file c.args.name.now) c.in_ok-sum.ensures.appends.more (g.D.Disk.told c.args.disk.now)
    (g.D.Disk.told c.start.new.disk) (g.D.Disk.told c.append_x.new.disk) c.in_default.ensures.view
    c.in_ok-sum.ensures.appends.ok

pub returns-in-Ok-clause-told : goal.returns-in-Ok-clause-told
returns-in-Ok-clause-told g c = λ file items is come.
    let made = c.in_ok-sum.ensures.told file items
    (bytes_stay (x_file c.args.name.now) c.args.name.now file _ _ (from_s 120 c.args.name.now c.requires.sfile refl)
    (made_moves (x_file c.args.name.now) empty_file _ _ c.in_default.ensures.view) is) come in
    sealed_made (x_file c.args.name.now) c.args.header.now items (spelled items) c.in_ok-sum.sum _
    (seen (g.D.Disk.told c.start.new.disk)) (seen (g.D.Disk.told c.append_x.new.disk)) _
    (spelled_bytes items) c.in_default.ensures.view made.file made.sum c.in-Ok.ensures.view

pub returns-in-Ok-clause-whole : goal.returns-in-Ok-clause-whole
returns-in-Ok-clause-whole g c = λ live begun.
    of_some g.F.BodyFilter.filter live c.args.copying.filter (λ items. AppendsFile c.args.header.now items
    (x_file c.args.name.now) c.in_ok-sum.sum (g.D.Disk.told c.start.new.disk) (g.D.Disk.told c.append_x.new.disk))
    (λ items. Becomes (λ v. put v (x_file c.args.name.now) (Some (sealed c.args.header.now items)))
    (seen (g.D.Disk.told c.args.disk.now)) (seen (g.D.Disk.told c.finish_x.new.disk)))
    (λ items made.
    sealed_made (x_file c.args.name.now) c.args.header.now items (spelled items) c.in_ok-sum.sum _
    (seen (g.D.Disk.told c.start.new.disk)) (seen (g.D.Disk.told c.append_x.new.disk)) _
    (spelled_bytes items) c.in_default.ensures.view made.file made.sum c.in-Ok.ensures.view)
    (c.in_ok-sum.ensures.whole live begun)

pub returns-in_err-sum-clause-frame : goal.returns-in_err-sum-clause-frame
returns-in_err-sum-clause-frame g c =
    let p = err_from_is_err_and c.from_residual.result c.from_residual.ensures.1 in
    rw (p.1, p.2) (record {
      moves = moves_then (bytes_eq (x_file c.args.name.now)) _ _ _ (made_moves (x_file c.args.name.now) empty_file _ _
          c.in_default.ensures.view) c.in_err-sum.ensures.appends.only.view;
      there = tt;
      touches = written_touches (x_file c.args.name.now) (bytes_eq (x_file c.args.name.now)) _
          (g.D.Disk.told c.start.new.disk) _ (g.met.D.Disk.sane c.start.new.disk) (λ k h. h) c.start.ensures.touches
          c.in_default.ensures.own c.in_err-sum.ensures.appends.only;
      firm = tt;
      later = omega (arith, c.in_default.ensures.causes.later, c.in_err-sum.ensures.appends.later);
      cause = λ failed. rose_later _ _ _ c.in_default.ensures.causes.later (c.in_err-sum.ensures.appends.cause
          (err_again c.in_err-sum.field-0.0 faults.Failed _ _ refl refl failed));
    })

pub returns-in-Ok-clause-frame : goal.returns-in-Ok-clause-frame
returns-in-Ok-clause-frame g c = record {
  moves = moves_then (bytes_eq (x_file c.args.name.now)) _ _ _ (moves_then (bytes_eq (x_file c.args.name.now)) _ _ _
      (made_moves (x_file c.args.name.now) empty_file _ _ c.in_default.ensures.view)
      c.in_ok-sum.ensures.appends.only.view) c.finish_x.ensures.only.view;
  there = c.finish_x.ensures.only.there (c.in_ok-sum.ensures.appends.only.there
      (made_there (x_file c.args.name.now) empty_file (g.D.Disk.told c.args.disk.now) (g.D.Disk.told c.start.new.disk)
      c.in_default.ensures.view));
  touches = written_touches (x_file c.args.name.now) (bytes_eq (x_file c.args.name.now)) _
      (g.D.Disk.told c.start.new.disk) _ (g.met.D.Disk.sane c.start.new.disk) (λ k h. h) c.start.ensures.touches
      c.in_default.ensures.own
      (only_both (x_file c.args.name.now) _ (g.D.Disk.told c.append_x.new.disk) _ c.in_ok-sum.ensures.appends.only
      c.finish_x.ensures.only);
  firm = leaves_from (IsFirm (x_file c.args.name.now)) (bytes_eq (x_file c.args.name.now)) _
      (g.D.Disk.told c.start.new.disk) _ c.start.ensures.touches (firm_after (x_file c.args.name.now) _
      (g.D.Disk.told c.append_x.new.disk) _ c.in_ok-sum.ensures.appends.only c.in-Ok.ensures.firm);
  later = omega (
    arith,
    c.in_default.ensures.causes.later,
    c.in_ok-sum.ensures.appends.later,
    c.finish_x.ensures.causes.later,
  );
  cause = λ failed. absurd cc;
}

pub returns-in-Err-finish_x-clause-frame : goal.returns-in-Err-finish_x-clause-frame
returns-in-Err-finish_x-clause-frame g c = record {
  moves = moves_then (bytes_eq (x_file c.args.name.now)) _ _ _ (moves_then (bytes_eq (x_file c.args.name.now)) _ _ _
      (made_moves (x_file c.args.name.now) empty_file _ _ c.in_default.ensures.view)
      c.in_ok-sum.ensures.appends.only.view) c.finish_x.ensures.only.view;
  there = tt;
  touches = written_touches (x_file c.args.name.now) (bytes_eq (x_file c.args.name.now)) _
      (g.D.Disk.told c.start.new.disk) _ (g.met.D.Disk.sane c.start.new.disk) (λ k h. h) c.start.ensures.touches
      c.in_default.ensures.own
      (only_both (x_file c.args.name.now) _ (g.D.Disk.told c.append_x.new.disk) _ c.in_ok-sum.ensures.appends.only
      c.finish_x.ensures.only);
  firm = tt;
  later = omega (
    arith,
    c.in_default.ensures.causes.later,
    c.in_ok-sum.ensures.appends.later,
    c.finish_x.ensures.causes.later,
  );
  cause = λ failed. rose_later _ _ _ (omega (
    arith,
    c.in_default.ensures.causes.later,
    c.in_ok-sum.ensures.appends.later,
  )) (c.finish_x.ensures.causes.cause
      (failed_as c.finish_x.result c.in-Err-finish_x.refusal c.in-Err-finish_x.is
      (sym c.file_fault-in-Err-finish_x.ensures ∙ fault_of c.file_fault-in-Err-finish_x.result faults.Failed failed)));
}
