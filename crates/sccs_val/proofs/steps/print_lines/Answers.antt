use Rattle.std.proofs.Common.{◌∙◌, Ok, Err, ap, arith, refl, subst}
use Rattle.sccs_base.specs.Stream.{GivesOk, GivesSome}
use Rattle.sccs_disk.specs.Told.{seen}
use Rattle.sccs_val.specs.Reports.{line_status, line_text, lines_status, val_lines_text}
use Rattle.sccs_val.specs.ValStep.{PrintsStatus}
use Rattle.sccs_val.proofs.JudgingLaws.{causes_both, given_causes, if_told, told_at}
use Rattle.sccs_val.proofs.LineLaws.{printed_all, printed_cut, printed_more, printed_none}
use Rattle.sccs_val.proofs.steps.print_lines.Goals as goal

pub loop-line-init : goal.loop-line-init
loop-line-init g c = record {
  so_far = λ v is. printed_none (line_text v) (line_status v) c.args.lines.now
      (g.O.Sink.given c.args.out.now);
  same = refl;
  out_later = omega arith;
  later = omega arith;
}

pub loop-line-preserved : goal.loop-line-preserved
loop-line-preserved g c =
    let n = c.bytes.result.now in
    record {
      so_far = λ v is.
          let here = told_at (λ v. PrintsStatus (line_text v n) (line_status v n) (Ok c.in-Ok.bits)
          (g.O.Sink.given c.loop-line.out) (g.O.Sink.given c.print_line.new.out))
          (seen (g.D.Disk.told c.loop-line.disk)) v (ap seen c.loop-line.invariant.same
          ∙ is) c.in-Ok.ensures.told in
          printed_more (line_text v) (line_status v) c.args.lines.now c.loop-line.line-index c.loop-line.status
          c.in-Ok.bits c.line-item.result (g.O.Sink.given c.args.out.now) (g.O.Sink.given c.loop-line.out)
          (g.O.Sink.given c.print_line.new.out)
          c.loop-line-test.true c.line-item.is (c.loop-line.invariant.so_far v is) (here.0
          ∙ ap (λ x. line_status v x) c.bytes.ensures.value) (subst (λ x. GivesOk (g.O.Sink.given c.loop-line.out)
          (g.O.Sink.given c.print_line.new.out) (line_text v x)) c.bytes.ensures.value here.1);
      same = c.in-Ok.ensures.same ∙ c.loop-line.invariant.same;
      out_later = omega (arith, c.loop-line.invariant.out_later, c.in-Ok.ensures.causes.out_later);
      later = omega (arith, c.loop-line.invariant.later, c.in-Ok.ensures.causes.disk_later);
    }

pub returns-in-Err-clause-told : goal.returns-in-Err-clause-told
returns-in-Err-clause-told g c =
    let n = c.bytes.result.now in
    if_told (λ v. PrintsStatus (val_lines_text v c.args.lines.now) (lines_status v c.args.lines.now)
    (Err c.in-Err.fault) (g.O.Sink.given c.args.out.now) (g.O.Sink.given c.print_line.new.out))
    (seen (g.D.Disk.told c.args.disk.now))
    (λ v is.
    let here = told_at (λ v. PrintsStatus (line_text v n) (line_status v n) (Err c.in-Err.fault)
    (g.O.Sink.given c.loop-line.out) (g.O.Sink.given c.print_line.new.out)) (seen (g.D.Disk.told c.loop-line.disk))
    v (ap seen c.loop-line.invariant.same ∙ is) c.in-Err.ensures.told in
    printed_cut (line_text v) (line_status v) c.args.lines.now c.loop-line.line-index c.loop-line.status
    c.line-item.result (g.O.Sink.given c.args.out.now) (g.O.Sink.given c.loop-line.out)
    (g.O.Sink.given c.print_line.new.out)
    c.loop-line-test.true c.line-item.is (c.loop-line.invariant.so_far v is)
    (subst (λ x. GivesSome (g.O.Sink.given c.loop-line.out) (g.O.Sink.given c.print_line.new.out) (line_text v x))
    c.bytes.ensures.value here))

pub returns-in-Err-clause-same : goal.returns-in-Err-clause-same
returns-in-Err-clause-same g c = c.in-Err.ensures.same ∙ c.loop-line.invariant.same

pub returns-in-Err-clause-causes : goal.returns-in-Err-clause-causes
returns-in-Err-clause-causes g c = causes_both c.in-Err.fault _ (g.O.Sink.faults c.loop-line.out) _ _
    (g.D.Disk.faults c.loop-line.disk) _ c.loop-line.invariant.out_later c.loop-line.invariant.later
    c.in-Err.ensures.causes

pub returns-clause-told : goal.returns-clause-told
returns-clause-told g c =
    if_told (λ v. PrintsStatus (val_lines_text v c.args.lines.now) (lines_status v c.args.lines.now)
    (Ok c.loop-line.status) (g.O.Sink.given c.args.out.now) (g.O.Sink.given c.loop-line.out))
    (seen (g.D.Disk.told c.args.disk.now))
    (λ v is. printed_all (line_text v) (line_status v) c.args.lines.now c.loop-line.line-index c.loop-line.status _ _
    c.loop-line-test.false (c.loop-line.invariant.so_far v is))

pub returns-clause-causes : goal.returns-clause-causes
returns-clause-causes g c = given_causes c.loop-line.status _ _ _ _ c.loop-line.invariant.out_later
    c.loop-line.invariant.later
