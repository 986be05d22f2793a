use Rattle.std.proofs.lemmas.Result.{err_from_is_err_and}
use Rattle.std.proofs.Common.{◌≡◌, ◌++◌, ◌∙◌, ap, arith}
use Rattle.sccs_disk.specs.Told.{seen}
use Rattle.sccs_val.specs.Reports.{line_heading, words_status, words_text}
use Rattle.sccs_val.specs.ValStep.{PrintsStatus}
use Rattle.sccs_val.proofs.JudgingLaws.{causes_then, if_told, same_causes, told_at}
use Rattle.sccs_val.proofs.LineLaws.{under_printed}
use Rattle.sccs_val.proofs.steps.print_under.Goals as goal

pub returns-clause-told : goal.returns-clause-told
returns-clause-told g c =
    let w = c.args.words.now in
    let n = c.args.line.now in
    if_told (λ v. PrintsStatus (line_heading n (words_status w v) w.silent ++ words_text w v)
    (words_status w v) c.give_report.result (g.O.Sink.given c.args.out.now) (g.O.Sink.given c.give_report.new.out))
    (seen (g.D.Disk.told c.args.disk.now))
    (λ v is.
    let here = told_at (λ v. (c.in_ok-status.status ≡ words_status w v)
    × (c.judge_words.new.report.items ≡ c.new-report.result.items ++ words_text w v))
    (seen (g.D.Disk.told c.args.disk.now)) v is c.in_ok-status.ensures.told in
    under_printed v n c.as_slice.result.now w c.in_ok-status.status c.give_report.result _ _ here.0
    (c.as_slice.ensures.value ∙ (here.1 ∙ ap (λ l. l ++ words_text w v) c.new-report.ensures.items))
    c.give_report.ensures.prints)

pub returns-clause-causes : goal.returns-clause-causes
returns-clause-causes g c = causes_then c.give_report.result _ _ (g.D.Disk.faults c.args.disk.now)
    (g.D.Disk.faults c.judge_words.new.disk) _ (c.in_ok-status.ensures.causes 0).disk_later
    (c.give_report.ensures.causes (g.D.Disk.faults c.judge_words.new.disk))

pub returns-in_err-status-clause-causes : goal.returns-in_err-status-clause-causes
returns-in_err-status-clause-causes g c =
    let p = err_from_is_err_and c.from_residual.result c.from_residual.ensures.1 in
    rw (p.1, p.2) (same_causes c.in_err-status.field-0.0 (g.O.Sink.faults c.args.out.now) _ _
    (g.D.Disk.faults c.args.disk.now) _ (omega arith) (c.in_err-status.ensures.causes
    (g.O.Sink.faults c.args.out.now)))
