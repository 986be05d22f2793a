use Rattle.std.proofs.Common.{◌∙◌, Ok, Err, ap, sym, subst}
use Rattle.std.specs.Prelude.{IfSome}
use Rattle.sccs_disk.specs.Told.{seen}
use Rattle.sccs_grammar.specs.File.{checked_front}
use Rattle.sccs_table.specs.FrontFile.{AnswersFront}
use Rattle.sccs_table.specs.ReaderState.{ReaderState, file_in}
use Rattle.sccs_table.proofs.ReaderLaws.{same_file}
use Rattle.sccs_table.proofs.FrontLaws.{exit_is}
use Rattle.sccs_table.proofs.FileLaws.{format_refused, front_answer, front_found, front_with, judged, lines_taken}
use Rattle.sccs_table.proofs.FileLaws.{sum_judged, sum_refused, sum_taken}
use Rattle.sccs_table.proofs.fronts.check_front.Goals as goal

pub returns-in_err-stored-clause-told : goal.returns-in_err-stored-clause-told
returns-in_err-stored-clause-told g c =
    let name_is = ap (λ (s : ReaderState). s.name) c.new-reader.ensures in
    let opened_is = same_file _ _ _ _ (ap seen c.in_ok-size.ensures.frame.same) name_is in
    let exit = exit_is c.from_residual-in_err-stored.result c.in_err-stored.field-0.0
    c.from_residual-in_err-stored.ensures.1 in
    subst (λ r. IfSome (seen (g.D.Disk.told c.args.disk.now)) (λ v. AnswersFront (file_in v c.args.name.now)
    checked_front r)) (sym exit)
    (front_answer (seen (g.D.Disk.told c.args.disk.now)) c.args.name.now c.in_ok-size.size
    (Err c.in_err-stored.field-0.0) c.in_ok-size.ensures.limit c.in_ok-size.ensures.told (λ file is long.
    sum_refused file c.read_sum.new.reader c.in_err-stored.field-0.0 (sum_taken _ file c.args.name.now c.in_ok-size.size
    c.new-reader.result c.read_sum.new.reader _ (opened_is ∙ is) c.new-reader.ensures long
    c.in_err-stored.ensures.told)))

pub returns-in_err-sum-clause-told : goal.returns-in_err-sum-clause-told
returns-in_err-sum-clause-told g c =
    let name_is = ap (λ (s : ReaderState). s.name) c.new-reader.ensures in
    let opened_is = same_file _ _ _ _ (ap seen c.in_ok-size.ensures.frame.same) name_is in
    let same_two = c.in_ok-stored.ensures.frame.same ∙ c.in_ok-size.ensures.frame.same in
    let name_two = c.in_ok-stored.ensures.frame.name ∙ name_is in
    let lines_is = same_file _ _ _ _ (ap seen same_two) name_two in
    let sum_is = same_file _ _ _ _ (ap seen (c.read_lines-found.ensures.frame.same ∙ same_two))
    (c.read_lines-found.ensures.frame.name ∙ name_two) in
    let exit = exit_is c.from_residual-in_err-sum.result c.in_err-sum.field-0.0 c.from_residual-in_err-sum.ensures.1 in
    subst (λ r. IfSome (seen (g.D.Disk.told c.args.disk.now)) (λ v. AnswersFront (file_in v c.args.name.now)
    checked_front r)) (sym exit)
    (front_answer (seen (g.D.Disk.told c.args.disk.now)) c.args.name.now c.in_ok-size.size (Err c.in_err-sum.field-0.0)
    c.in_ok-size.ensures.limit c.in_ok-size.ensures.told (λ file is long.
    let j = judged _ _ _ file c.args.name.now c.in_ok-size.size c.new-reader.result c.read_sum.new.reader
    c.read_lines-found.new.reader c.in_ok-stored.stored (Err c.in_err-sum.field-0.0) (opened_is ∙ is) (lines_is
    ∙ is) (sum_is ∙ is) c.new-reader.ensures long c.in_ok-stored.ensures.told c.in_ok-stored.ensures.place
    c.read_lines-found.ensures.stays c.in_err-sum.ensures.told in
    sum_judged file c.read_sum.new.reader c.in_ok-stored.stored c.in_err-sum.field-0.0 j.0 j.1))

pub returns-in_err-header-clause-told : goal.returns-in_err-header-clause-told
returns-in_err-header-clause-told g c =
    let name_is = ap (λ (s : ReaderState). s.name) c.new-reader.ensures in
    let opened_is = same_file _ _ _ _ (ap seen c.in_ok-size.ensures.frame.same) name_is in
    let same_two = c.in_ok-stored.ensures.frame.same ∙ c.in_ok-size.ensures.frame.same in
    let name_two = c.in_ok-stored.ensures.frame.name ∙ name_is in
    let lines_is = same_file _ _ _ _ (ap seen same_two) name_two in
    let sum_is = same_file _ _ _ _ (ap seen (c.read_lines-found.ensures.frame.same ∙ same_two))
    (c.read_lines-found.ensures.frame.name ∙ name_two) in
    let exit = exit_is c.from_residual-in_err-header.result c.in_err-header.field-0.0
    c.from_residual-in_err-header.ensures.1 in
    subst (λ r. IfSome (seen (g.D.Disk.told c.args.disk.now)) (λ v. AnswersFront (file_in v c.args.name.now)
    checked_front r)) (sym exit)
    (front_answer (seen (g.D.Disk.told c.args.disk.now)) c.args.name.now c.in_ok-size.size
    (Err c.in_err-header.field-0.0) c.in_ok-size.ensures.limit c.in_ok-size.ensures.told (λ file is long.
    let j = judged _ _ _ file c.args.name.now c.in_ok-size.size c.new-reader.result c.read_sum.new.reader
    c.read_lines-found.new.reader c.in_ok-stored.stored (Ok c.in_ok-sum.sum) (opened_is ∙ is) (lines_is ∙ is)
    (sum_is ∙ is) c.new-reader.ensures long c.in_ok-stored.ensures.told c.in_ok-stored.ensures.place
    c.read_lines-found.ensures.stays c.in_ok-sum.ensures.told in
    format_refused file c.read_sum.new.reader c.read_lines-found.new.reader c.in_ok-stored.stored j.0 j.1.0
    c.in_err-header.field-0.0 (lines_taken _ file c.read_sum.new.reader c.read_lines-found.new.reader
    c.in_ok-stored.stored _ (lines_is ∙ is) j.0 c.in_err-header.ensures.told)))

pub returns-clause-told : goal.returns-clause-told
returns-clause-told g c =
    let name_is = ap (λ (s : ReaderState). s.name) c.new-reader.ensures in
    let opened_is = same_file _ _ _ _ (ap seen c.in_ok-size.ensures.frame.same) name_is in
    let same_two = c.in_ok-stored.ensures.frame.same ∙ c.in_ok-size.ensures.frame.same in
    let name_two = c.in_ok-stored.ensures.frame.name ∙ name_is in
    let lines_is = same_file _ _ _ _ (ap seen same_two) name_two in
    let sum_is = same_file _ _ _ _ (ap seen (c.read_lines-found.ensures.frame.same ∙ same_two))
    (c.read_lines-found.ensures.frame.name ∙ name_two) in
    front_answer (seen (g.D.Disk.told c.args.disk.now)) c.args.name.now c.in_ok-size.size
    (Ok (front_with c.in_ok-header.header c.place-body_from.result c.in_ok-header.body_line c.in_ok-size.size
    c.in_ok-sum.sum)) c.in_ok-size.ensures.limit c.in_ok-size.ensures.told (λ file is long.
    let j = judged _ _ _ file c.args.name.now c.in_ok-size.size c.new-reader.result c.read_sum.new.reader
    c.read_lines-found.new.reader c.in_ok-stored.stored (Ok c.in_ok-sum.sum) (opened_is ∙ is) (lines_is ∙ is)
    (sum_is ∙ is) c.new-reader.ensures long c.in_ok-stored.ensures.told c.in_ok-stored.ensures.place
    c.read_lines-found.ensures.stays c.in_ok-sum.ensures.told in
    front_found file c.read_sum.new.reader c.read_lines-found.new.reader c.in_ok-stored.stored c.in_ok-size.size
    c.place-body_from.result c.in_ok-sum.sum c.in_ok-header.header c.in_ok-header.body_line j.0 j.1 long
    (lines_taken _ file c.read_sum.new.reader c.read_lines-found.new.reader c.in_ok-stored.stored _ (lines_is
    ∙ is) j.0 c.in_ok-header.ensures.told) c.place-body_from.ensures.value)
