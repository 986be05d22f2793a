use Rattle.std.proofs.Common.{◌∙◌, Ok, Err, ap, sym, subst}
use Rattle.std.specs.Prelude.{IfSome}
use Rattle.sccs_disk.specs.Told.{seen}
use Rattle.sccs_history.specs.History.{is_encoded}
use Rattle.sccs_grammar.specs.declared.faults.FileFault.TheVariants.{Encoded}
use Rattle.sccs_table.specs.ReaderState.{ReaderState, file_in}
use Rattle.sccs_table.proofs.ReaderLaws.{same_file}
use Rattle.sccs_table.proofs.FrontLaws.{exit_is}
use Rattle.sccs_table.proofs.FileLaws.{judged, sum_taken}
use Rattle.sccs_body.specs.Behind.{ReadsBehind}
use Rattle.sccs_body.specs.BodyFile.{AnswersFile}
use Rattle.sccs_body.proofs.WholeLaws.{read_of, whole_answer, whole_encoded, whole_judged, whole_plain, whole_refused}
use Rattle.sccs_body.proofs.WholeLaws.{whole_unopened, with_sum}
use Rattle.sccs_body.proofs.bodies.inspect.Goals as goal

pub returns-in_err-stored-clause-told : goal.returns-in_err-stored-clause-told
returns-in_err-stored-clause-told g c =
    let name_is = ap (λ (s : ReaderState). s.name) c.new-lines.ensures in
    let opened_is = same_file _ _ _ _ (ap seen c.in_ok-size.ensures.frame.same) name_is in
    let exit = exit_is c.from_residual-in_err-stored.result c.in_err-stored.field-0.0
    c.from_residual-in_err-stored.ensures.1 in
    subst (λ r. IfSome (seen (g.D.Disk.told c.args.disk.now)) (λ v. AnswersFile (file_in v c.args.name.now) r))
    (sym exit)
    (whole_answer (seen (g.D.Disk.told c.args.disk.now)) c.args.name.now c.in_ok-size.size
    (Err c.in_err-stored.field-0.0) c.in_ok-size.ensures.limit c.in_ok-size.ensures.told (λ file is long low.
    whole_unopened file low c.read_sum.new.reader c.in_err-stored.field-0.0
    (sum_taken _ file c.args.name.now c.in_ok-size.size c.new-lines.result c.read_sum.new.reader _ (opened_is
    ∙ is) c.new-lines.ensures long c.in_err-stored.ensures.told)))

pub returns-in_err-sum-clause-told : goal.returns-in_err-sum-clause-told
returns-in_err-sum-clause-told g c =
    let name_is = ap (λ (s : ReaderState). s.name) c.new-lines.ensures in
    let opened_is = same_file _ _ _ _ (ap seen c.in_ok-size.ensures.frame.same) name_is in
    let same_two = c.in_ok-stored.ensures.frame.same ∙ c.in_ok-size.ensures.frame.same in
    let name_two = c.in_ok-stored.ensures.frame.name ∙ name_is in
    let lines_is = same_file _ _ _ _ (ap seen same_two) name_two in
    let sum_is = same_file _ _ _ _ (ap seen (c.read_front-read.ensures.frame.same ∙ same_two))
    (c.read_front-read.ensures.frame.name ∙ name_two) in
    let exit = exit_is c.from_residual-in_err-sum.result c.in_err-sum.field-0.0 c.from_residual-in_err-sum.ensures.1 in
    subst (λ r. IfSome (seen (g.D.Disk.told c.args.disk.now)) (λ v. AnswersFile (file_in v c.args.name.now) r))
    (sym exit)
    (whole_answer (seen (g.D.Disk.told c.args.disk.now)) c.args.name.now c.in_ok-size.size (Err c.in_err-sum.field-0.0)
    c.in_ok-size.ensures.limit c.in_ok-size.ensures.told (λ file is long low.
    let j = judged _ _ _ file c.args.name.now c.in_ok-size.size c.new-lines.result c.read_sum.new.reader
    c.read_front-read.result.1 c.in_ok-stored.stored (Err c.in_err-sum.field-0.0) (opened_is ∙ is) (lines_is ∙ is)
    (sum_is ∙ is) c.new-lines.ensures long c.in_ok-stored.ensures.told c.in_ok-stored.ensures.place
    c.read_front-read.ensures.stays c.in_err-sum.ensures.told in
    whole_judged file low c.read_sum.new.reader c.in_ok-stored.stored j.0 c.in_err-sum.field-0.0 j.1))

pub returns-in_err-front-clause-told : goal.returns-in_err-front-clause-told
returns-in_err-front-clause-told g c =
    let name_is = ap (λ (s : ReaderState). s.name) c.new-lines.ensures in
    let opened_is = same_file _ _ _ _ (ap seen c.in_ok-size.ensures.frame.same) name_is in
    let same_two = c.in_ok-stored.ensures.frame.same ∙ c.in_ok-size.ensures.frame.same in
    let name_two = c.in_ok-stored.ensures.frame.name ∙ name_is in
    let lines_is = same_file _ _ _ _ (ap seen same_two) name_two in
    let sum_is = same_file _ _ _ _ (ap seen (c.read_front-read.ensures.frame.same ∙ same_two))
    (c.read_front-read.ensures.frame.name ∙ name_two) in
    let exit = exit_is c.from_residual-in_err-front.result c.in_err-front.field-0.0
    c.from_residual-in_err-front.ensures.1 in
    subst (λ r. IfSome (seen (g.D.Disk.told c.args.disk.now)) (λ v. AnswersFile (file_in v c.args.name.now) r))
    (sym exit)
    (whole_answer (seen (g.D.Disk.told c.args.disk.now)) c.args.name.now c.in_ok-size.size
    (Err c.in_err-front.field-0.0) c.in_ok-size.ensures.limit c.in_ok-size.ensures.told (λ file is long low.
    let j = judged _ _ _ file c.args.name.now c.in_ok-size.size c.new-lines.result c.read_sum.new.reader
    c.read_front-read.result.1 c.in_ok-stored.stored (Ok c.in_ok-sum.sum) (opened_is ∙ is) (lines_is ∙ is) (sum_is
    ∙ is) c.new-lines.ensures long c.in_ok-stored.ensures.told c.in_ok-stored.ensures.place
    c.read_front-read.ensures.stays c.in_ok-sum.ensures.told in
    let read = subst (λ r. ReadsBehind file c.read_sum.new.reader r) c.in_err-front.was
    (read_of _ file c.read_sum.new.reader c.in_ok-size.size c.read_front-read.result.0 (lines_is
    ∙ is) j.0.0 long c.read_front-read.ensures.told) in
    whole_refused file low c.read_sum.new.reader c.in_ok-stored.stored j.0 c.in_ok-sum.sum j.1 c.in_err-front.field-0.0
    read))

pub returns-then-is_encoded-clause-told : goal.returns-then-is_encoded-clause-told
returns-then-is_encoded-clause-told g c =
    let name_is = ap (λ (s : ReaderState). s.name) c.new-lines.ensures in
    let opened_is = same_file _ _ _ _ (ap seen c.in_ok-size.ensures.frame.same) name_is in
    let same_two = c.in_ok-stored.ensures.frame.same ∙ c.in_ok-size.ensures.frame.same in
    let name_two = c.in_ok-stored.ensures.frame.name ∙ name_is in
    let lines_is = same_file _ _ _ _ (ap seen same_two) name_two in
    let sum_is = same_file _ _ _ _ (ap seen (c.read_front-read.ensures.frame.same ∙ same_two))
    (c.read_front-read.ensures.frame.name ∙ name_two) in
    whole_answer (seen (g.D.Disk.told c.args.disk.now)) c.args.name.now c.in_ok-size.size
    (Err Encoded) c.in_ok-size.ensures.limit c.in_ok-size.ensures.told (λ file is long low.
    let j = judged _ _ _ file c.args.name.now c.in_ok-size.size c.new-lines.result c.read_sum.new.reader
    c.read_front-read.result.1 c.in_ok-stored.stored (Ok c.in_ok-sum.sum) (opened_is ∙ is) (lines_is ∙ is) (sum_is
    ∙ is) c.new-lines.ensures long c.in_ok-stored.ensures.told c.in_ok-stored.ensures.place
    c.read_front-read.ensures.stays c.in_ok-sum.ensures.told in
    let read = subst (λ r. ReadsBehind file c.read_sum.new.reader r) c.in_ok-front.was
    (read_of _ file c.read_sum.new.reader c.in_ok-size.size c.read_front-read.result.0 (lines_is
    ∙ is) j.0.0 long c.read_front-read.ensures.told) in
    whole_encoded file low c.read_sum.new.reader c.in_ok-stored.stored j.0 c.in_ok-sum.sum j.1 c.in_ok-front.front
    (ap is_encoded (sym c.items.ensures) ∙ (sym c.is_encoded.ensures ∙ c.if-is_encoded.true)) read)

pub returns-else-is_encoded-clause-told : goal.returns-else-is_encoded-clause-told
returns-else-is_encoded-clause-told g c =
    let name_is = ap (λ (s : ReaderState). s.name) c.new-lines.ensures in
    let opened_is = same_file _ _ _ _ (ap seen c.in_ok-size.ensures.frame.same) name_is in
    let same_two = c.in_ok-stored.ensures.frame.same ∙ c.in_ok-size.ensures.frame.same in
    let name_two = c.in_ok-stored.ensures.frame.name ∙ name_is in
    let lines_is = same_file _ _ _ _ (ap seen same_two) name_two in
    let sum_is = same_file _ _ _ _ (ap seen (c.read_front-read.ensures.frame.same ∙ same_two))
    (c.read_front-read.ensures.frame.name ∙ name_two) in
    whole_answer (seen (g.D.Disk.told c.args.disk.now)) c.args.name.now c.in_ok-size.size
    (Ok (with_sum c.in_ok-front.front c.in_ok-sum.sum)) c.in_ok-size.ensures.limit c.in_ok-size.ensures.told
    (λ file is long low.
    let j = judged _ _ _ file c.args.name.now c.in_ok-size.size c.new-lines.result c.read_sum.new.reader
    c.read_front-read.result.1 c.in_ok-stored.stored (Ok c.in_ok-sum.sum) (opened_is ∙ is) (lines_is ∙ is) (sum_is
    ∙ is) c.new-lines.ensures long c.in_ok-stored.ensures.told c.in_ok-stored.ensures.place
    c.read_front-read.ensures.stays c.in_ok-sum.ensures.told in
    let read = subst (λ r. ReadsBehind file c.read_sum.new.reader r) c.in_ok-front.was
    (read_of _ file c.read_sum.new.reader c.in_ok-size.size c.read_front-read.result.0 (lines_is
    ∙ is) j.0.0 long c.read_front-read.ensures.told) in
    whole_plain file low c.read_sum.new.reader c.in_ok-stored.stored j.0 c.in_ok-sum.sum j.1 c.in_ok-front.front
    (ap is_encoded (sym c.items.ensures) ∙ (sym c.is_encoded.ensures ∙ c.if-is_encoded.false)) read)
