use Rattle.std.proofs.Common.{◌∙◌, suc, Ok, subst, sym}
use Rattle.std.proofs.lemmas.Result.{err_from_is_err_and}
use Rattle.sccs_disk.specs.Told.{seen}
use Rattle.sccs_table.specs.ReaderState.{bytes_in}
use Rattle.sccs_copies.specs.Examining.{SeesLines, line_result}
use Rattle.sccs_base.specs.Constants.{file_limit}
use Rattle.sccs_versions.specs.Coming.{GivesNextLine}
use Rattle.sccs_versions.specs.declared.readers.Next.{Next}
use Rattle.sccs_copies.proofs.BaseLaws.{all_examined, examines_none, line_examined, next_outer, not_past}
use Rattle.sccs_copies.proofs.examining.see_next.Goals as goal

pub returns-then-line-eq-FILE_LIMIT-clause-told : goal.returns-then-line-eq-FILE_LIMIT-clause-told
returns-then-line-eq-FILE_LIMIT-clause-told g c = λ file lines is coming few.
    absurd (not_past file c.next.new.self c.in-Line.line lines c.args.at.now.line file_limit
    (subst (λ (n : Next). GivesNextLine file c.next.new.self lines (Ok n)) c.in-Line.is
    (c.in_ok-line.ensures.told file lines is coming)) (sym c.line.ensures ∙ c.if-line-eq-FILE_LIMIT.true) few)

pub returns-in_ok-see_base-in-Line-clause-told : goal.returns-in_ok-see_base-in-Line-clause-told
returns-in_ok-see_base-in-Line-clause-told g c = λ file lines is coming few.
    line_examined file c.next.new.self _ c.in-Line.line lines c.args.at.now c.see_base.new.at c.args.check.now
    c.see_base.new.check (subst (λ (n : Next). GivesNextLine file c.next.new.self lines (Ok n))
    c.in-Line.is (c.in_ok-line.ensures.told file lines is coming)) c.in_ok-see_base-in-Line.ensures.line
    (subst (λ t. SeesLines (bytes_in (seen t) c.args.check.now.lines.name) (line_result c.args.at.now.plan
    (suc c.args.at.now.line) c.in-Line.line) c.args.check.now c.see_base.new.check)
    c.in_ok-line.ensures.frame.same c.in_ok-see_base-in-Line.ensures.sees)

pub returns-in_err-see_base-in-Line-clause-told : goal.returns-in_err-see_base-in-Line-clause-told
returns-in_err-see_base-in-Line-clause-told g c =
    let p = err_from_is_err_and c.from_residual-in_err-see_base-in-Line.result
    c.from_residual-in_err-see_base-in-Line.ensures.1 in
    rw (p.1, p.2) (λ file lines is coming few. c.in_err-see_base-in-Line.ensures.sees)

pub returns-in-Hidden-clause-told : goal.returns-in-Hidden-clause-told
returns-in-Hidden-clause-told g c = λ file lines is coming few.
    examines_none file c.next.new.self _ lines c.args.at.now c.args.check.now
    (subst (λ (n : Next). GivesNextLine file c.next.new.self lines (Ok n)) c.in-Hidden.is
    (c.in_ok-line.ensures.told file lines is coming))

pub returns-in-End-clause-told : goal.returns-in-End-clause-told
returns-in-End-clause-told g c = λ file lines is coming few.
    all_examined _ lines c.args.at.now c.args.check.now (subst (λ (n : Next). GivesNextLine file c.next.new.self lines
    (Ok n)) c.in-End.is (c.in_ok-line.ensures.told file lines is coming))

pub returns-in_err-line-clause-told : goal.returns-in_err-line-clause-told
returns-in_err-line-clause-told g c =
    let p = err_from_is_err_and c.from_residual.result c.from_residual.ensures.1 in
    rw (p.1, p.2) (λ file lines is coming few. next_outer file c.next.new.self lines c.in_err-line.field-0.0
    (c.in_err-line.ensures.told file lines is coming))
