use Rattle.std.proofs.lemmas.Result.{err_from_is_err_and}
use Rattle.std.proofs.Common.{◌≡◌, ◌∙◌, ap, arith, subst}
use Rattle.sccs_disk.specs.Told.{seen}
use Rattle.sccs_table.specs.ReaderState.{ReaderState, bytes_in}
use Rattle.sccs_versions.specs.Coming.{shown}
use Rattle.sccs_versions.specs.Place.{name_of}
use Rattle.sccs_copies.specs.Examining.{ExaminesWhole, SeesLines}
use Rattle.sccs_copies.proofs.BaseLaws.{found_result}
use Rattle.sccs_copies.proofs.examining.examine_all.Goals as goal

pub returns-in_err-see_all-clause-told : goal.returns-in_err-see_all-clause-told
returns-in_err-see_all-clause-told g c =
    let p = err_from_is_err_and c.from_residual-in_err-see_all.result c.from_residual-in_err-see_all.ensures.1 in
    rw (p.1, p.2) (λ file set n lines is coming few before.
    c.in_err-see_all.ensures.told file (shown set lines) (ap (λ t. bytes_in (seen t) (name_of c.args.version.now))
    c.in_ok-see_lines.ensures.frame.same ∙ is) coming (omega (arith, c.requires, few)))

pub returns-clause-told : goal.returns-clause-told
returns-clause-told g c = λ file set n lines is coming few before.
    let named : c.args.check.now.lines.name ≡ n = ap (λ (r : ReaderState). r.name) before.lines in
    let whole = c.in_ok-see_all.ensures.told file (shown set lines)
    (ap (λ t. bytes_in (seen t) (name_of c.args.version.now)) c.in_ok-see_lines.ensures.frame.same ∙ is) coming
    (omega (arith, c.requires, few)) in
    found_result (bytes_in (seen (g.D.Disk.told c.args.disk.now)) n) set n lines c.args.compares c.args.at.now
    c.see_all.new.at c.args.check.now c.see_lines.new.check c.see_all.new.check c.new_lines.result.now
    (record {
      lines = c.line.result;
      keyword = c.first_difference.new.check.keyword;
      differs =
          c.in_ok-differs.differs;
    })
    c.requires c.new_lines.ensures before
    (subst (λ m. SeesLines (bytes_in (seen (g.D.Disk.told c.args.disk.now)) m) c.new_lines.result.now c.args.check.now
    c.see_lines.new.check) named c.in_ok-see_lines.ensures.sees)
    (subst (λ t. ExaminesWhole t (shown set lines) c.args.at.now c.see_all.new.at c.see_lines.new.check
    c.see_all.new.check)
    (ap (λ t. bytes_in (seen t) c.see_lines.new.check.lines.name) c.in_ok-see_lines.ensures.frame.same
    ∙ ap (bytes_in (seen (g.D.Disk.told c.args.disk.now))) (c.in_ok-see_lines.ensures.name ∙ named)) whole)
    c.line.ensures c.in_ok-differs.ensures.keyword
    (λ gfile rest gis compares comes.
    c.in_ok-differs.ensures.told gfile rest
    (ap (λ t. bytes_in (seen t) c.see_all.new.check.lines.name) (c.in_ok-see_all.ensures.frame.same
    ∙ c.in_ok-see_lines.ensures.frame.same)
    ∙ (ap (bytes_in (seen (g.D.Disk.told c.args.disk.now))) (c.in_ok-see_all.ensures.name
    ∙ (c.in_ok-see_lines.ensures.name ∙ named)) ∙ gis)) compares comes)
