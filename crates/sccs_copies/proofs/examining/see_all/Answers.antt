use Rattle.std.proofs.Common.{◌∙◌, Ok, ap, arith, refl, subst}
use Rattle.sccs_base.specs.Constants.{file_limit}
use Rattle.std.proofs.lemmas.Result.{err_from_is_err_and}
use Rattle.sccs_disk.specs.Told.{seen}
use Rattle.sccs_table.specs.ReaderState.{bytes_in}
use Rattle.sccs_versions.specs.Place.{name_of}
use Rattle.sccs_copies.specs.Examining.{ExaminesNext}
use Rattle.sccs_copies.proofs.BaseLaws.{examines_both, examines_end, examines_few, examines_none}
use Rattle.sccs_copies.proofs.examining.see_all.Goals as goal

pub lines-init : goal.lines-init
lines-init g c = record {
  same = refl;
  later = omega arith;
  name = refl;
  read = refl;
  plan = refl;
  few = c.requires;
  told = λ file lines is coming few. examines_none file c.args.version.now
      (bytes_in (seen (g.D.Disk.told c.args.disk.now)) c.args.check.now.lines.name) lines c.args.at.now c.args.check.now
      coming;
}

pub lines-preserved : goal.lines-preserved
lines-preserved g c = record {
  same = c.in_ok-see_next.ensures.frame.same ∙ c.lines.invariant.same;
  later = omega (arith, c.lines.invariant.later, c.in_ok-see_next.ensures.frame.later);
  name = c.in_ok-see_next.ensures.name ∙ c.lines.invariant.name;
  read = c.in_ok-see_next.ensures.read ∙ c.lines.invariant.read;
  plan = c.in_ok-see_next.ensures.plan ∙ c.lines.invariant.plan;
  few = c.in_ok-see_next.ensures.few;
  told = λ file lines is coming few.
      let p = c.lines.invariant.told file lines is coming few in
      let here = ap (λ t. bytes_in (seen t) (name_of c.lines.version)) c.lines.invariant.same
      ∙ (ap (bytes_in (seen (g.D.Disk.told c.args.disk.now))) c.lines.invariant.read ∙ is) in
      let beside = ap (λ t. bytes_in (seen t) c.lines.check.lines.name) c.lines.invariant.same
      ∙ ap (bytes_in (seen (g.D.Disk.told c.args.disk.now))) c.lines.invariant.name in
      examines_both file c.lines.version c.see_next.new.version _ lines c.args.at.now c.lines.at c.see_next.new.at
      c.args.check.now c.lines.check c.see_next.new.check c.lines.invariant.plan p
      (subst (λ more. ExaminesNext file c.see_next.new.version (bytes_in (seen (g.D.Disk.told c.args.disk.now))
      c.args.check.now.lines.name) p.rest c.lines.at c.see_next.new.at c.lines.check c.see_next.new.check (Ok more))
      c.if-not-branch.false
      (subst (λ t. ExaminesNext file c.see_next.new.version t p.rest c.lines.at c.see_next.new.at c.lines.check
      c.see_next.new.check (Ok c.in_ok-see_next.field-0)) beside
      (c.in_ok-see_next.ensures.told file p.rest here p.on (examines_few file c.lines.version _ lines c.args.at.now
      c.lines.at c.args.check.now c.lines.check file_limit p few))));
}

pub returns-then-not-branch-clause-told : goal.returns-then-not-branch-clause-told
returns-then-not-branch-clause-told g c = λ file lines is coming few.
    let p = c.lines.invariant.told file lines is coming few in
    let here = ap (λ t. bytes_in (seen t) (name_of c.lines.version)) c.lines.invariant.same
    ∙ (ap (bytes_in (seen (g.D.Disk.told c.args.disk.now))) c.lines.invariant.read ∙ is) in
    let beside = ap (λ t. bytes_in (seen t) c.lines.check.lines.name) c.lines.invariant.same
    ∙ ap (bytes_in (seen (g.D.Disk.told c.args.disk.now))) c.lines.invariant.name in
    examines_end file c.lines.version _ lines c.args.at.now c.lines.at c.see_next.new.at c.args.check.now c.lines.check
    c.see_next.new.check c.lines.invariant.plan p
    (subst (λ more. ExaminesNext file c.see_next.new.version (bytes_in (seen (g.D.Disk.told c.args.disk.now))
    c.args.check.now.lines.name) p.rest c.lines.at c.see_next.new.at c.lines.check c.see_next.new.check (Ok more))
    c.if-not-branch.true
    (subst (λ t. ExaminesNext file c.see_next.new.version t p.rest c.lines.at c.see_next.new.at c.lines.check
    c.see_next.new.check (Ok c.in_ok-see_next.field-0)) beside
    (c.in_ok-see_next.ensures.told file p.rest here p.on (examines_few file c.lines.version _ lines c.args.at.now
    c.lines.at c.args.check.now c.lines.check file_limit p few))))

pub returns-in_err-see_next-clause-told : goal.returns-in_err-see_next-clause-told
returns-in_err-see_next-clause-told g c =
    let q = err_from_is_err_and c.from_residual.result c.from_residual.ensures.1 in
    rw (q.1, q.2) (λ file lines is coming few.
    let p = c.lines.invariant.told file lines is coming few in
    let here = ap (λ t. bytes_in (seen t) (name_of c.lines.version)) c.lines.invariant.same
    ∙ (ap (bytes_in (seen (g.D.Disk.told c.args.disk.now))) c.lines.invariant.read ∙ is) in
    c.in_err-see_next.ensures.told file p.rest here p.on (examines_few file c.lines.version _ lines c.args.at.now
    c.lines.at
    c.args.check.now c.lines.check file_limit p few))
