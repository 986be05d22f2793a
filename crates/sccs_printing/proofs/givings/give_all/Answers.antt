use Rattle.std.proofs.Common.{Ok, ap, arith, refl, rules, subst, ◌∙◌}
use Rattle.std.proofs.lemmas.Result.{err_from_is_err_and}
use Rattle.sccs_disk.specs.Told.{seen}
use Rattle.sccs_table.specs.ReaderState.{bytes_in}
use Rattle.sccs_versions.specs.Place.{name_of}
use Rattle.sccs_printing.specs.Giving.{GivesMore, ReadsMore}
use Rattle.sccs_printing.specs.Targets.{file_of, target_bytes}
use Rattle.sccs_printing.proofs.GivingLaws.{keeps_both, keeps_same, moved_none, some_none}
use Rattle.sccs_printing.proofs.TurnLaws.{mark_none, mark_on, reach_on, reaches_none, still_read, turn_cut, turn_end}
use Rattle.sccs_printing.proofs.TurnLaws.{turn_moved, turn_read, turn_whole}
use Rattle.sccs_printing.proofs.givings.give_all.Goals as goal

pub lines-init : goal.lines-init
lines-init g c = record {
  keeps = keeps_same c.args.giving.now;
  reaches = reaches_none (file_of c.args.giving.now.target) (g.O.Sink.given c.args.out.now)
      (g.D.Disk.told c.args.disk.now);
  mark = mark_none (file_of c.args.giving.now.target) (g.D.Disk.told c.args.disk.now);
  later = search rules;
  out_later = search rules;
  name = refl;
  set = refl;
  read = λ live before h. some_none live c.args.version.now before c.args.giving.now
      (target_bytes (file_of c.args.giving.now.target) (g.O.Sink.given c.args.out.now) (g.D.Disk.told c.args.disk.now))
      h;
  moved = λ file lines told p. moved_none file c.args.version.now lines c.args.giving.now
      (target_bytes (file_of c.args.giving.now.target) (g.O.Sink.given c.args.out.now) (g.D.Disk.told c.args.disk.now))
      p;
}

pub returns-in_err-give_run-clause-frame : goal.returns-in_err-give_run-clause-frame
returns-in_err-give_run-clause-frame g c =
    let e = err_from_is_err_and c.from_residual.result c.from_residual.ensures.1 in
    rw (e.1, e.2) (record {
      reaches =
          reach_on c.args.giving.now c.lines.giving c.lines.invariant.keeps (g.O.Sink.given c.args.out.now)
          (g.O.Sink.given c.lines.out) (g.O.Sink.given c.give_run.new.out) (g.D.Disk.told c.args.disk.now)
          (g.D.Disk.told c.lines.disk) (g.D.Disk.told c.give_run.new.disk) c.lines.invariant.reaches
          c.in_err-give_run.ensures.frame.reaches;
      mark = search rules;
      spares = search rules;
      causes = search rules;
      checks = search rules;
    })

pub returns-in_err-give_run-clause-gives : goal.returns-in_err-give_run-clause-gives
returns-in_err-give_run-clause-gives g c =
    let e = err_from_is_err_and c.from_residual.result c.from_residual.ensures.1 in
    rw (e.1, e.2) (λ file lines told p.
    let m = c.lines.invariant.moved file lines told p in
    turn_cut c.args.giving.now c.lines.giving c.lines.invariant.keeps file c.lines.version lines
    c.in_err-give_run.field-0.0
    c.give_run.new.giving (g.O.Sink.given c.args.out.now) (g.O.Sink.given c.lines.out)
    (g.O.Sink.given c.give_run.new.out) (g.D.Disk.told c.args.disk.now) (g.D.Disk.told c.lines.disk)
    (g.D.Disk.told c.give_run.new.disk) m (c.in_err-give_run.ensures.gives file m.rest m.on))

pub lines-preserved : goal.lines-preserved
lines-preserved g c =
    let keeps = keeps_both c.args.giving.now c.lines.giving c.give_run.new.giving c.lines.invariant.keeps
    c.in_ok-give_run.ensures.keeps in
    let reach = reach_on c.args.giving.now c.lines.giving c.lines.invariant.keeps (g.O.Sink.given c.args.out.now)
    (g.O.Sink.given c.lines.out) (g.O.Sink.given c.give_run.new.out) (g.D.Disk.told c.args.disk.now)
    (g.D.Disk.told c.lines.disk) (g.D.Disk.told c.give_run.new.disk) c.lines.invariant.reaches
    c.in_ok-give_run.ensures.frame.reaches in
    record {
      keeps = keeps_both c.args.giving.now c.give_run.new.giving c.give_next.new.giving keeps
          c.in_ok-give_next.ensures.keeps;
      reaches = reach_on c.args.giving.now c.give_run.new.giving keeps (g.O.Sink.given c.args.out.now)
          (g.O.Sink.given c.give_run.new.out) (g.O.Sink.given c.give_next.new.out) (g.D.Disk.told c.args.disk.now)
          (g.D.Disk.told c.give_run.new.disk) (g.D.Disk.told c.give_next.new.disk) reach
          c.in_ok-give_next.ensures.frame.reaches;
      mark = mark_on c.args.giving.now c.give_run.new.giving keeps (g.D.Disk.told c.args.disk.now)
          (g.D.Disk.told c.give_run.new.disk) (g.D.Disk.told c.give_next.new.disk)
          (mark_on c.args.giving.now c.lines.giving c.lines.invariant.keeps (g.D.Disk.told c.args.disk.now)
          (g.D.Disk.told c.lines.disk) (g.D.Disk.told c.give_run.new.disk) c.lines.invariant.mark
          c.in_ok-give_run.ensures.frame.mark) c.in_ok-give_next.ensures.frame.mark;
      later = omega (
        arith,
        c.lines.invariant.later,
        c.in_ok-give_run.ensures.frame.causes.disk_later,
        c.in_ok-give_next.ensures.frame.causes.disk_later,
      );
      out_later = omega (
        arith,
        c.lines.invariant.out_later,
        c.in_ok-give_run.ensures.frame.causes.out_later,
        c.in_ok-give_next.ensures.frame.causes.out_later,
      );
      name = c.in_ok-give_next.ensures.version.name ∙ (c.in_ok-give_run.ensures.version.name ∙ c.lines.invariant.name);
      set = c.in_ok-give_next.ensures.version.set ∙ (c.in_ok-give_run.ensures.version.set ∙ c.lines.invariant.set);
      read = λ live before h.
          let some = c.lines.invariant.read live before h in
          let run = turn_read c.args.giving.now c.lines.giving c.lines.invariant.keeps live c.lines.version
          c.give_run.new.version before c.give_run.new.giving (g.O.Sink.given c.args.out.now)
          (g.O.Sink.given c.lines.out) (g.O.Sink.given c.give_run.new.out) (g.D.Disk.told c.args.disk.now)
          (g.D.Disk.told c.lines.disk) (g.D.Disk.told c.give_run.new.disk) c.in_ok-give_run.ensures.version.set some
          (c.in_ok-give_run.ensures.read live some.items some.read) in
          turn_read c.args.giving.now c.give_run.new.giving keeps live c.give_run.new.version c.give_next.new.version
          before c.give_next.new.giving (g.O.Sink.given c.args.out.now) (g.O.Sink.given c.give_run.new.out)
          (g.O.Sink.given c.give_next.new.out) (g.D.Disk.told c.args.disk.now) (g.D.Disk.told c.give_run.new.disk)
          (g.D.Disk.told c.give_next.new.disk) c.in_ok-give_next.ensures.version.set run
          (subst (λ more. ReadsMore live c.give_next.new.version run.items (Ok more) c.give_run.new.giving
          c.give_next.new.giving (target_bytes (file_of c.give_run.new.giving.target)
          (g.O.Sink.given c.give_run.new.out) (g.D.Disk.told c.give_run.new.disk))
          (target_bytes (file_of c.give_run.new.giving.target) (g.O.Sink.given c.give_next.new.out)
          (g.D.Disk.told c.give_next.new.disk))) c.if-not-branch.false
          (c.in_ok-give_next.ensures.read live run.items run.read));
      moved = λ file lines told p.
          let here = ap (bytes_in (seen (g.D.Disk.told c.give_run.new.disk))) (c.in_ok-give_run.ensures.version.name
          ∙ c.lines.invariant.name) ∙ still_read (file_of c.args.giving.now.target) (name_of c.args.version.now)
          file (g.O.Sink.given c.args.out.now) (g.O.Sink.given c.give_run.new.out) (g.D.Disk.told c.args.disk.now)
          (g.D.Disk.told c.give_run.new.disk) c.requires.apart reach told in
          let m = c.lines.invariant.moved file lines told p in
          let run = turn_moved c.args.giving.now c.lines.giving c.lines.invariant.keeps file c.lines.version
          c.give_run.new.version lines c.give_run.new.giving (g.O.Sink.given c.args.out.now)
          (g.O.Sink.given c.lines.out) (g.O.Sink.given c.give_run.new.out) (g.D.Disk.told c.args.disk.now)
          (g.D.Disk.told c.lines.disk) (g.D.Disk.told c.give_run.new.disk) m
          (c.in_ok-give_run.ensures.gives file m.rest m.on) in
          turn_moved c.args.giving.now c.give_run.new.giving keeps file c.give_run.new.version c.give_next.new.version
          lines c.give_next.new.giving (g.O.Sink.given c.args.out.now) (g.O.Sink.given c.give_run.new.out)
          (g.O.Sink.given c.give_next.new.out) (g.D.Disk.told c.args.disk.now) (g.D.Disk.told c.give_run.new.disk)
          (g.D.Disk.told c.give_next.new.disk) run
          (subst (λ more. GivesMore file c.give_next.new.version run.rest (Ok more) c.give_run.new.giving
          c.give_next.new.giving (target_bytes (file_of c.give_run.new.giving.target)
          (g.O.Sink.given c.give_run.new.out) (g.D.Disk.told c.give_run.new.disk))
          (target_bytes (file_of c.give_run.new.giving.target) (g.O.Sink.given c.give_next.new.out)
          (g.D.Disk.told c.give_next.new.disk))) c.if-not-branch.false
          (c.in_ok-give_next.ensures.gives file run.rest here run.on));
    }

pub returns-then-not-branch-clause-frame : goal.returns-then-not-branch-clause-frame
returns-then-not-branch-clause-frame g c = record {
  reaches =
      let keeps = keeps_both c.args.giving.now c.lines.giving c.give_run.new.giving c.lines.invariant.keeps
      c.in_ok-give_run.ensures.keeps in
      let reach = reach_on c.args.giving.now c.lines.giving c.lines.invariant.keeps (g.O.Sink.given c.args.out.now)
      (g.O.Sink.given c.lines.out) (g.O.Sink.given c.give_run.new.out) (g.D.Disk.told c.args.disk.now)
      (g.D.Disk.told c.lines.disk) (g.D.Disk.told c.give_run.new.disk) c.lines.invariant.reaches
      c.in_ok-give_run.ensures.frame.reaches in
      reach_on c.args.giving.now c.give_run.new.giving keeps (g.O.Sink.given c.args.out.now)
      (g.O.Sink.given c.give_run.new.out) (g.O.Sink.given c.give_next.new.out) (g.D.Disk.told c.args.disk.now)
      (g.D.Disk.told c.give_run.new.disk) (g.D.Disk.told c.give_next.new.disk) reach
      c.in_ok-give_next.ensures.frame.reaches;
  mark = search rules;
  spares = search rules;
  causes = search rules;
  checks = search rules;
}

pub returns-then-not-branch-clause-gives : goal.returns-then-not-branch-clause-gives
returns-then-not-branch-clause-gives g c = λ file lines told p.
    let keeps = keeps_both c.args.giving.now c.lines.giving c.give_run.new.giving c.lines.invariant.keeps
    c.in_ok-give_run.ensures.keeps in
    let reach = reach_on c.args.giving.now c.lines.giving c.lines.invariant.keeps (g.O.Sink.given c.args.out.now)
    (g.O.Sink.given c.lines.out) (g.O.Sink.given c.give_run.new.out) (g.D.Disk.told c.args.disk.now)
    (g.D.Disk.told c.lines.disk) (g.D.Disk.told c.give_run.new.disk) c.lines.invariant.reaches
    c.in_ok-give_run.ensures.frame.reaches in
    let here = ap (bytes_in (seen (g.D.Disk.told c.give_run.new.disk))) (c.in_ok-give_run.ensures.version.name
    ∙ c.lines.invariant.name) ∙ still_read (file_of c.args.giving.now.target) (name_of c.args.version.now) file
    (g.O.Sink.given c.args.out.now) (g.O.Sink.given c.give_run.new.out) (g.D.Disk.told c.args.disk.now)
    (g.D.Disk.told c.give_run.new.disk) c.requires.apart reach told in
    let m = c.lines.invariant.moved file lines told p in
    let run = turn_moved c.args.giving.now c.lines.giving c.lines.invariant.keeps file c.lines.version
    c.give_run.new.version lines c.give_run.new.giving (g.O.Sink.given c.args.out.now) (g.O.Sink.given c.lines.out)
    (g.O.Sink.given c.give_run.new.out) (g.D.Disk.told c.args.disk.now) (g.D.Disk.told c.lines.disk)
    (g.D.Disk.told c.give_run.new.disk) m (c.in_ok-give_run.ensures.gives file m.rest m.on) in
    turn_end c.args.giving.now c.give_run.new.giving keeps file c.give_run.new.version lines c.give_next.new.giving
    (g.O.Sink.given c.args.out.now) (g.O.Sink.given c.give_run.new.out) (g.O.Sink.given c.give_next.new.out)
    (g.D.Disk.told c.args.disk.now) (g.D.Disk.told c.give_run.new.disk) (g.D.Disk.told c.give_next.new.disk) run
    (subst (λ more. GivesMore file c.give_next.new.version run.rest (Ok more) c.give_run.new.giving
    c.give_next.new.giving (target_bytes (file_of c.give_run.new.giving.target) (g.O.Sink.given c.give_run.new.out)
    (g.D.Disk.told c.give_run.new.disk)) (target_bytes (file_of c.give_run.new.giving.target)
    (g.O.Sink.given c.give_next.new.out) (g.D.Disk.told c.give_next.new.disk))) c.if-not-branch.true
    (c.in_ok-give_next.ensures.gives file run.rest here run.on))

pub returns-then-not-branch-clause-read : goal.returns-then-not-branch-clause-read
returns-then-not-branch-clause-read g c = λ live before h.
    let keeps = keeps_both c.args.giving.now c.lines.giving c.give_run.new.giving c.lines.invariant.keeps
    c.in_ok-give_run.ensures.keeps in
    let some = c.lines.invariant.read live before h in
    let run = turn_read c.args.giving.now c.lines.giving c.lines.invariant.keeps live c.lines.version
    c.give_run.new.version before c.give_run.new.giving (g.O.Sink.given c.args.out.now) (g.O.Sink.given c.lines.out)
    (g.O.Sink.given c.give_run.new.out) (g.D.Disk.told c.args.disk.now) (g.D.Disk.told c.lines.disk)
    (g.D.Disk.told c.give_run.new.disk) c.in_ok-give_run.ensures.version.set some
    (c.in_ok-give_run.ensures.read live some.items some.read) in
    turn_whole c.args.giving.now c.give_run.new.giving keeps live c.args.version.now.set c.give_run.new.version
    c.give_next.new.version before c.give_next.new.giving (g.O.Sink.given c.args.out.now)
    (g.O.Sink.given c.give_run.new.out) (g.O.Sink.given c.give_next.new.out) (g.D.Disk.told c.args.disk.now)
    (g.D.Disk.told c.give_run.new.disk) (g.D.Disk.told c.give_next.new.disk) (c.in_ok-give_next.ensures.version.set
    ∙ (c.in_ok-give_run.ensures.version.set ∙ c.lines.invariant.set)) c.in_ok-give_next.ensures.version.set run
    (subst (λ more. ReadsMore live c.give_next.new.version run.items (Ok more) c.give_run.new.giving
    c.give_next.new.giving (target_bytes (file_of c.give_run.new.giving.target) (g.O.Sink.given c.give_run.new.out)
    (g.D.Disk.told c.give_run.new.disk)) (target_bytes (file_of c.give_run.new.giving.target)
    (g.O.Sink.given c.give_next.new.out) (g.D.Disk.told c.give_next.new.disk))) c.if-not-branch.true
    (c.in_ok-give_next.ensures.read live run.items run.read))

pub returns-in_err-give_next-clause-frame : goal.returns-in_err-give_next-clause-frame
returns-in_err-give_next-clause-frame g c =
    let e = err_from_is_err_and c.from_residual-in_err-give_next.result c.from_residual-in_err-give_next.ensures.1 in
    rw (e.1, e.2) (record {
      reaches =
          let keeps = keeps_both c.args.giving.now c.lines.giving c.give_run.new.giving c.lines.invariant.keeps
          c.in_ok-give_run.ensures.keeps in
          let reach = reach_on c.args.giving.now c.lines.giving c.lines.invariant.keeps (g.O.Sink.given c.args.out.now)
          (g.O.Sink.given c.lines.out) (g.O.Sink.given c.give_run.new.out) (g.D.Disk.told c.args.disk.now)
          (g.D.Disk.told c.lines.disk) (g.D.Disk.told c.give_run.new.disk) c.lines.invariant.reaches
          c.in_ok-give_run.ensures.frame.reaches in
          reach_on c.args.giving.now c.give_run.new.giving keeps (g.O.Sink.given c.args.out.now)
          (g.O.Sink.given c.give_run.new.out) (g.O.Sink.given c.give_next.new.out) (g.D.Disk.told c.args.disk.now)
          (g.D.Disk.told c.give_run.new.disk) (g.D.Disk.told c.give_next.new.disk) reach
          c.in_err-give_next.ensures.frame.reaches;
      mark = search rules;
      spares = search rules;
      causes = search rules;
      checks = search rules;
    })

pub returns-in_err-give_next-clause-gives : goal.returns-in_err-give_next-clause-gives
returns-in_err-give_next-clause-gives g c =
    let e = err_from_is_err_and c.from_residual-in_err-give_next.result c.from_residual-in_err-give_next.ensures.1 in
    rw (e.1, e.2) (λ file lines told p.
    let keeps = keeps_both c.args.giving.now c.lines.giving c.give_run.new.giving c.lines.invariant.keeps
    c.in_ok-give_run.ensures.keeps in
    let reach = reach_on c.args.giving.now c.lines.giving c.lines.invariant.keeps (g.O.Sink.given c.args.out.now)
    (g.O.Sink.given c.lines.out) (g.O.Sink.given c.give_run.new.out) (g.D.Disk.told c.args.disk.now)
    (g.D.Disk.told c.lines.disk) (g.D.Disk.told c.give_run.new.disk) c.lines.invariant.reaches
    c.in_ok-give_run.ensures.frame.reaches in
    let here = ap (bytes_in (seen (g.D.Disk.told c.give_run.new.disk))) (c.in_ok-give_run.ensures.version.name
    ∙ c.lines.invariant.name) ∙ still_read (file_of c.args.giving.now.target) (name_of c.args.version.now) file
    (g.O.Sink.given c.args.out.now) (g.O.Sink.given c.give_run.new.out) (g.D.Disk.told c.args.disk.now)
    (g.D.Disk.told c.give_run.new.disk) c.requires.apart reach told in
    let m = c.lines.invariant.moved file lines told p in
    let run = turn_moved c.args.giving.now c.lines.giving c.lines.invariant.keeps file c.lines.version
    c.give_run.new.version lines c.give_run.new.giving (g.O.Sink.given c.args.out.now) (g.O.Sink.given c.lines.out)
    (g.O.Sink.given c.give_run.new.out) (g.D.Disk.told c.args.disk.now) (g.D.Disk.told c.lines.disk)
    (g.D.Disk.told c.give_run.new.disk) m (c.in_ok-give_run.ensures.gives file m.rest m.on) in
    turn_cut c.args.giving.now c.give_run.new.giving keeps file c.give_run.new.version lines
    c.in_err-give_next.field-0.0
    c.give_next.new.giving (g.O.Sink.given c.args.out.now) (g.O.Sink.given c.give_run.new.out)
    (g.O.Sink.given c.give_next.new.out) (g.D.Disk.told c.args.disk.now) (g.D.Disk.told c.give_run.new.disk)
    (g.D.Disk.told c.give_next.new.disk) run (c.in_err-give_next.ensures.gives file run.rest here run.on))
