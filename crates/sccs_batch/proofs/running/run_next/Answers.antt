use Rattle.std.proofs.Common.{rules, [], refl, sym, ◌∙◌}
use Rattle.std.proofs.lemmas.Result.{err_from_is_err_and}
use Rattle.sccs_base.proofs.Gifts.{gives_none, some_none}
use Rattle.sccs_step_lists.specs.QuietSettings.{quiet}
use Rattle.sccs_batch.proofs.EntryStepLists.{cut_err, next_bad, next_cut, next_never, next_run, next_unsaid, wrote_err}
use Rattle.sccs_batch.proofs.running.run_next.Goals as goal

pub returns-in_default-clause-run : goal.returns-in_default-clause-run
returns-in_default-clause-run g c =
    next_never (g.C.Commands.command c.args.commands.now) (g.C.Commands.fits c.args.commands.now)
    (g.C.Commands.whole c.args.commands.now) (g.C.Commands.begun c.args.commands.now) c.args.number c.args.line.now
    c.args.tail.now
    (quiet g.O.Sink g.E.Sink g.D.Disk c.args.out.now c.args.err.now c.args.disk.now)
    (g.C.Commands.takes c.args.commands.now) (g.C.Commands.might c.args.commands.now)

pub returns-in-Ok-write_bad-clause-run : goal.returns-in-Ok-write_bad-clause-run
returns-in-Ok-write_bad-clause-run g c =
    next_bad (g.C.Commands.command c.args.commands.now) (g.C.Commands.fits c.args.commands.now)
    (g.C.Commands.whole c.args.commands.now) (g.C.Commands.begun c.args.commands.now) c.args.number c.args.line.now
    c.args.tail.now
    (quiet g.O.Sink g.E.Sink g.D.Disk c.args.out.now c.args.err.now c.args.disk.now)
    (quiet g.O.Sink g.E.Sink g.D.Disk c.args.out.now c.write_bad.new.out c.args.disk.now) (sym c.in-Ok.ensures.value
    ∙ c.in_default-found.is) refl
    (refl, gives_none (g.O.Sink.given c.args.out.now), c.in-Ok-write_bad.ensures.ok)
    (wrote_err 1 _ _ _ _ c.write_bad.ensures.later)

pub returns-in-Err-clause-run : goal.returns-in-Err-clause-run
returns-in-Err-clause-run g c =
    next_unsaid (g.C.Commands.command c.args.commands.now) (g.C.Commands.fits c.args.commands.now)
    (g.C.Commands.whole c.args.commands.now) (g.C.Commands.begun c.args.commands.now) c.args.number c.args.line.now
    c.args.tail.now
    (quiet g.O.Sink g.E.Sink g.D.Disk c.args.out.now c.args.err.now c.args.disk.now)
    (quiet g.O.Sink g.E.Sink g.D.Disk c.args.out.now c.write_bad.new.out c.args.disk.now) (sym c.in-Ok.ensures.value
    ∙ c.in_default-found.is) refl
    (some_none (g.O.Sink.given c.args.out.now) [], c.in-Err.ensures.err)
    (cut_err _ _ _ _ c.write_bad.ensures.later c.in-Err.ensures.cause)

pub returns-clause-run : goal.returns-clause-run
returns-clause-run g c =
    next_run (g.C.Commands.command c.args.commands.now) (g.C.Commands.fits c.args.commands.now)
    (g.C.Commands.whole c.args.commands.now) (g.C.Commands.begun c.args.commands.now) c.args.number c.args.line.now
    c.args.tail.now c.in-Some.found c.in_ok-run_entry.field-0
    (quiet g.O.Sink g.E.Sink g.D.Disk c.args.out.now c.args.err.now c.args.disk.now)
    (quiet g.O.Sink g.E.Sink g.D.Disk c.run_entry.new.out c.run_entry.new.err c.run_entry.new.disk)
    (sym c.in-Ok.ensures.value ∙ c.in-Some.is) (search rules)
    (g.C.Commands.takes c.args.commands.now) c.in_ok-run_entry.ensures

pub returns-in_err-run_entry-clause-run : goal.returns-in_err-run_entry-clause-run
returns-in_err-run_entry-clause-run g c =
    let e = err_from_is_err_and c.from_residual.result c.from_residual.ensures.1 in
    rw (e.1, e.2) (next_cut (g.C.Commands.command c.args.commands.now) (g.C.Commands.fits c.args.commands.now)
    (g.C.Commands.whole c.args.commands.now) (g.C.Commands.begun c.args.commands.now) c.args.number c.args.line.now
    c.args.tail.now c.in-Some.found c.in_err-run_entry.field-0.0
    (quiet g.O.Sink g.E.Sink g.D.Disk c.args.out.now c.args.err.now c.args.disk.now)
    (quiet g.O.Sink g.E.Sink g.D.Disk c.run_entry.new.out c.run_entry.new.err c.run_entry.new.disk)
    (sym c.in-Ok.ensures.value ∙ c.in-Some.is)
    (g.C.Commands.takes c.args.commands.now) c.in_err-run_entry.ensures)
