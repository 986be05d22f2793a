use Rattle.std.proofs.Common.{[], Result, Ok, Err, refl, sym, subst}
use Rattle.sccs_base.proofs.Gifts.{gives_none, some_none}
use Rattle.sccs_words.specs.declared.commands.Command.{Command}
use Rattle.sccs_words.specs.declared.commands.Usage.{Usage}
use Rattle.sccs_step_lists.specs.QuietSettings.{quiet}
use Rattle.sccs_steps.specs.declared.faults.Fault.TheVariants as ends
use Rattle.sccs_top.specs.Runs.{RunsMeant, caller_in}
use Rattle.sccs_top.proofs.RunLaws.{meant_said, said_causes, unsaid_causes}
use Rattle.sccs_top.proofs.commands.run_next.Goals as goal

pub returns-in-Ok : goal.returns-in-Ok
returns-in-Ok g c =
    subst (λ (m : Result Command Usage). RunsMeant (caller_in c.args.context.now) m c.run_meant.result
    (quiet g.O.Sink g.E.Sink g.D.Disk c.args.out.now c.args.err.now c.args.disk.now)
    (quiet g.O.Sink g.E.Sink g.D.Disk c.run_meant.new.out c.run_meant.new.err c.run_meant.new.disk))
    (sym c.in-Ok.is) c.run_meant.ensures.run

pub returns-in-Ok-write_usage : goal.returns-in-Ok-write_usage
returns-in-Ok-write_usage g c =
    meant_said (caller_in c.args.context.now) c.args.next.now c.in-Err.usage (Ok 2)
    (quiet g.O.Sink g.E.Sink g.D.Disk c.args.out.now c.args.err.now c.args.disk.now)
    (quiet g.O.Sink g.E.Sink g.D.Disk c.args.out.now c.write_usage.new.out c.args.disk.now) c.in-Err.is refl
    (refl, gives_none (g.O.Sink.given c.args.out.now), c.in-Ok-write_usage.ensures.ok)
    (said_causes 2 _ _ _ _ _ c.write_usage.ensures.later)

pub returns-in-Err-write_usage : goal.returns-in-Err-write_usage
returns-in-Err-write_usage g c =
    meant_said (caller_in c.args.context.now) c.args.next.now c.in-Err.usage (Err ends.WriteFault)
    (quiet g.O.Sink g.E.Sink g.D.Disk c.args.out.now c.args.err.now c.args.disk.now)
    (quiet g.O.Sink g.E.Sink g.D.Disk c.args.out.now c.write_usage.new.out c.args.disk.now) c.in-Err.is refl
    (some_none (g.O.Sink.given c.args.out.now) [], c.in-Err-write_usage.ensures.err)
    (unsaid_causes _ _ _ _ _ c.write_usage.ensures.later c.in-Err-write_usage.ensures.cause)
