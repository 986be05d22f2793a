use Rattle.std.proofs.Common.{ℕ, List, Some, ap, ◌∙◌}
use Rattle.sccs_base.specs.Planned.{steady_left}
use Rattle.sccs_steps.specs.Calls.{scene}
use Rattle.sccs_top.proofs.RunLaws.{entry_runs}
use Rattle.sccs_top.proofs.singles.SinglesCommands.run.Goals as goal

pub returns : goal.returns
returns g c =
    entry_runs c.args.self.now.quiet c.args.self.now.place.now c.args.entry.now c.run_words.result
    (Some (steady_left c.in-Ok.input)) (Some (steady_left c.run_words.new.input))
    (scene (g.D.Disk.told c.args.disk.now) (g.O.Sink.given c.args.out.now) (g.E.Sink.given c.args.err.now))
    (scene (g.D.Disk.told c.run_words.new.disk) (g.O.Sink.given c.run_words.new.out)
    (g.E.Sink.given c.run_words.new.err))
    (g.O.Sink.faults c.args.out.now) (g.O.Sink.faults c.run_words.new.out) (g.E.Sink.faults c.args.err.now)
    (g.E.Sink.faults c.run_words.new.err) (g.D.Disk.faults c.args.disk.now) (g.D.Disk.faults c.run_words.new.disk)
    (ap (λ (bytes : List ℕ). Some bytes) (c.in-Ok.ensures ∙ c.bytes.ensures)) c.run_words.ensures
