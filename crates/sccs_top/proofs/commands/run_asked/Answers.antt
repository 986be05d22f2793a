use Rattle.std.proofs.Common.{Ok, sym, subst}
use Rattle.sccs_steps.specs.Settings.{setting_of}
use Rattle.sccs_top.specs.Runs.{LeavesAsked, LeavesAskedInput, RunsAsked, caller_in}
use Rattle.sccs_top.specs.declared.asking.Asked.{Asked}
use Rattle.sccs_top.proofs.commands.run_asked.Goals as goal

pub returns-in-One-clause-run : goal.returns-in-One-clause-run
returns-in-One-clause-run g c =
    subst (λ (it : Asked). RunsAsked (caller_in c.args.context.now) (Ok it) c.run_meant.result
    (setting_of g.I.Source g.O.Sink g.E.Sink g.D.Disk c.args.input.now c.args.out.now c.args.err.now
    c.args.disk.now) (setting_of g.I.Source g.O.Sink g.E.Sink g.D.Disk c.run_meant.new.input c.run_meant.new.out
    c.run_meant.new.err c.run_meant.new.disk)) (sym c.in-One.is) c.run_meant.ensures.run

pub returns-in-One-clause-leaves : goal.returns-in-One-clause-leaves
returns-in-One-clause-leaves g c =
    subst (λ (it : Asked). LeavesAsked (caller_in c.args.context.now) it c.run_meant.result
    (setting_of g.I.Source g.O.Sink g.E.Sink g.D.Disk c.args.input.now c.args.out.now c.args.err.now
    c.args.disk.now) (setting_of g.I.Source g.O.Sink g.E.Sink g.D.Disk c.run_meant.new.input c.run_meant.new.out
    c.run_meant.new.err c.run_meant.new.disk)) (sym c.in-One.is) c.run_meant.ensures.leaves

pub returns-in-One-clause-input : goal.returns-in-One-clause-input
returns-in-One-clause-input g c =
    subst (λ (it : Asked). LeavesAskedInput (caller_in c.args.context.now) it c.run_meant.result
    (setting_of g.I.Source g.O.Sink g.E.Sink g.D.Disk c.args.input.now c.args.out.now c.args.err.now
    c.args.disk.now) (setting_of g.I.Source g.O.Sink g.E.Sink g.D.Disk c.run_meant.new.input c.run_meant.new.out
    c.run_meant.new.err c.run_meant.new.disk)) (sym c.in-One.is) c.run_meant.ensures.input

pub returns-in-Two-clause-run : goal.returns-in-Two-clause-run
returns-in-Two-clause-run g c =
    subst (λ (it : Asked). RunsAsked (caller_in c.args.context.now) (Ok it) c.run_two.result
    (setting_of g.I.Source g.O.Sink g.E.Sink g.D.Disk c.args.input.now c.args.out.now c.args.err.now
    c.args.disk.now) (setting_of g.I.Source g.O.Sink g.E.Sink g.D.Disk c.run_two.new.input c.run_two.new.out
    c.run_two.new.err c.run_two.new.disk)) (sym c.in-Two.is) c.run_two.ensures.run

pub returns-in-Two-clause-leaves : goal.returns-in-Two-clause-leaves
returns-in-Two-clause-leaves g c =
    subst (λ (it : Asked). LeavesAsked (caller_in c.args.context.now) it c.run_two.result
    (setting_of g.I.Source g.O.Sink g.E.Sink g.D.Disk c.args.input.now c.args.out.now c.args.err.now
    c.args.disk.now) (setting_of g.I.Source g.O.Sink g.E.Sink g.D.Disk c.run_two.new.input c.run_two.new.out
    c.run_two.new.err c.run_two.new.disk)) (sym c.in-Two.is) tt

pub returns-in-Two-clause-input : goal.returns-in-Two-clause-input
returns-in-Two-clause-input g c =
    subst (λ (it : Asked). LeavesAskedInput (caller_in c.args.context.now) it c.run_two.result
    (setting_of g.I.Source g.O.Sink g.E.Sink g.D.Disk c.args.input.now c.args.out.now c.args.err.now
    c.args.disk.now) (setting_of g.I.Source g.O.Sink g.E.Sink g.D.Disk c.run_two.new.input c.run_two.new.out
    c.run_two.new.err c.run_two.new.disk)) (sym c.in-Two.is) c.run_two.ensures.input
