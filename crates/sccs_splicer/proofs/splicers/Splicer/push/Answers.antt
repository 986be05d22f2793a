use Rattle.sccs_splicer.proofs.Pushes.{pushed_line}
use Rattle.sccs_splicer.proofs.splicers.Splicer.push.Goals as goal

pub returns-in-Insert-clause-line : goal.returns-in-Insert-clause-line
returns-in-Insert-clause-line g c =
    pushed_line _ c.args.visible c.args.self.now c.push_control.new.self c.args.out.now c.push_control.new.out _ _ _ _
    c.push_control.result (c.push_control.ensures c.args.visible)

pub returns-in-Delete-clause-line : goal.returns-in-Delete-clause-line
returns-in-Delete-clause-line g c =
    pushed_line _ c.args.visible c.args.self.now c.push_control-in-Delete.new.self c.args.out.now
    c.push_control-in-Delete.new.out _ _ _ _ c.push_control-in-Delete.result
    (c.push_control-in-Delete.ensures c.args.visible)

pub returns-in-End-clause-line : goal.returns-in-End-clause-line
returns-in-End-clause-line g c =
    pushed_line _ c.args.visible c.args.self.now c.push_control-in-End.new.self c.args.out.now
    c.push_control-in-End.new.out _ _ _ _ c.push_control-in-End.result
    (c.push_control-in-End.ensures c.args.visible)
