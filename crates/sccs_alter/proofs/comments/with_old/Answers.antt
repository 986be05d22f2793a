use Rattle.std.proofs.lemmas.Result.{IfOk-weaker}
use Rattle.sccs_alter.proofs.TextLaws.{old_follows}
use Rattle.sccs_alter.proofs.comments.with_old.Goals as goal

pub returns : goal.returns
returns c =
    IfOk-weaker c.push_lines.result _ _ (λ all is.
    old_follows c.args.stamp.now c.args.new c.push_line.new.text c.args.old.now all c.in_ok-line.line c.bytes.result.now
    c.in_ok-line.ensures c.bytes.ensures c.in_ok-push_line.ensures is) c.push_lines.ensures
