use Rattle.std.proofs.Common.{Ok, subst, sym}
use Rattle.sccs_new_files.specs.Writing.{AppendsSum, body_bytes}
use Rattle.sccs_new_files.proofs.WritingLaws.{body_whole}
use Rattle.sccs_new_files.proofs.writing.append_body.Goals as goal

pub returns : goal.returns
returns g c =
    subst (λ s. AppendsSum (body_bytes (g.B.NewBody.items c.args.body.now)) c.args.name.now c.args.sum
    (g.D.Disk.told c.args.disk.now) (g.D.Disk.told c.put_whole.new.disk) (g.D.Disk.faults c.args.disk.now)
    (g.D.Disk.faults c.put_whole.new.disk) (Ok s)) (sym c.sum.ensures)
    (body_whole (body_bytes (g.B.NewBody.items c.args.body.now)) c.in-Ok.out c.put_whole.new.out c.args.name.now
    c.args.sum _ _ _ _ c.put_whole.result c.in_default-put_whole.field-0 c.in-Ok.ensures c.in_default-put_whole.is
    c.in_default-put_whole.ensures.empty c.put_whole.ensures.puts)
