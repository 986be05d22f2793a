use Rattle.std.proofs.Common.{subst, sym}
use Rattle.sccs_disk.specs.Calls.{IsThere}
use Rattle.sccs_writers.proofs.PutLaws.{part_cut, part_put, puts_nothing}
use Rattle.sccs_writers.proofs.piece_writers.PieceWriter.put_parts.Goals as goal

pub put-requires : goal.put-requires
put-requires g c = subst (λ n. IsThere n (g.D.Disk.told c.loop-part.disk)) (sym c.loop-part.invariant.name)
    (c.loop-part.invariant.only.there c.requires)

pub loop-part-init : goal.loop-part-init
loop-part-init g c = puts_nothing c.args.self.now _ _

pub returns-in-Err : goal.returns-in-Err
returns-in-Err g c =
    part_cut (λ p. p.now) c.args.parts.now c.loop-part.part-index _ c.loop-part-test.true c.args.self.now
    c.loop-part.self c.put.new.self _ _ _ _ _ _ c.put.result c.in-Err.fault c.in-Err.is c.loop-part.invariant
    c.put.ensures

pub loop-part-preserved : goal.loop-part-preserved
loop-part-preserved g c =
    part_put (λ p. p.now) c.args.parts.now c.loop-part.part-index _ c.loop-part-test.true c.args.self.now
    c.loop-part.self c.put.new.self _ _ _ _ _ _ c.put.result c.in_default.field-0 c.in_default.is
    c.loop-part.invariant c.put.ensures
