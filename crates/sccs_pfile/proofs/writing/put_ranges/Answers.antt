use Rattle.std.proofs.Common.{subst, sym, ◌∷◌}
use Rattle.sccs_disk.specs.Calls.{IsThere}
use Rattle.sccs_sid.specs.SidLists.{range_text}
use Rattle.sccs_writers.proofs.PutLaws.{part_cut, part_put, puts_nothing}
use Rattle.sccs_pfile.proofs.writing.put_ranges.Goals as goal

pub put_range-requires : goal.put_range-requires
put_range-requires g c = subst (λ n. IsThere n (g.D.Disk.told c.loop-range.disk)) (sym c.loop-range.invariant.name)
    (c.loop-range.invariant.only.there c.requires)

pub loop-range-init : goal.loop-range-init
loop-range-init g c = puts_nothing c.args.out.now _ _

pub returns-in-Err : goal.returns-in-Err
returns-in-Err g c =
    part_cut (λ r. 44 ∷ range_text r) c.args.ranges.now c.loop-range.range-index _ c.loop-range-test.true c.args.out.now
    c.loop-range.out c.put_range.new.out _ _ _ _ _ _ c.put_range.result c.in-Err.fault c.in-Err.is
    c.loop-range.invariant c.put_range.ensures

pub loop-range-preserved : goal.loop-range-preserved
loop-range-preserved g c =
    part_put (λ r. 44 ∷ range_text r) c.args.ranges.now c.loop-range.range-index _ c.loop-range-test.true c.args.out.now
    c.loop-range.out c.put_range.new.out _ _ _ _ _ _ c.put_range.result c.in_default.field-0 c.in_default.is
    c.loop-range.invariant c.put_range.ensures
