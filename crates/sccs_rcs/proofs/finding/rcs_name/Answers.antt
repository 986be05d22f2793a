use Rattle.sccs_rcs.proofs.RcsNames.{not_none}
use Rattle.sccs_rcs.proofs.finding.rcs_name.Goals as goal

pub unreachable-requires : goal.unreachable-requires
unreachable-requires c =
    not_none c.args.name.now c.module-module.result c.bytes.result.now c.new-bytes.result.items
    c.extend_from_slice.new.self.items c.extend_from_slice-2.new.self.items c.as_slice.result.now
    c.requires c.bytes-bytes.ensures.name c.module-module.ensures c.bytes.ensures.value c.new-bytes.ensures.items
    c.in_ok-extend_from_slice.ensures.items c.in_ok-extend_from_slice-2.ensures.items c.as_slice.ensures.value
    c.in-None.ensures.exact
