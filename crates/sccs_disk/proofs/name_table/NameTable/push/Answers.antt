use Rattle.std.proofs.Common.{ap, ◌∙◌, is_ok}
use Rattle.sccs_disk.specs.Places.{place_of}
use Rattle.sccs_disk.proofs.Places.{once_pushed, pushed_after}
use Rattle.sccs_disk.proofs.name_table.NameTable.push.Goals as goal

pub invariant_of-self : goal.invariant_of-self
invariant_of-self c = record {
  once = once_pushed c.args.self.now.names.items c.remove.new.self.names.items _ c.args.name.now (is_ok c.push.result)
      c.remove.ensures.names c.remove.new.self.once c.push.ensures.items;
}

pub returns-clause-names : goal.returns-clause-names
returns-clause-names c =
    ap place_of c.in-Ok.ensures.items ∙ pushed_after c.args.self.now.names.items c.remove.new.self.names.items
    c.args.name.now c.remove.ensures.names c.remove.ensures.count
