use Rattle.std.proofs.Common.{◌≡◌, false, sym, ◌∙◌}
use Rattle.std.specs.Str.{bytes_eq}
use Rattle.sccs_base.proofs.SameBytes.{bytes_eq_sym}
use Rattle.sccs_disk.specs.Places.{place_of}
use Rattle.sccs_disk.proofs.Places.{once_renamed, removed_now, names_renamed, rename_gone, rename_moved}
use Rattle.sccs_disk.proofs.name_table.NameTable.rename.Goals as goal

pub invariant_of-self : goal.invariant_of-self
invariant_of-self c = record {
  once = once_renamed c.remove.new.self.names.items c.in-Some.place c.args.from.now c.args.to.now c.remove.new.self.once
      (sym c.in-Some.ensures.found)
      (removed_now c.args.self.now.names.items c.remove.new.self.names.items c.args.to.now c.remove.ensures.names);
}

pub returns-in-Some-clause-names : goal.returns-in-Some-clause-names
returns-in-Some-clause-names c =
    let names = c.args.self.now.names.items in
    let names2 = c.remove.new.self.names.items in
    let apart : bytes_eq c.args.to.now c.args.from.now ≡ false = bytes_eq_sym c.args.to.now c.args.from.now
    ∙ (sym c.is.ensures ∙ c.if-is.false) in
    rename_moved (place_of names) (place_of names2) _ c.args.from.now c.args.to.now c.in-Some.place apart
    c.remove.ensures.names (sym c.in-Some.ensures.found)
    (names_renamed names2 c.in-Some.place c.args.from.now c.args.to.now c.remove.new.self.once
    (sym c.in-Some.ensures.found) (removed_now names names2 c.args.to.now c.remove.ensures.names))

pub returns-in_default-clause-names : goal.returns-in_default-clause-names
returns-in_default-clause-names c =
    let apart : bytes_eq c.args.to.now c.args.from.now ≡ false = bytes_eq_sym c.args.to.now c.args.from.now
    ∙ (sym c.is.ensures ∙ c.if-is.false) in
    rename_gone (place_of c.args.self.now.names.items) (place_of c.remove.new.self.names.items) c.args.from.now
    c.args.to.now apart c.remove.ensures.names (sym c.in_default.ensures.found)
