use Rattle.std.proofs.Common.{ap, sym, length, map, ◌∙◌}
use Rattle.std.specs.List.{remove}
use Rattle.sccs_disk.specs.Places.{place_of}
use Rattle.sccs_disk.specs.States.{stored, shown}
use Rattle.sccs_disk.proofs.Views.{with_names, shown_without, count_without}
use Rattle.sccs_disk.proofs.directories.Directory.discard.Goals as goal

pub invariant_of-self : goal.invariant_of-self
invariant_of-self c =
    let old = c.args.self.now in
    record {
      paired = ap length c.take_out.ensures ∙ (count_without old.names.names.items old.files.items c.in-Some.place
          old.paired ∙ sym (ap length c.remove.ensures.items));
    }

pub returns-in-Some : goal.returns-in-Some
returns-in-Some c =
    let old = c.args.self.now in
    ap (λ names. shown (with_names (map stored c.remove.new.self.items) (place_of names))) c.take_out.ensures
    ∙ (ap (λ files. shown (with_names (map stored files) (place_of (remove old.names.names.items c.in-Some.place))))
    c.remove.ensures.items
    ∙ shown_without old.names.names.items old.files.items c.in-Some.place c.args.name.now old.paired old.names.once
    (sym c.in-Some.ensures.found))
