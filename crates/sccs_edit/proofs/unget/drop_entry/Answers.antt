use Rattle.std.proofs.Common.{◌-◌, List, All, subst, sym}
use Rattle.sccs_pfile.specs.Entries.{IsEdit}
use Rattle.sccs_pfile.specs.declared.entries.Edit.{Edit}
use Rattle.sccs_changes.proofs.EntryLaws.{all_left}
use Rattle.std.proofs.Common.{refl}
use Rattle.std.specs.Str.{bytes_eq}
use Rattle.sccs_base.specs.Name.{q_file}
use Rattle.sccs_store.proofs.Working.{same_touches}
use Rattle.sccs_changes.proofs.StopLaws.{entries_firm}
use Rattle.sccs_edit.proofs.unget.drop_entry.Goals as goal

pub prepare_entries-requires-clause-edits : goal.prepare_entries-requires-clause-edits
prepare_entries-requires-clause-edits g c = subst (λ (edits : List Edit). All IsEdit edits) (sym c.release.ensures)
    (all_left IsEdit c.args.edits (c.args.number - 1) c.requires.edits)

pub returns-in_default-clause-touches : goal.returns-in_default-clause-touches
returns-in_default-clause-touches g c = same_touches (bytes_eq (q_file c.args.name.now)) _ _ refl

pub returns-in_err-new_g-clause-touches : goal.returns-in_err-new_g-clause-touches
returns-in_err-new_g-clause-touches g c = same_touches (bytes_eq (q_file c.args.name.now)) _ _
    c.remove_g.ensures.frame.same

pub returns-in-Ok-prepare_entries-clause-firm : goal.returns-in-Ok-prepare_entries-clause-firm
returns-in-Ok-prepare_entries-clause-firm g c = entries_firm c.args.name.now _ _ (g.D.Disk.told c.remove_g.new.disk) _
    c.remove_g.ensures.frame.same refl c.in-Ok-prepare_entries.ensures.firm
