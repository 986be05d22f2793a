use Rattle.std.proofs.Common.{◌-◌, List, All, subst, sym}
use Rattle.sccs_pfile.specs.Entries.{IsEdit}
use Rattle.sccs_pfile.specs.declared.entries.Edit.{Edit}
use Rattle.sccs_changes.proofs.EntryLaws.{all_left}
use Rattle.sccs_delta.proofs.preparing.drop_entry.Goals as goal

pub prepare_entries-requires-clause-edits : goal.prepare_entries-requires-clause-edits
prepare_entries-requires-clause-edits g c = subst (λ (edits : List Edit). All IsEdit edits) (sym c.release.ensures)
    (all_left IsEdit c.args.edits (c.args.number - 1) c.requires.edits)
