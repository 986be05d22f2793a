use Rattle.std.proofs.Common.{List, All, refl, subst, sym}
use Rattle.std.specs.Str.{bytes_eq}
use Rattle.sccs_base.specs.Name.{q_file}
use Rattle.sccs_store.proofs.Working.{same_touches}
use Rattle.sccs_pfile.specs.Entries.{IsEdit}
use Rattle.sccs_pfile.specs.declared.entries.Edit.{Edit}
use Rattle.sccs_get.proofs.EditLaws.{all_and}
use Rattle.sccs_get.proofs.edits.add_entry.Goals as goal

pub prepare_entries-requires-clause-edits : goal.prepare_entries-requires-clause-edits
prepare_entries-requires-clause-edits g c = subst (λ (edits : List Edit). All IsEdit edits) (sym c.in-Ok.ensures.ok)
    (all_and IsEdit c.args.edits c.args.edit c.requires.edits c.requires.edit)

pub returns-in_default-clause-touches : goal.returns-in_default-clause-touches
returns-in_default-clause-touches g c = same_touches (bytes_eq (q_file c.args.name.now)) _ _ refl
