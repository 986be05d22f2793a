-- What is left of entries.
use Rattle.std.proofs.Common.{◌≡◌, not, List, [], ◌∷◌, sym, subst, ◌∙◌}
use Rattle.std.specs.Prelude.{All}
use Rattle.std.proofs.lemmas.List.Elements.{All-filter}
use Rattle.sccs_history.specs.declared.headers.Record.{Record}
use Rattle.sccs_pfile.specs.Entries.{IsEdit}
use Rattle.sccs_pfile.specs.Recovered.{is_done, without_done}
use Rattle.sccs_pfile.specs.declared.entries.Edit.{Edit}

-- ---- what is left of them

pub left_valid : (records : List Record) (edits left : List Edit) → left ≡ without_done records edits → All IsEdit edits
    → All IsEdit left
left_valid records edits left is valid = subst (λ l. All IsEdit l) (sym is)
    (All-filter (λ e. not (is_done records e)) IsEdit edits valid)
