-- The SIDs that entries make, as sets.
use Rattle.std.specs.Prelude.{◌≡◌, nat_lt, List}
use Rattle.std.specs.BTreeSet.{contains}
use Rattle.sccs_sid.specs.declared.sids.Sid.{Sid}
use Rattle.sccs_grammar.specs.SidKeys.{sid_key}
use Rattle.sccs_pfile.specs.Agreement.{makers}
use Rattle.sccs_pfile.specs.declared.entries.Edit.{Edit}
use Rattle.sccs_pfile.specs.declared.makers.Makers.{Makers}
use Rattle.sccs_sid.specs.FourNumbers.{four_cmp}

-- The sets have the SIDs that some entry makes, and those that more than one does.
pub record HasMakers (found : Makers) (edits : List Edit) : Type 0 where
  pub some : (sid : Sid) → contains four_cmp found.some (sid_key sid) ≡ nat_lt 0 (makers edits sid)
  pub several : (sid : Sid) → contains four_cmp found.several (sid_key sid) ≡ nat_lt 1 (makers edits sid)
