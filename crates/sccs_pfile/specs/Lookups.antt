-- What is known of the entries and of the records, as sets.
use Rattle.std.specs.Prelude.{List}
use Rattle.sccs_history.specs.declared.headers.Record.{Record}
use Rattle.sccs_pfile.specs.LiveSets.{HasLive}
use Rattle.sccs_pfile.specs.MadeSids.{HasMakers}
use Rattle.sccs_pfile.specs.declared.agreement.Lookups.{Lookups}
use Rattle.sccs_pfile.specs.declared.entries.Edit.{Edit}

pub record HasLookups (found : Lookups) (records : List Record) (edits : List Edit) : Type 0 where
  pub makers : HasMakers found.makers edits
  pub live : HasLive found.live records
