-- The SIDs of live records, as a set.
use Rattle.std.specs.Prelude.{◌≡◌, List}
use Rattle.std.specs.BTreeSet.{contains}
use Rattle.sccs_sid.specs.declared.sids.Sid.{Sid}
use Rattle.sccs_grammar.specs.SidKeys.{sid_key}
use Rattle.sccs_history.specs.History.{lives}
use Rattle.sccs_history.specs.declared.headers.Record.{Record}
use Rattle.sccs_pfile.specs.declared.live_sets.LiveSet.{LiveSet}
use Rattle.sccs_sid.specs.FourNumbers.{four_cmp}

-- the set has the SIDs that some live record has
abbrev pub HasLive : LiveSet → List Record → Type 0
HasLive found records = (sid : Sid) → contains four_cmp found.sids (sid_key sid) ≡ lives records sid
