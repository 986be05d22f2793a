-- How a table is held.
use Rattle.std.specs.Prelude.{◌≡◌, ℕ, ◌≤◌, List}
use Rattle.std.specs.List.{AllByRecursion}
use Rattle.std.specs.BTreeSet.{BTreeSet, contains}
use Rattle.sccs_sid.specs.declared.sids.Sid.{Sid}
use Rattle.sccs_history.specs.History.{lives}
use Rattle.sccs_history.specs.declared.headers.Record.{Record}
use Rattle.sccs_grammar.specs.Entries.{Entries}
use Rattle.sccs_grammar.specs.SidKeys.{sid_key, sid_number}
use Rattle.sccs_grammar.specs.declared.live_sids.LiveSids.{LiveSids}
use Rattle.sccs_grammar.specs.declared.live_sids.LiveSids.TheVariants.{Falling, Listed}
use Rattle.sccs_grammar.specs.declared.tables.Table.TheInside.{Inside}
use Rattle.sccs_sid.specs.FourNumbers.{four_cmp}

abbrev pub entries : Inside → Entries
entries t = record { records = t.records; lines = t.lines }

-- the set has the SIDs of the live records
abbrev pub HasSids : BTreeSet (ℕ × ℕ × ℕ × ℕ) → List Record → Type 0
HasSids set records = (sid : Sid) → contains four_cmp set (sid_key sid) ≡ lives records sid

-- each SID has at least a number
abbrev pub AreFrom : ℕ → List Record → Type 0
AreFrom last records = AllByRecursion (λ r. last ≤ sid_number r.sid) records

-- from what is held it is known which SIDs live
abbrev pub HoldsSids : LiveSids → List Record → Type 0
HoldsSids (Falling last) records = AreFrom last records
HoldsSids (Listed set) records = HasSids set records

-- The SIDs of live records are known.
pub record IsKept (t : Inside) : Type 0 where
  pub sids : HoldsSids t.sids t.records
