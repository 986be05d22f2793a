-- The base of a new delta, and the scripts that are read.
use Rattle.std.specs.Prelude.{ℕ, None, List}
use Rattle.sccs_script_laws.specs.declared.scripts.Order.{Order}
use Rattle.sccs_history.specs.Applied.{applied}
use Rattle.sccs_history.specs.declared.headers.Record.{Record}
use Rattle.sccs_records.specs.declared.new_deltas.NewDelta.{NewDelta}
use Rattle.sccs_script.specs.Commands.{HasNumbers}

-- the set of deltas on which a new delta is made: that of the delta got, with the lists of its entry
abbrev pub base_set : List Record → ℕ → NewDelta → List ℕ
base_set records on d = applied (record { target = on; include = d.include; exclude = d.exclude; cutoff = None })
    records

-- the lines that an order names are in order
abbrev pub IsOrdered : Order → Type 0
IsOrdered o = HasNumbers o.kind o.first o.last
