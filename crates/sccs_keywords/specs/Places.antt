-- Records by their places in a table.
use Rattle.std.specs.Prelude.{ℕ, List, Option, None, option_map, Result, Ok, Err, slice_get}
use Rattle.sccs_sid.specs.declared.sids.Sid.{Sid}
use Rattle.sccs_history.specs.declared.headers.Record.{Record}

-- the SID of the record that a search found
abbrev pub sid_in : List Record → Result ℕ ℕ → Option Sid
sid_in records (Ok place) = option_map (λ r. r.sid) (slice_get records place)
sid_in records (Err place) = None
