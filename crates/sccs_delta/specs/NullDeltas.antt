-- A table that gets null deltas and a new delta behind them: sccsfile(4), "Flags", n.
use Rattle.std.specs.Prelude.{ℕ, suc, List, map}
use Rattle.sccs_sid.specs.declared.sids.Sid.{Sid}
use Rattle.sccs_sid.specs.declared.moments.Stamp.{Stamp}
use Rattle.sccs_script_laws.specs.Places.{places}
use Rattle.sccs_script_laws.specs.declared.scripts.Order.{Order}
use Rattle.sccs_history.specs.Applied.{newest}
use Rattle.sccs_history.specs.Body.{HistoryLine, lines_of}
use Rattle.sccs_history.specs.declared.headers.Header.{Header}
use Rattle.sccs_history.specs.declared.headers.Item.{Item}
use Rattle.sccs_pfile.specs.declared.entries.Edit.{Edit}
use Rattle.sccs_records.specs.NewDeltas.{last_of, null_delta, with_delta, with_deltas}
use Rattle.sccs_records.specs.declared.new_deltas.NewDelta.{NewDelta}
use Rattle.sccs_delta.specs.DeltaStep.{skipped}
use Rattle.sccs_delta.specs.Versions.{base_set}

-- the SIDs that entries are to make
abbrev pub made_sids : List Edit → List Sid
made_sids edits = map (λ (e : Edit). e.made) edits

-- the null deltas of SIDs
abbrev pub null_deltas : Stamp → List Sid → List NewDelta
null_deltas stamp sids = map (null_delta stamp) sids

-- the SIDs of the null deltas that the delta of an entry adds
abbrev pub skipped_by : Header → List Edit → Edit → List Sid
skipped_by header edits edit = skipped header edit.got edit.made (made_sids edits)

-- a header with null deltas, the first made on the delta of a serial, and a new delta on the last of them
abbrev pub with_nulls : Header → ℕ → List NewDelta → NewDelta → Header
with_nulls header got nulls d = with_delta (with_deltas header got nulls) (last_of got (newest header.records) nulls) d

-- the serial of the new delta
abbrev pub serial_behind : Header → ℕ → List NewDelta → ℕ
serial_behind header got nulls = suc (newest (with_deltas header got nulls).records)

-- the lines of a body with those of its script
abbrev pub lines_with : Header → ℕ → List NewDelta → NewDelta → List Item → List Order → List HistoryLine
lines_with header got nulls d items orders = lines_of (places items (base_set header.records got d) orders
    (serial_behind header got nulls))
