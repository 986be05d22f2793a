-- What a delta that is made leaves, version by version: POSIX, delta; sccsfile(4), "Flags", n.
use Rattle.std.specs.Prelude.{◌≡◌, ℕ, suc, ◌+◌, ◌-◌, ◌<◌, ◌≤◌, true, List, [], length, None, Some, Ok, remove}
use Rattle.std.specs.Prelude.{slice_get}
use Rattle.sccs_disk.specs.Files.{Content}
use Rattle.sccs_sid.specs.declared.moments.Stamp.{Stamp}
use Rattle.sccs_history.specs.Applied.{applied, live_serials, newest, version}
use Rattle.sccs_history.specs.Body.{lines_of}
use Rattle.sccs_history.specs.Numbers.{has}
use Rattle.sccs_history.specs.Select.{select}
use Rattle.sccs_grammar.specs.File.{IsSFile, Parsed}
use Rattle.sccs_script_laws.specs.Plans.{plan}
use Rattle.sccs_script_laws.specs.Scripts.{apply}
use Rattle.sccs_script_laws.specs.declared.scripts.Order.{Order}
use Rattle.sccs_script.specs.Commands.{orders_of}
use Rattle.sccs_records.specs.declared.new_deltas.NewDelta.{NewDelta}
use Rattle.sccs_sets.specs.Naming.{named_serials}
use Rattle.sccs_sets.specs.Retrieved.{serial_of}
use Rattle.sccs_name_files.specs.StepFiles.{Files}
use Rattle.sccs_pfile.specs.Agreement.{Agrees}
use Rattle.sccs_pfile.specs.Reading.{IsPFile}
use Rattle.sccs_pfile.specs.Recovered.{pfile_of}
use Rattle.sccs_pfile.specs.declared.entries.Edit.{Edit}
use Rattle.sccs_steps.specs.StepEffects.{StepEffect}
use Rattle.sccs_store.specs.SealedFiles.{sealed}
use Rattle.sccs_changes.specs.NewEntries.{kept_g}
use Rattle.sccs_changes.specs.PFiles.{bytes_or_none}
use Rattle.sccs_words.specs.declared.commands.DeltaWords.{DeltaWords}
use Rattle.sccs_delta.specs.DeltaStep.{ChosenEntry, counts_of, entry_delta, chosen_entry}
use Rattle.sccs_delta.specs.NullDeltas.{null_deltas, skipped_by, with_nulls}
use Rattle.sccs_delta.specs.declared.entries.Base.{Base}

-- the text of a serial's version in a file
abbrev pub version_text : Parsed → ℕ → List (List ℕ)
version_text file n = version n file.header.records (lines_of file.items)

-- the text on which a delta is made: what the set of the delta got, with the lists, shows of the file
abbrev pub base_text : Parsed → Base → List (List ℕ)
base_text file base = select
    (applied (record { target = base.got; include = base.include; exclude = base.exclude; cutoff = None })
    file.header.records) (lines_of file.items)

-- the new delta of an entry, with the counts of its script
abbrev pub delta_on : DeltaWords → Stamp → Parsed → ChosenEntry → List Order → NewDelta
delta_on words stamp file e orders =
    let lines = length (base_text file e.base) in
    entry_delta words stamp e.edit e.base.include e.base.exclude (counts_of (plan orders lines) lines)

-- A base is what an entry says by serials.
pub record IsBaseOf (file : Parsed) (edit : Edit) (base : Base) : Type 0 where
  pub got : serial_of file.header.records edit.got ≡ Some base.got
  pub include : named_serials file.header.records [] edit.include ≡ Ok base.include
  pub exclude : named_serials file.header.records [] edit.exclude ≡ Ok base.exclude
  -- without lists it is the version got
  pub alone : edit.include ≡ [] → edit.exclude ≡ [] → base_text file base ≡ version_text file base.got

-- A delta, with null deltas before it, is put on a file: it is the newest one, live, with the SID to be made, and its
-- version is what the script makes of the base; a null delta's version is that of the delta got; all older versions
-- stay.
pub record AddsVersions (before after : Parsed) (edit : Edit) (base : Base) (orders : List Order) : Type 0 where
  pub newer : newest before.header.records < newest after.header.records
  pub sid : serial_of after.header.records edit.made ≡ Some (newest after.header.records)
  pub added_live : (k : ℕ) → newest before.header.records < k → k ≤ newest after.header.records
      → has (live_serials after.header.records) k ≡ true
  pub live : (m : ℕ) → m ≤ newest before.header.records → has (live_serials after.header.records) m ≡ has
      (live_serials before.header.records) m
  pub own : version_text after (newest after.header.records) ≡ apply orders (base_text before base)
  pub nulls : (k : ℕ) → newest before.header.records < k → k < newest after.header.records
      → version_text after k ≡ version_text before base.got
  pub others : (m : ℕ) → m ≤ newest before.header.records → version_text after m ≡ version_text before m

-- What a delta's step did: the file and the entries that were there, the entry and the script, and the file that is
-- there then.
pub record MakesVersions (words : DeltaWords) (stamp : Stamp) (input : List ℕ) (f : Files) (old : Content)
    (effect : StepEffect) : Type 0 where
  pub before : Parsed
  pub edits : List Edit
  pub entry : ChosenEntry
  pub orders : List Order
  pub after : Parsed
  pub was : IsSFile old.bytes before.header before.items
  pub pending : IsPFile (bytes_or_none f.p) edits
  pub meant : chosen_entry words stamp before.header edits ≡ Ok entry
  pub numbered : slice_get edits (entry.number - 1) ≡ Some entry.edit
  pub base : IsBaseOf before entry.edit entry.base
  pub script : orders_of input ≡ Ok orders
  -- null deltas and the new delta are put on the table, and users, flags and description stay
  pub header : after.header ≡ with_nulls before.header entry.base.got
      (null_deltas stamp (skipped_by before.header edits entry.edit)) (delta_on words stamp before entry orders)
  pub serial : newest after.header.records ≡ suc (newest before.header.records + length
      (skipped_by before.header edits entry.edit))
  -- the new s-file reads as this file, and the entry leaves the p-file
  pub files : effect.new ≡ Some
      (record {
        s = Some (sealed after.header after.items);
        p = pfile_of (remove edits (entry.number - 1));
        z = None;
        g = kept_g words.keep f.g;
        l = f.l;
      })
  pub reads : IsSFile (sealed after.header after.items).bytes after.header after.items
  pub left : Agrees after.header.records (remove edits (entry.number - 1))
  pub versions : AddsVersions before after entry.edit entry.base orders
