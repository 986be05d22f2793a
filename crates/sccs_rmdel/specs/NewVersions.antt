-- What an rmdel that is accepted leaves, version by version: POSIX, rmdel.
use Rattle.std.specs.Prelude.{◌≡◌, true, List, None, Some, Ok}
use Rattle.sccs_disk.specs.Files.{Content}
use Rattle.sccs_sid.specs.declared.moments.Stamp.{Stamp}
use Rattle.sccs_sid.specs.declared.sids.Sid.{Sid}
use Rattle.sccs_history.specs.Applied.{live_serials}
use Rattle.sccs_history.specs.Body.{lines_of}
use Rattle.sccs_history.specs.History.{is_rooted}
use Rattle.sccs_history.specs.Numbers.{without}
use Rattle.sccs_history.specs.Removal.{dropped, dropped_lines}
use Rattle.sccs_history.specs.declared.headers.Record.{Record}
use Rattle.sccs_grammar.specs.File.{IsSFile, Parsed}
use Rattle.sccs_name_files.specs.StepFiles.{Files}
use Rattle.sccs_pfile.specs.Agreement.{Agrees}
use Rattle.sccs_pfile.specs.Reading.{IsPFile}
use Rattle.sccs_pfile.specs.declared.entries.Edit.{Edit}
use Rattle.sccs_steps.specs.StepEffects.{StepEffect}
use Rattle.sccs_store.specs.SealedFiles.{sealed}
use Rattle.sccs_changes.specs.PFiles.{bytes_or_none}
use Rattle.sccs_rmdel.specs.Removed.{KeepsVersions, without_delta}
use Rattle.sccs_rmdel.specs.RmdelStep.{removable}

-- A delta is taken out of a file: its record says so and the others stay, its lines and control items are gone, the
-- live deltas are those that were but for it, and in a rooted table each of them has the set and the text that it
-- had.
pub record TakesOut (before after : Parsed) (delta : Record) : Type 0 where
  pub header : after.header ≡ without_delta delta.serial before.header
  pub items : after.items ≡ dropped delta.serial before.items
  pub lines : lines_of after.items ≡ dropped_lines delta.serial (lines_of before.items)
  pub live : live_serials after.header.records ≡ without delta.serial (live_serials before.header.records)
  pub versions : is_rooted before.header.records ≡ true
      → KeepsVersions delta.serial before.header.records (lines_of before.items)
  pub rooted : is_rooted before.header.records ≡ true → is_rooted after.header.records ≡ true

-- What rmdel's step did: the file and the entries that were there, the delta that the words mean, and the file that is
-- there then.
pub record RemovesDelta (sid : Sid) (stamp : Stamp) (f : Files) (old : Content) (effect : StepEffect) : Type 0 where
  pub before : Parsed
  pub edits : List Edit
  pub delta : Record
  pub after : Parsed
  pub was : IsSFile old.bytes before.header before.items
  pub pending : IsPFile (bytes_or_none f.p) edits
  pub meant : removable sid stamp before.header edits ≡ Ok delta
  pub out : TakesOut before after delta
  -- the new s-file reads as this file; p-file and g-file stay, and the entries agree with the new table
  pub files : effect.new ≡ Some (record {
    s = Some (sealed after.header after.items);
    p = f.p;
    z = None;
    g = f.g;
    l =
        f.l;
  })
  pub reads : IsSFile (sealed after.header after.items).bytes after.header after.items
  pub left : Agrees after.header.records edits
