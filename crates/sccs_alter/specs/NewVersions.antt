-- What a cdc that is accepted leaves, version by version.
use Rattle.std.specs.Prelude.{◌≡◌, ℕ, List, ◌++◌, None, Some, Ok}
use Rattle.sccs_disk.specs.Files.{Content}
use Rattle.sccs_sid.specs.declared.moments.Stamp.{Stamp}
use Rattle.sccs_history.specs.Applied.{Asked, applied, live_serials, version}
use Rattle.sccs_history.specs.Body.{lines_of}
use Rattle.sccs_history.specs.declared.headers.Record.{Record}
use Rattle.sccs_grammar.specs.File.{IsSFile, Parsed}
use Rattle.sccs_name_files.specs.StepFiles.{Files}
use Rattle.sccs_steps.specs.StepEffects.{StepEffect}
use Rattle.sccs_store.specs.SealedFiles.{sealed}
use Rattle.sccs_words.specs.declared.commands.CdcWords.{CdcWords}
use Rattle.sccs_alter.specs.CdcStep.{changeable, text_changes}
use Rattle.sccs_alter.specs.Changes.{AreSameDeltas, changed_delta, with_changes}

-- MRs and comment of a delta are changed: all else of each record stays, and so do users, flags and description, the
-- items, the live deltas, each set, each version, and the end of the comment.
pub record ChangesTexts (words : CdcWords) (stamp : Stamp) (before after : Parsed) (delta : Record) : Type 0 where
  pub header : after.header ≡ with_changes (text_changes words) stamp delta.serial before.header
  pub items : after.items ≡ before.items
  pub deltas : AreSameDeltas after.header.records before.header.records
  pub live : live_serials after.header.records ≡ live_serials before.header.records
  pub sets : (asked : Asked) → applied asked after.header.records ≡ applied asked before.header.records
  pub versions : (m : ℕ)
      → version m after.header.records (lines_of after.items) ≡ version m before.header.records (lines_of before.items)
  pub comment : (front : List (List ℕ))
      × ((changed_delta (text_changes words) stamp delta).comments ≡ front ++ delta.comments)

-- What cdc's step did: the file that was there, the delta that the words mean, and the file that is there then.
pub record ChangesDelta (words : CdcWords) (stamp : Stamp) (f : Files) (old : Content) (effect : StepEffect) : Type 0
  where
    pub before : Parsed
    pub delta : Record
    pub after : Parsed
    pub was : IsSFile old.bytes before.header before.items
    pub meant : changeable words stamp before.header ≡ Ok delta
    pub texts : ChangesTexts words stamp before after delta
    -- the new s-file reads as this file; p-file and g-file stay
    pub files : effect.new ≡ Some (record {
      s = Some (sealed after.header after.items);
      p = f.p;
      z = None;
      g = f.g;
      l =
          f.l;
    })
    pub reads : IsSFile (sealed after.header after.items).bytes after.header after.items
