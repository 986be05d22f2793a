-- Calls of delta on one s-file, one after the other, and the text that each serial gets from the scripts.
use Rattle.std.specs.Prelude.{◌≡◌, ℕ, suc, ◌+◌, ◌≤◌, nat_le, nat_lt, true, ◌&&◌, List, [], ◌∷◌, length, Option, None}
use Rattle.std.specs.Prelude.{Some, option_and_then, unwrap_or, Result, Ok, Err, if◌then◌else◌}
use Rattle.sccs_base.specs.Login.{IsLogin}
use Rattle.sccs_disk.specs.Files.{Content}
use Rattle.sccs_sid.specs.Moment.{IsMoment}
use Rattle.sccs_sid.specs.Reading.{◌>>=◌, is_empty}
use Rattle.sccs_sid.specs.declared.moments.Stamp.{Stamp}
use Rattle.sccs_sid.specs.declared.refusals.Refusal.{Refusal}
use Rattle.sccs_history.specs.Applied.{live_serials, newest}
use Rattle.sccs_history.specs.History.{AreLines}
use Rattle.sccs_history.specs.Numbers.{has}
use Rattle.sccs_grammar.specs.File.{IsSFile, Parsed, file_of}
use Rattle.sccs_grammar.specs.FileRefusals.{or_refusal}
use Rattle.sccs_script_laws.specs.Scripts.{apply}
use Rattle.sccs_script_laws.specs.declared.scripts.Order.{Order}
use Rattle.sccs_script.specs.Commands.{orders_of}
use Rattle.sccs_name_files.specs.StepFiles.{Files}
use Rattle.sccs_pfile.specs.Reading.{edits_of}
use Rattle.sccs_pfile.specs.declared.entries.Edit.{Edit}
use Rattle.sccs_steps.specs.StepEffects.{Outcome}
use Rattle.sccs_changes.specs.PFiles.{bytes_or_none, or_bad_pfile}
use Rattle.sccs_words.specs.declared.commands.DeltaWords.{DeltaWords}
use Rattle.sccs_delta.specs.DeltaStep.{ChosenEntry, delta_outcome, chosen_entry, or_script_fault}
use Rattle.sccs_delta.specs.NewVersions.{base_text, version_text}
use Rattle.sccs_delta.specs.NullDeltas.{skipped_by}

-- ---- calls

-- a call of delta, with the p-file, the g-file and the l-file that it finds; commands that leave the s-file may have
-- come between
pub record DeltaCall : Type 0 where
  pub words : DeltaWords
  pub stamp : Stamp
  pub input : List ℕ
  pub p : Option Content
  pub g : Option Content
  pub l : Option Content

-- Its stamp, its MRs and its comment are such.
pub record IsDeltaCall (c : DeltaCall) : Type 0 where
  pub moment : IsMoment c.stamp.moment
  pub login : IsLogin c.stamp.login
  pub mrs : AreLines c.words.mrs
  pub comment : AreLines c.words.comment

abbrev pub files_at : Content → DeltaCall → Files
files_at s c = record { s = Some s; p = c.p; z = None; g = c.g; l = c.l }

abbrev pub call_outcome : List ℕ → Content → DeltaCall → Outcome
call_outcome n s c = delta_outcome c.words c.stamp n c.input [] (files_at s c)

-- the s-file behind a step; one that is refused changes nothing
abbrev pub s_behind : Content → Outcome → Content
s_behind s (Ok effect) = unwrap_or (option_and_then (λ (f : Files). f.s) effect.new) s
s_behind s (Err refusal) = s

-- the s-file behind calls on a name
abbrev pub s_after : List ℕ → Content → List DeltaCall → Content
s_after n s [] = s
s_after n s (c ∷ calls) = s_after n (s_behind s (call_outcome n s c)) calls

-- ---- texts by scripts

-- a text for each serial
abbrev pub Texts : Type 0
Texts = ℕ → List (List ℕ)

-- what a call reads: the s-file, the entries and the one that is meant, and the script
pub record CallRead : Type 0 where
  pub file : Parsed
  pub edits : List Edit
  pub entry : ChosenEntry
  pub orders : List Order

unfoldable pub call_read : Content → DeltaCall → Result CallRead Refusal
call_read s c = do
  file ← or_refusal (file_of s.bytes)
  edits ← or_bad_pfile (edits_of (bytes_or_none c.p))
  entry ← chosen_entry c.words c.stamp file.header edits
  orders ← or_script_fault (orders_of c.input)
  Ok (record { file = file; edits = edits; entry = entry; orders = orders })

-- the serial of its delta, behind the null deltas
abbrev pub serial_made : CallRead → ℕ
serial_made r = suc (newest r.file.header.records + length (skipped_by r.file.header r.edits r.entry.edit))

-- The text on which its delta is made: without lists that of the delta got; else what the set of the delta got, with
-- the lists, shows of the s-file.
abbrev pub replayed_base : Texts → CallRead → List (List ℕ)
replayed_base texts r = if is_empty r.entry.edit.include && is_empty r.entry.edit.exclude then texts r.entry.base.got
    else base_text r.file r.entry.base

-- The texts with those of its deltas: a null delta has the text of the delta got, and the new delta what the script
-- makes of its base.
abbrev pub with_texts : Texts → CallRead → Texts
with_texts texts r n =
    if nat_le n (newest r.file.header.records) then texts n
    else if nat_lt n (serial_made r) then texts r.entry.base.got
    else apply r.orders (replayed_base texts r)

-- the texts behind a step
abbrev pub texts_after : Texts → Outcome → Result CallRead Refusal → Texts
texts_after texts (Err refusal) read = texts
texts_after texts (Ok effect) (Err refusal) = texts
texts_after texts (Ok effect) (Ok r) = with_texts texts r

-- the texts behind calls on a name, by those before them
abbrev pub replayed_calls : List ℕ → Content → Texts → List DeltaCall → Texts
replayed_calls n s texts [] = texts
replayed_calls n s texts (c ∷ calls) = replayed_calls n (s_behind s (call_outcome n s c))
    (texts_after texts (call_outcome n s c) (call_read s c)) calls

-- The s-file behind calls on a file can be read, the version of each live serial is its replay from the versions at
-- the start, and each serial that was there keeps its version.
pub record ReplaysVersions (n : List ℕ) (s : Content) (file : Parsed) (calls : List DeltaCall) : Type 0 where
  pub last : Parsed
  pub reads : IsSFile (s_after n s calls).bytes last.header last.items
  pub versions : (m : ℕ) → has (live_serials last.header.records) m ≡ true → version_text last m ≡ replayed_calls n s
      (version_text file) calls m
  pub stay : (m : ℕ) → m ≤ newest file.header.records → version_text last m ≡ version_text file m
