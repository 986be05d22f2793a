-- The p-file that recovery leaves (own): a delta that was stopped behind the change of its s-file has its SID in the
-- table and its entry in the p-file still. So the entries whose SID to be made is live leave the p-file.
use Rattle.std.specs.Prelude.{ℕ, Bool, true, not, List, [], ◌∷◌, filter, Option, None, Some, option_map, Result, Ok}
use Rattle.std.specs.Prelude.{Err, if◌then◌else◌}
use Rattle.std.specs.List.{list_any}
use Rattle.sccs_disk.specs.Files.{Content}
use Rattle.sccs_sid.specs.Words.{found}
use Rattle.sccs_history.specs.History.{lives}
use Rattle.sccs_history.specs.declared.headers.Record.{Record}
use Rattle.sccs_grammar.specs.AnySum.{unsummed_file}
use Rattle.sccs_pfile.specs.Reading.{edits_of}
use Rattle.sccs_pfile.specs.Written.{edits_text}
use Rattle.sccs_pfile.specs.declared.entries.Edit.{Edit}

-- the delta of an entry is made: its SID to be made is live
abbrev pub is_done : List Record → Edit → Bool
is_done records e = lives records e.made

-- the entries whose delta isn't made
abbrev pub without_done : List Record → List Edit → List Edit
without_done records edits = filter (λ e. not (is_done records e)) edits

-- a p-file as it is written; it may be written
abbrev pub written_pfile : List Edit → Content
written_pfile edits = record { bytes = edits_text edits; writable = true }

-- the p-file of entries: none where there are none, else their written spelling
abbrev pub pfile_of : List Edit → Option Content
pfile_of [] = None
pfile_of (e ∷ edits) = Some (written_pfile (e ∷ edits))

-- the delta table of an s-file that can be read, whatever its stored sum is: what is in it doesn't hang on that
unfoldable pub table_of : List ℕ → Option (List Record)
table_of bytes = option_map (λ f. f.header.records) (found (unsummed_file bytes))

-- the same file where no entry leaves it, else the p-file of the others
abbrev pub entries_dropped : List Record → List Edit → Content → Option Content
entries_dropped records edits p = if list_any (is_done records) edits then pfile_of (without_done records edits)
    else Some p

abbrev pub recovered_by : Option (List Record) → Result (List Edit) ℕ → Content → Option Content
recovered_by None read p = Some p
recovered_by (Some records) (Err line) p = Some p
recovered_by (Some records) (Ok edits) p = entries_dropped records edits p

-- The p-file that recovery leaves of an s-file and a p-file: without the entries whose delta is made. Where one of
-- the two isn't there or can't be read it is as it was.
abbrev pub recovered_pfile : Option Content → Option Content → Option Content
recovered_pfile s None = None
recovered_pfile None (Some p) = Some p
recovered_pfile (Some s) (Some p) = recovered_by (table_of s.bytes) (edits_of p.bytes) p
