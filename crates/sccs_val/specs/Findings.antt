-- What val finds of an operand: POSIX, Shell and Utilities, val. That each value of -r which is no full SID is an
-- invalid one, and not one that is missing, is our own.
use Rattle.std.specs.Prelude.{ℕ, ◌+◌, Bool, true, false, not, List, Option, None, Some, Result, Ok, Err, if◌then◌else◌}
use Rattle.std.specs.Str.{bytes_eq}
use Rattle.sccs_base.specs.Name.{is_sfile_name}
use Rattle.sccs_sid.specs.Sid.{sid_of}
use Rattle.sccs_sid.specs.declared.sids.Sid.{Sid}
use Rattle.sccs_sid.specs.declared.sids.SidFault.{SidFault}
use Rattle.sccs_history.specs.History.{lives}
use Rattle.sccs_history.specs.declared.headers.Header.{Header}
use Rattle.sccs_history.specs.declared.headers.Record.{Record}
use Rattle.sccs_grammar.specs.File.{Parsed, answer, file_of}
use Rattle.sccs_grammar.specs.declared.faults.FileFault.{FileFault}
use Rattle.sccs_grammar.specs.declared.faults.FileFault.TheVariants as file
use Rattle.sccs_keywords.specs.VersionFacts.{kind_flags, module_name}
use Rattle.sccs_words.specs.declared.commands.ValWords.{ValWords}
use Rattle.sccs_val.specs.declared.findings.Findings.{Findings}

abbrev pub fine : Findings
fine = record {
  corrupted = false;
  unopened = false;
  invalid_sid = false;
  missing_sid = false;
  other_kind = false;
  other_module = false;
}

abbrev pub is_corrupted : Findings
is_corrupted = record fine { corrupted = true }

abbrev pub is_unopened : Findings
is_unopened = record fine { unopened = true }

-- a file that can't be read: its sum or its format is bad, or it is no s-file that can be opened
abbrev pub unread : FileFault → Findings
unread (file.BadSum stored computed) = is_corrupted
unread (file.BadFormat line) = is_corrupted
unread (file.Changed size sum size_now sum_now) = is_corrupted
unread file.Missing = is_unopened
unread file.TooLong = is_unopened
unread file.NotSccs = is_unopened
unread file.Encoded = is_unopened
unread file.Failed = fine
unread file.Memory = fine

-- a value of -r that is no full SID, and one that is and isn't live
abbrev pub is_invalid : Result Sid SidFault → Bool
is_invalid (Ok sid) = false
is_invalid (Err fault) = true

abbrev pub is_missing : List Record → Result Sid SidFault → Bool
is_missing records (Ok sid) = not (lives records sid)
is_missing records (Err fault) = false

-- where it was asked, whether the test of what was asked for holds
abbrev pub if_asked : Option (List ℕ) → (List ℕ → Bool) → Bool
if_asked None test = false
if_asked (Some asked) test = test asked

-- what is found of a whole file: -y is compared with the flag t, -m with the module's name
abbrev pub found_in : ValWords → List ℕ → Header → Findings
found_in words n header = record {
  corrupted = false;
  unopened = false;
  invalid_sid = if_asked words.sid (λ asked. is_invalid (sid_of asked));
  missing_sid = if_asked words.sid (λ asked. is_missing header.records (sid_of asked));
  other_kind = if_asked words.kind (λ asked. not (bytes_eq asked (kind_flags header.flags)));
  other_module = if_asked words.«module» (λ asked. not (bytes_eq asked (module_name header.flags n)));
}

abbrev pub findings_of : ValWords → List ℕ → Result Parsed FileFault → Findings
findings_of words n (Ok parsed) = found_in words n parsed.header
findings_of words n (Err fault) = unread fault

-- what is found of an operand whose file has these bytes
abbrev pub findings : ValWords → List ℕ → Option (List ℕ) → Findings
findings words operand bytes = if is_sfile_name operand then findings_of words operand (answer file_of bytes)
    else is_unopened

-- ---- bits

abbrev pub finding_bit : Bool → ℕ → ℕ
finding_bit said value = if said then value else 0

-- the bits of POSIX, added up
abbrev pub bits : Findings → ℕ
bits f = finding_bit f.corrupted 32 + (finding_bit f.unopened 16 + (finding_bit f.invalid_sid 8
    + (finding_bit f.missing_sid 4 + (finding_bit f.other_kind 2 + finding_bit f.other_module 1))))
