-- The bytes of a header as it is written, part by part, and what a call that writes it says.
use Rattle.std.specs.Prelude.{◌≡◌, ◌≤◌, ℕ, List, [], ◌++◌, flat_map, Result, Err, OnOk}
use Rattle.sccs_base.specs.Stream.{Rose}
use Rattle.sccs_disk.specs.Told.{Told}
use Rattle.sccs_disk.specs.declared.disks.DiskRefusal.{DiskRefusal}
use Rattle.sccs_disk.specs.declared.disks.DiskRefusal.TheVariants as fault
use Rattle.sccs_history.specs.declared.headers.Record.{Record}
use Rattle.sccs_history.specs.declared.headers.Flag.{Flag}
use Rattle.sccs_history.specs.declared.headers.Header.{Header}
use Rattle.sccs_tokens.specs.Written.{bytes_of, comment_line, counts_line, delta_line, end_line, ended, flag_line}
use Rattle.sccs_tokens.specs.Written.{header_lines, list_lines, mark, mr_line, sum_line}
use Rattle.sccs_table.specs.SumOf.{IsSumOf}
use Rattle.sccs_writers.specs.OneFile.{OnlyWrites}
use Rattle.sccs_writers.specs.Puts.{Appends}

-- the lists of an entry
abbrev pub lists_bytes : Record → List ℕ
lists_bytes r = bytes_of (list_lines 105 r.include) ++ (bytes_of (list_lines 120 r.exclude) ++ bytes_of
    (list_lines 103 r.ignore))

-- its MRs, its comments, and its end
abbrev pub texts_bytes : Record → List ℕ
texts_bytes r = flat_map (λ t. ended (mr_line t)) r.mrs ++ (flat_map (λ t. ended (comment_line t)) r.comments
    ++ ended end_line)

abbrev pub entry_bytes : Record → List ℕ
entry_bytes r = ended (counts_line r.inserted r.deleted r.unchanged)
    ++ (ended (delta_line r) ++ (lists_bytes r ++ texts_bytes r))

abbrev pub table_bytes : List Record → List ℕ
table_bytes records = flat_map entry_bytes records

abbrev pub users_bytes : List (List ℕ) → List ℕ
users_bytes users = ended (mark 117) ++ (flat_map ended users ++ ended (mark 85))

abbrev pub flags_bytes : List Flag → List ℕ
flags_bytes flags = flat_map (λ f. ended (flag_line f)) flags

abbrev pub description_bytes : List (List ℕ) → List ℕ
description_bytes lines = ended (mark 116) ++ (flat_map ended lines ++ ended (mark 84))

-- a header behind the sum line
abbrev pub header_bytes : Header → List ℕ
header_bytes h = bytes_of (header_lines h [])

-- A call that appends a header to a file: the sum line 00000 and the header, which is added to the sums. At every
-- exit at most this file is another.
pub record WritesHeader {T : Type 0} (h : Header) (n : List ℕ) (before after : ℕ × ℕ) (old new : Told)
    (faults faults_after : ℕ) (result : Result T DiskRefusal) : Type 0 where
  pub ok : OnOk result (Appends n (ended (sum_line 0) ++ header_bytes h) old new)
  pub sums : OnOk result ((front : List ℕ) → IsSumOf before front → IsSumOf after (front ++ header_bytes h))
  pub only : OnlyWrites n old new
  pub later : faults ≤ faults_after
  pub cause : result ≡ Err fault.Failed → Rose faults faults_after
