-- What the readings of recovery answer.
use Rattle.std.proofs.Common.{◌≡◌, ℕ, ◌≤◌, Bool, true, false, cond, List, length, Option, None, Some, option_map}
use Rattle.std.proofs.Common.{IfSome, Result, Ok, Err, refl, sym, ap, subst, ◌∙◌}
use Rattle.std.specs.Prelude.{nat_lt}
use Rattle.sccs_disk.specs.Files.{Content, View}
use Rattle.sccs_name_files.specs.declared.whole_files.WholeFault.TheVariants as whole
use Rattle.sccs_sid.specs.Reading.{◌>>=◌}
use Rattle.sccs_sid.specs.Words.{found}
use Rattle.sccs_sid.specs.declared.refusals.Refusal.{Refusal}
use Rattle.sccs_sid.specs.declared.refusals.Refusal.TheVariants.{BadPfile, TooLong}
use Rattle.sccs_sid.specs.declared.refusals.StepFault.{StepFault}
use Rattle.sccs_sid.specs.declared.refusals.StepFault.TheVariants as step
use Rattle.sccs_history.specs.declared.headers.Record.{Record}
use Rattle.sccs_grammar.specs.File.{Parsed, file_of}
use Rattle.sccs_grammar.specs.FileRefusals.{or_refusal}
use Rattle.sccs_grammar.specs.declared.faults.FileFault.{FileFault}
use Rattle.sccs_grammar.specs.declared.faults.FileFault.TheVariants as faults
use Rattle.sccs_pfile.specs.Reading.{edits_of}
use Rattle.sccs_grammar.proofs.AnySumLaws.{unsummed_ok}
use Rattle.sccs_pfile.specs.Recovered.{recovered_by, recovered_pfile, table_of}
use Rattle.sccs_pfile.specs.declared.entries.Edit.{Edit}
use Rattle.sccs_recovery.specs.Checks.{ReadsOrRefuses, ReadsTable, as_pfile, bytes_read, entries_read, readable}
use Rattle.sccs_recovery.specs.Checks.{table_read}
use Rattle.sccs_recovery.specs.Entries.{Finds, IsGone, LeavesEntries, Recovers, pfile_left}
use Rattle.sccs_recovery.specs.declared.entries_left.PfileLeft.{PfileLeft}
use Rattle.sccs_recovery.specs.declared.entries_left.PfileLeft.TheVariants.{Same, Gone, Others}

-- ---- a view that is told

pub some_map : {P Q : View → Type 0} (o : Option View) → ((v : View) → P v → Q v) → IfSome o P → IfSome o Q
some_map None f p = tt
some_map (Some v) f p = f v p

-- ---- the p-file

-- ---- the s-file

-- ---- both

-- the table that was read is that of the s-file
table_found : (c : Content) (records : List Record) → table_read (Some c) ≡ Ok (Some records)
    → table_of c.bytes ≡ Some records
unfolding table_of
table_found c records is = by_limit (nat_lt 1073741824 (length c.bytes)) is
  where
    by_file : (r : Result Parsed FileFault) → (or_refusal r >>= λ f. Ok (Some f.header.records)) ≡ Ok (Some records)
        → option_map (λ f. f.header.records) (found r) ≡ Some records
    by_file (Ok f) e = cc
    by_file (Err fault) e = absurd (cc)

    by_table : (r : Result Parsed FileFault) → file_of c.bytes ≡ r → (or_refusal r >>= λ f. Ok (Some f.header.records))
        ≡ Ok (Some records) → table_of c.bytes ≡ Some records
    by_table (Ok f) same e = ap (λ (r : Result Parsed FileFault). option_map (λ g. g.header.records) (found r))
        (unsummed_ok c.bytes f same) ∙ by_file (Ok f) e
    by_table (Err fault) same e = absurd cc

    by_limit : (b : Bool) → (or_refusal ((cond b (Err faults.TooLong) (Ok c.bytes)) >>= file_of)
        >>= λ f. Ok (Some f.header.records)) ≡ Ok (Some records) → table_of c.bytes ≡ Some records
    by_limit true e = absurd (cc)
    by_limit false e = by_table (file_of c.bytes) refl e

pub recovers_edits : (s : Option Content) (c : Content) (records : List Record) (edits : List Edit) (left : PfileLeft)
    → table_read s ≡ Ok (Some records) → edits_of c.bytes ≡ Ok edits → LeavesEntries records edits left
    → recovered_pfile s (Some c) ≡ pfile_left (Some c) left
recovers_edits None c records edits left table read leaves = absurd (cc)
recovers_edits (Some s) c records edits left table read leaves =
    ap (λ (t : Option (List Record)). recovered_by t (edits_of c.bytes) c) (table_found s records table)
    ∙ (ap (λ (r : Result (List Edit) ℕ). recovered_by (Some records) r c) read ∙ leaves c)

-- the checks, one after the other
pub readable_by : (s p : Option Content) (bytes : Option (List ℕ)) (table : Option (List Record))
    (read : Result Bool Refusal) → bytes_read p ≡ Ok bytes → table_read s ≡ Ok table
    → (entries_read bytes >>= λ edits. Ok true) ≡ read → readable s p ≡ read
unfolding readable
readable_by s p bytes table read first second third = ap (λ (r : Result (Option (List ℕ)) Refusal). r
    >>= λ b. table_read s >>= λ t. entries_read b >>= λ e. Ok true) first
    ∙ (ap (λ (r : Result (Option (List Record)) Refusal). r >>= λ t. entries_read bytes >>= λ e. Ok true) second
    ∙ third)

pub readable_first : (s p : Option Content) (refusal : Refusal) → bytes_read p ≡ Err refusal
    → readable s p ≡ Err refusal
unfolding readable
readable_first s p refusal first = ap (λ (r : Result (Option (List ℕ)) Refusal). r >>= λ b. table_read s
    >>= λ t. entries_read b >>= λ e. Ok true) first

pub readable_second : (s p : Option Content) (bytes : Option (List ℕ)) (refusal : Refusal) → bytes_read p ≡ Ok bytes
    → table_read s ≡ Err refusal → readable s p ≡ Err refusal
unfolding readable
readable_second s p bytes refusal first second =
    ap (λ (r : Result (Option (List ℕ)) Refusal). r >>= λ b. table_read s >>= λ t. entries_read b >>= λ e. Ok true)
    first ∙ ap (λ (r : Result (Option (List Record)) Refusal). r >>= λ t. entries_read bytes >>= λ e. Ok true)
    second

pub first_fails : (s p : Option Content) (fault : StepFault) → ReadsOrRefuses (bytes_read p) (Err fault)
    → Finds s p (Err fault)
first_fails s p (step.Refused refusal) reads = readable_first s p refusal reads
first_fails s p step.Memory reads = tt
first_fails s p step.ReadFault reads = tt
first_fails s p step.WriteFault reads = tt
first_fails s p step.DiskFault reads = tt

pub second_fails : (s p : Option Content) (bytes : Option (List ℕ)) (fault : StepFault) → bytes_read p ≡ Ok bytes
    → ReadsTable (table_read s) (Err fault) → Finds s p (Err fault)
second_fails s p bytes (step.Refused refusal) first reads = readable_second s p bytes refusal first reads
second_fails s p bytes step.Memory first reads = tt
second_fails s p bytes step.ReadFault first reads = tt
second_fails s p bytes step.WriteFault first reads = tt
second_fails s p bytes step.DiskFault first reads = tt

-- ---- what is found

no_bytes : (p : Option Content) → bytes_read p ≡ Ok None → p ≡ None
no_bytes None is = refl
no_bytes (Some c) is = absurd (never (nat_lt 1073741824 (length c.bytes)) is)
  where
    never : (b : Bool) → cond b (Err TooLong) (Ok (Some c.bytes)) ≡ Ok None → ⊥
    never true e = cc
    never false e = cc

same_bytes_read : (c : Content) (bytes : List ℕ) → bytes_read (Some c) ≡ Ok (Some bytes) → c.bytes ≡ bytes
same_bytes_read c bytes is = by (nat_lt 1073741824 (length c.bytes)) is
  where
    by : (b : Bool) → cond b (Err TooLong) (Ok (Some c.bytes)) ≡ Ok (Some bytes) → c.bytes ≡ bytes
    by true e = absurd (cc)
    by false e = cc

gone_some : (c : Content) (left : PfileLeft) → IsGone (Some c) left
gone_some c Same = tt
gone_some c Gone = refl
gone_some c (Others edits) = tt

pub left_recovers : (s : Option Content) (c : Content) (records : List Record) (edits : List Edit) (left : PfileLeft)
    → table_read s ≡ Ok (Some records) → edits_of c.bytes ≡ Ok edits → LeavesEntries records edits left
    → Recovers s (Some c) left
left_recovers s c records edits left table read leaves =
    record { is = recovers_edits s c records edits left table read leaves; gone = gone_some c left }

nothing : (s : Option Content) → recovered_pfile s None ≡ None
nothing None = refl
nothing (Some s) = refl

-- no p-file
pub finds_none : (s p : Option Content) (table : Option (List Record)) → bytes_read p ≡ Ok None
    → table_read s ≡ Ok table → Finds s p (Ok Same)
finds_none s p table first second = (
  readable_by s p None table (Ok true) first second refl,
  record {
    is = subst (λ (o : Option Content). recovered_pfile s o ≡ o) (sym (no_bytes p first)) (nothing s);
    gone =
        tt;
  },
)

-- a p-file with these entries
pub finds_edits : (s p : Option Content) (bytes : List ℕ) (table : Option (List Record)) (edits : List Edit)
    (left : PfileLeft) → bytes_read p ≡ Ok (Some bytes) → table_read s ≡ Ok table → edits_of bytes ≡ Ok edits
    → ((c : Content) → edits_of c.bytes ≡ Ok edits → Recovers s (Some c) left) → Finds s p (Ok left)
finds_edits s None bytes table edits left first second read recovers = absurd (cc)
finds_edits s (Some c) bytes table edits left first second read recovers = (
  readable_by s (Some c) (Some bytes) table (Ok true) first second (ap (λ (r : Result (List Edit) ℕ). as_pfile r
      >>= λ e. Ok true) read),
  recovers c (ap edits_of (same_bytes_read c bytes first) ∙ read),
)

-- a line that is no entry
pub finds_line : (s p : Option Content) (bytes : List ℕ) (table : Option (List Record)) (line : ℕ)
    → bytes_read p ≡ Ok (Some bytes) → table_read s ≡ Ok table → edits_of bytes ≡ Err line
    → readable s p ≡ Err (BadPfile line)
finds_line s p bytes table line first second read = readable_by s p (Some bytes) table (Err (BadPfile line)) first
    second (ap (λ (r : Result (List Edit) ℕ). as_pfile r >>= λ e. Ok true) read)

-- ---- of a view

pub none_first : (told : Option View) (n k : List ℕ) (fault : StepFault)
    → IfSome told (λ (v : View). ReadsOrRefuses (bytes_read (v k)) (Err fault))
    → IfSome told (λ (v : View). Finds (v n) (v k) (Err fault))
none_first told n k fault reads = some_map told (λ v r. first_fails (v n) (v k) fault r) reads

pub both_some : (P Q : View → Type 0) (told told2 : Option View) → told2 ≡ told → IfSome told P
    → IfSome told2 (λ v. P v → Q v) → IfSome told Q
both_some P Q None told2 same first second = tt
both_some P Q (Some v) told2 same first second = (subst (λ (o : Option View). IfSome o (λ u. P u → Q u)) same second)
    first
