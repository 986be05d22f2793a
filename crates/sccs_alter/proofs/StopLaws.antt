-- An altered s-file settles the entries of its name: its delta table is as it was.
use Rattle.std.proofs.Common.{◌≡◌, ℕ, Bool, true, false, List, Option, None, Some, IfSome, Result, Ok, Err, refl, sym}
use Rattle.std.proofs.Common.{ap, subst, ◌∙◌}
use Rattle.std.specs.Prelude.{nat_lt, length, if◌then◌else◌}
use Rattle.sccs_base.specs.Name.{IsSFileName, p_file, q_file, x_file}
use Rattle.sccs_disk.specs.Files.{Content, View, put}
use Rattle.sccs_disk.specs.Told.{Told, seen}
use Rattle.sccs_disk.proofs.Puts.{put_other, put_same}
use Rattle.sccs_sid.specs.Reading.{◌>>=◌}
use Rattle.sccs_grammar.specs.File.{IsSFile, Parsed, answer}
use Rattle.sccs_grammar.specs.declared.faults.FileFault.TheVariants as faults
use Rattle.sccs_history.specs.History.{IsHeader, IsSpelled}
use Rattle.sccs_history.specs.declared.headers.Header.{Header}
use Rattle.sccs_history.specs.declared.headers.Item.{Item}
use Rattle.sccs_history.specs.declared.headers.Record.{Record}
use Rattle.sccs_crash_points.specs.Recovery.{IsSound}
use Rattle.sccs_crash_points.proofs.FileNames.{from_s}
use Rattle.sccs_pfile.specs.Recovered.{recovered_by, recovered_pfile, table_of}
use Rattle.sccs_pfile.specs.Reading.{edits_of}
use Rattle.sccs_grammar.specs.AnySum.{unsummed_file}
use Rattle.sccs_grammar.specs.declared.faults.FileFault.{FileFault}
use Rattle.sccs_grammar.proofs.AnySumLaws.{unsummed_ok}
use Rattle.sccs_changes.proofs.StopLaws.{table_is, unsummed_table}
use Rattle.sccs_store.specs.Commits.{Becomes, chosen, files_after, replaced}
use Rattle.sccs_store.specs.SealedFiles.{sealed}
use Rattle.sccs_store.specs.Stops.{KeepsEntries}
use Rattle.sccs_store.specs.declared.new_files.NewFile.{NewFile}
use Rattle.sccs_steps.specs.StepStops.{ArePaired, IsPaired}
use Rattle.sccs_changes.specs.Changes.{plan_of}
use Rattle.sccs_changes.specs.Stops.{SettlesEntries}
use Rattle.sccs_changes.specs.declared.prepared.Prepared.{Prepared}
use Rattle.sccs_changes.proofs.StopEnds.{plain_where}
use Rattle.sccs_words.specs.declared.commands.AdminWords.{AdminWords}
use Rattle.sccs_admin.specs.Parts.{IsNewSfile}
use Rattle.sccs_alter.specs.AlterStep.{altered_header, file_read}
use Rattle.sccs_alter.proofs.FileReads.{header_reads}
use Rattle.sccs_alter.proofs.HeaderLaws.{altered_records, altered_rules, altered_spelled}

-- ---- files that are read

limited : (read : List ℕ → Result Parsed FileFault) (bytes : List ℕ) (parsed : Parsed) (t : Bool)
    → ((if t then Err faults.TooLong else Ok bytes) >>= read) ≡ Ok parsed → read bytes ≡ Ok parsed
limited read bytes parsed true is = absurd cc
limited read bytes parsed false is = is

pub answer_read : (fix : Bool) (bytes : List ℕ) (parsed : Parsed) → answer (file_read fix) (Some bytes) ≡ Ok parsed
    → file_read fix bytes ≡ Ok parsed
answer_read fix bytes parsed is = limited (file_read fix) bytes parsed (nat_lt 1073741824 (length bytes)) is

-- what is read so is read whatever its sum is
pub read_unsummed_ok : (fix : Bool) (bytes : List ℕ) (parsed : Parsed) → file_read fix bytes ≡ Ok parsed
    → unsummed_file bytes ≡ Ok parsed
read_unsummed_ok true bytes parsed is = is
read_unsummed_ok false bytes parsed is = unsummed_ok bytes parsed is

pub altered_reads : (fix : Bool) (words : AdminWords) (bytes text : List ℕ) (header new : Header) (items : List Item)
    → IsHeader header → IsSpelled header → file_read fix bytes ≡ Ok (record { header = header; items = items })
    → altered_header words header text ≡ Ok new
    → IsSFile (sealed new items).bytes new items
altered_reads fix words bytes text header new items rules spelled whole is =
    header_reads bytes header new items (read_unsummed_ok fix bytes (record { header = header; items = items }) whole)
    (altered_rules words header text new rules is) (altered_spelled words header text new spelled is)
    (altered_records words text header new is)

-- ---- entries

same_recovery : (a b : Content) (p : Option Content) → table_of a.bytes ≡ table_of b.bytes → recovered_pfile (Some a) p
    ≡ recovered_pfile (Some b) p
same_recovery a b None same = refl
same_recovery a b (Some p) same = ap (λ (t : Option (List Record)). recovered_by t (edits_of p.bytes) p) same

-- the s-file is another one, whose p-file recovery leaves as it is
pub entries_kept : (n : List ℕ) (p : Prepared) (u : View) (new : Content) → IsNewSfile p → u (x_file n) ≡ Some new
    → recovered_pfile (Some new) (u (p_file n)) ≡ u (p_file n)
    → KeepsEntries n (plan_of p) u × ArePaired (files_after n (plan_of p) u).s (files_after n (plan_of p) u).p
entries_kept n p u new is_new x stays = (
  record {
    leaves = plain_where (plan_of p).s (recovered_pfile (files_after n (plan_of p) u).s (u (p_file n))
        ≡ (files_after n (plan_of p) u).p)
        (ap (λ (o : Option Content). recovered_pfile o (u (p_file n))) s_is ∙ (stays ∙ sym p_is));
    sound = ap (λ (o : Option Content). recovered_pfile o (files_after n (plan_of p) u).p) s_is
        ∙ (ap (recovered_pfile (Some new)) p_is ∙ (stays ∙ sym p_is));
  },
  λ gone. absurd (none_some (sym s_is ∙ gone)),
)
  where
    none_some : Some new ≡ None → ⊥
    none_some is = cc

    s_is : (files_after n (plan_of p) u).s ≡ Some new
    s_is = ap (λ (b : Bool). chosen (replaced b) (u (x_file n)) (u n)) is_new.s ∙ x

    p_is : (files_after n (plan_of p) u).p ≡ u (p_file n)
    p_is = ap (λ (f : NewFile). chosen f (u (q_file n)) (u (p_file n))) is_new.p_state

settled_at : (n : List ℕ) (p : Prepared) (u : View) (old new : Content) → IsNewSfile p → u (x_file n) ≡ Some new
    → u n ≡ Some old → table_of new.bytes ≡ table_of old.bytes → IsSound n u
    → KeepsEntries n (plan_of p) u × ArePaired (files_after n (plan_of p) u).s (files_after n (plan_of p) u).p
settled_at n p u old new is_new x s same sound =
    entries_kept n p u new is_new x (same_recovery new old (u (p_file n)) same
    ∙ (ap (λ (o : Option Content). recovered_pfile o (u (p_file n))) (sym s) ∙ sound.entries))

same_table : (old new : Content) (h h2 : Header) (items : List Item) → unsummed_file old.bytes ≡ Ok
    (record { header = h; items = items }) → IsSFile new.bytes h2 items → h2.records ≡ h.records
    → table_of new.bytes ≡ table_of old.bytes
same_table old new h h2 items old_is new_is same =
    table_is new (record { header = h2; items = items }) new_is ∙ (ap (λ (rs : List Record). Some rs) same
    ∙ sym (unsummed_table old (record { header = h; items = items }) old_is))

-- where the x-file has the altered header over the items of the s-file
pub altered_settles : (fix : Bool) (words : AdminWords) (n text : List ℕ) (header new : Header) (items : List Item)
    (p : Prepared) (v : View) (old : Content) (b : Told) → IsSFileName n → IsNewSfile p → v n ≡ Some old
    → IsHeader header → IsSpelled header → file_read fix old.bytes ≡ Ok (record { header = header; items = items })
    → altered_header words header text ≡ Ok new → Becomes (λ w. put w (x_file n) (Some (sealed new items))) (Some v)
    (seen b) → SettlesEntries n p b
altered_settles fix words n text header new items p v old b sfile is_new s rules spelled whole is becomes =
    subst (λ (o : Option View). IfSome o (λ u. IsPaired n u → IsSound n u → KeepsEntries n (plan_of p) u
    × ArePaired (files_after n (plan_of p) u).s (files_after n (plan_of p) u).p)) (sym becomes)
    (λ paired sound. settled_at n p (put v (x_file n) (Some (sealed new items))) old (sealed new items) is_new
    (put_same v (x_file n) (Some (sealed new items))) (put_other v (x_file n) n (Some (sealed new items))
    (from_s 120 n sfile refl) ∙ s)
    (same_table old (sealed new items) header new items (read_unsummed_ok fix old.bytes
    (record { header = header; items = items }) whole) (altered_reads fix words old.bytes text header new items
    rules spelled whole is) (altered_records words text header new is)) sound)
