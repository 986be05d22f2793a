-- What a stop leaves of a cdc: what its step asks of recovery.
use Rattle.std.proofs.Common.{◌≡◌, ℕ, List, [], ◌∷◌, Option, None, Some, IfOk, IfSome, Result, Ok, Err, refl, sym, ap}
use Rattle.std.proofs.Common.{subst, ◌∙◌, cond, not, ◌||◌}
use Rattle.std.specs.Prelude.{if◌then◌else◌}
use Rattle.std.specs.List.{AllByRecursion, list_any}
use Rattle.sccs_base.specs.Name.{IsSFileName, p_file, x_file}
use Rattle.sccs_disk.specs.Files.{Content, View, put}
use Rattle.sccs_disk.specs.Told.{Told, seen}
use Rattle.sccs_disk.proofs.Puts.{put_other, put_same}
use Rattle.sccs_sid.specs.declared.moments.Stamp.{Stamp}
use Rattle.sccs_history.specs.Applied.{live_serials}
use Rattle.sccs_history.specs.Body.{GoesOn}
use Rattle.sccs_history.specs.History.{IsHeader, IsSpelled}
use Rattle.sccs_history.specs.declared.headers.Header.{Header}
use Rattle.sccs_history.specs.declared.headers.Item.{Item}
use Rattle.sccs_history.specs.declared.headers.Record.{Record}
use Rattle.sccs_tokens.specs.Written.{canonical}
use Rattle.sccs_grammar.specs.File.{IsSFile, Parsed}
use Rattle.sccs_grammar.proofs.CanonicalLaws.{canonical_again}
use Rattle.sccs_crash_points.specs.Recovery.{IsSound}
use Rattle.sccs_crash_points.proofs.FileNames.{from_s}
use Rattle.sccs_pfile.specs.Recovered.{is_done, pfile_of, recovered_by, recovered_pfile, table_of, without_done}
use Rattle.sccs_pfile.specs.Reading.{edits_of}
use Rattle.sccs_pfile.specs.declared.entries.Edit.{Edit}
use Rattle.sccs_changes.proofs.StopLaws.{table_is}
use Rattle.sccs_copies.proofs.FileReads.{HasItems, IsLegal, file_fits, legal_items, legal_lines}
use Rattle.sccs_store.specs.Commits.{Becomes, files_after}
use Rattle.sccs_store.specs.SealedFiles.{sealed}
use Rattle.sccs_store.specs.Stops.{KeepsEntries}
use Rattle.sccs_steps.specs.StepStops.{ArePaired, IsPaired}
use Rattle.sccs_changes.specs.Changes.{plan_of}
use Rattle.sccs_changes.specs.Stops.{SettlesEntries}
use Rattle.sccs_changes.specs.declared.prepared.Prepared.{Prepared}
use Rattle.sccs_words.specs.declared.commands.CdcWords.{CdcWords}
use Rattle.sccs_admin.specs.Parts.{IsNewSfile}
use Rattle.sccs_alter.proofs.StopLaws.{entries_kept}
use Rattle.sccs_alter.specs.CdcStep.{changed_header}
use Rattle.sccs_alter.specs.Changes.{AreSameDeltas}
use Rattle.sccs_alter.specs.CdcParts.{HasLines}
use Rattle.sccs_alter.proofs.CdcHeaderLaws.{new_rules, new_same, new_spelled}
use Rattle.sccs_alter.proofs.TableLaws.{same_live, same_lives}

-- ---- files that are read

-- another header over the items of a file that was read, with the same live deltas, is read back
header_reads : (bytes : List ℕ) (header new : Header) (items : List Item) → IsSFile bytes header items → IsHeader header
    → IsHeader new → IsSpelled new → live_serials new.records ≡ live_serials header.records
    → IsSFile (canonical new items) new items
header_reads bytes header new items whole was keeps spelled same =
    let has_items : HasItems header items = subst (λ r. IfOk r (λ (f : Parsed). HasItems f.header f.items)) whole
    (file_fits bytes) in
    let are : AllByRecursion IsLegal items = has_items.legal was.rules.table in
    canonical_again new items keeps spelled (legal_items items are) (legal_lines items are)
    (subst (λ live. GoesOn live [] items) (sym same) has_items.goes)

pub changed_reads : (words : CdcWords) (stamp : Stamp) (bytes : List ℕ) (header new : Header) (items : List Item)
    → HasLines words stamp → IsHeader header → IsSpelled header → IsSFile bytes header items
    → changed_header words stamp header ≡ Ok new
    → IsSFile (sealed new items).bytes new items
changed_reads words stamp bytes header new items lines rules spelled whole is =
    header_reads bytes header new items whole rules (new_rules words stamp header new rules is)
    (new_spelled words stamp header new lines spelled is) (same_live new.records header.records
    (new_same words stamp header new is))

-- ---- entries

module _ (records others : List Record) (same : AreSameDeltas records others) where
  done_same : (e : Edit) → is_done records e ≡ is_done others e
  done_same e = same_lives records others e.made same

  any_done : (edits : List Edit) → list_any (is_done records) edits ≡ list_any (is_done others) edits
  any_done [] = refl
  any_done (e ∷ edits) = ap (λ t. t || list_any (is_done records) edits) (done_same e) ∙ ap (λ t. is_done others e || t)
      (any_done edits)

  left_same : (edits : List Edit) → without_done records edits ≡ without_done others edits
  left_same [] = refl
  left_same (e ∷ edits) =
      ap (λ t. cond (not t) (e ∷ without_done records edits) (without_done records edits)) (done_same e)
      ∙ ap (λ l. cond (not (is_done others e)) (e ∷ l) l) (left_same edits)

  recovered_same : (read : Result (List Edit) ℕ) (p : Content) → recovered_by (Some records) read p ≡ recovered_by
      (Some others) read p
  recovered_same (Err line) p = refl
  recovered_same (Ok edits) p =
      ap (λ t. if t then pfile_of (without_done records edits) else Some p) (any_done edits)
      ∙ ap (λ l. if list_any (is_done others) edits then pfile_of l else Some p) (left_same edits)

same_recovery : (a b : Content) (p : Option Content) (records others : List Record) → table_of a.bytes ≡ Some records
    → table_of b.bytes ≡ Some others → AreSameDeltas records others → recovered_pfile (Some a) p ≡ recovered_pfile
    (Some b) p
same_recovery a b None records others a_is b_is same = refl
same_recovery a b (Some p) records others a_is b_is same =
    ap (λ (t : Option (List Record)). recovered_by t (edits_of p.bytes) p) a_is
    ∙ (recovered_same records others same (edits_of p.bytes) p ∙ ap (λ (t : Option (List Record)). recovered_by t
    (edits_of p.bytes) p) (sym b_is))

-- where the x-file has the changed header over the items of the s-file
pub changed_settles : (words : CdcWords) (stamp : Stamp) (n : List ℕ) (header new : Header) (items : List Item)
    (p : Prepared) (v : View) (old : Content) (b : Told) → IsSFileName n → IsNewSfile p → HasLines words stamp
    → v n ≡ Some old → IsHeader header → IsSpelled header
    → IsSFile old.bytes header items → changed_header words stamp header ≡ Ok new
    → Becomes (λ w. put w (x_file n) (Some (sealed new items))) (Some v) (seen b) → SettlesEntries n p b
changed_settles words stamp n header new items p v old b sfile is_new lines s rules spelled whole is becomes =
    subst (λ (o : Option View). IfSome o (λ u. IsPaired n u → IsSound n u → KeepsEntries n (plan_of p) u
    × ArePaired (files_after n (plan_of p) u).s (files_after n (plan_of p) u).p)) (sym becomes)
    (λ paired sound.
    let u : View = put v (x_file n) (Some (sealed new items)) in
    let there : u n ≡ Some old = put_other v (x_file n) n (Some (sealed new items)) (from_s 120 n sfile refl) ∙ s in
    let read : IsSFile (sealed new items).bytes new items = changed_reads words stamp old.bytes header new items lines
    rules spelled whole is in
    let same : recovered_pfile (Some (sealed new items)) (u (p_file n)) ≡ recovered_pfile (Some old) (u (p_file n)) =
    same_recovery (sealed new items) old (u (p_file n)) new.records header.records (table_is (sealed new items)
    (record { header = new; items = items }) read) (table_is old (record { header = header; items = items }) whole)
    (new_same words stamp header new is) in
    entries_kept n p u (sealed new items) is_new (put_same v (x_file n) (Some (sealed new items))) (same
    ∙ (ap (λ (o : Option Content). recovered_pfile o (u (p_file n))) (sym there) ∙ sound.entries)))
