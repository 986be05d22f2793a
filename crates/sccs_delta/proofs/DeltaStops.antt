-- What a stop leaves of a delta: what its step asks of recovery.
use Rattle.std.proofs.Common.{◌≡◌, ℕ, ◌-◌, Bool, true, false, ◌||◌, List, [], ◌∷◌, Option, None, Some, Ok, refl, sym}
use Rattle.std.proofs.Common.{ap, subst, ◌∙◌}
use Rattle.std.specs.Prelude.{All, remove, slice_get}
use Rattle.std.specs.List.{AllByRecursion, list_any}
use Rattle.std.proofs.lemmas.List.Elements.{recursion_from_All}
use Rattle.sccs_base.specs.Name.{p_file, q_file, x_file}
use Rattle.sccs_disk.specs.Files.{Content, View}
use Rattle.sccs_sid.specs.declared.moments.Stamp.{Stamp}
use Rattle.sccs_sid.specs.declared.sids.Sid.{Sid}
use Rattle.sccs_script_laws.specs.Places.{places}
use Rattle.sccs_script_laws.specs.declared.scripts.Order.{Order}
use Rattle.sccs_grammar.specs.File.{IsSFile}
use Rattle.sccs_history.specs.History.{IsHeader, IsSpelled, lives, same_sid}
use Rattle.sccs_history.specs.declared.headers.Header.{Header}
use Rattle.sccs_history.specs.declared.headers.Item.{Item}
use Rattle.sccs_history.specs.declared.headers.Record.{Record}
use Rattle.sccs_pfile.specs.Agreement.{Agrees}
use Rattle.sccs_pfile.specs.Entries.{IsEdit}
use Rattle.sccs_pfile.specs.Reading.{edits_of}
use Rattle.sccs_pfile.specs.Recovered.{pfile_of, recovered_pfile, table_of}
use Rattle.sccs_pfile.specs.declared.entries.Edit.{Edit}
use Rattle.sccs_changes.specs.PFiles.{bytes_or_none}
use Rattle.sccs_changes.specs.Pending.{AnswersPending}
use Rattle.sccs_changes.specs.declared.pending.Pending.{Pending}
use Rattle.sccs_records.specs.NewDeltas.{with_deltas}
use Rattle.sccs_records.specs.declared.new_deltas.NewDelta.{NewDelta}
use Rattle.sccs_script.specs.Checks.{HaveLines}
use Rattle.sccs_store.specs.Commits.{chosen, files_after, replaced}
use Rattle.sccs_store.specs.SealedFiles.{sealed}
use Rattle.sccs_store.specs.Stops.{KeepsEntries, OnChange}
use Rattle.sccs_changes.specs.Changes.{plan_of}
use Rattle.sccs_changes.specs.declared.prepared.Prepared.{Prepared}
use Rattle.sccs_delta.specs.NullDeltas.{null_deltas, serial_behind, skipped_by, with_nulls}
use Rattle.sccs_delta.proofs.DeltaReads.{delta_reads}
use Rattle.sccs_delta.proofs.MadeEntries.{HasMade, entry_goes, rest_stays}
use Rattle.sccs_delta.proofs.NullTables.{lives_nulls, nulls_apart}
use Rattle.sccs_changes.proofs.StopLaws.{table_is}
use Rattle.sccs_changes.proofs.PendingReads.{no_entry, pending_entries}
use Rattle.sccs_changes.proofs.Preparing.{was_read}

-- ---- null deltas make no entry's SID

made_each : (stamp : Stamp) (header : Header) (got : ℕ) (d : NewDelta) (e : Edit) (sids : List Sid) (edits : List Edit)
    → d.sid ≡ e.made → AllByRecursion (λ x. list_any (λ s. same_sid s x.made) sids ≡ false) edits
    → HasMade header.records (with_nulls header got (null_deltas stamp sids) d).records e edits
made_each stamp header got d e sids [] made apart = tt
made_each stamp header got d e sids (x ∷ edits) made apart = (
  ap (λ s. same_sid s x.made || lives (with_deltas header got (null_deltas stamp sids)).records x.made) made
      ∙ ap (λ b. same_sid e.made x.made || b) (lives_nulls stamp header got sids x.made
      ∙ ap (λ b. b || lives header.records x.made) apart.0),
  made_each stamp header got d e sids edits made apart.1,
)

pub delta_makes : (stamp : Stamp) (header : Header) (got : ℕ) (edits : List Edit) (e : Edit) (d : NewDelta)
    → d.sid ≡ e.made → HasMade header.records (with_nulls header got (null_deltas stamp (skipped_by header edits e))
    d).records e edits
delta_makes stamp header got edits e d made = made_each stamp header got d e (skipped_by header edits e) edits made
    (nulls_apart header e.got e.made edits)

-- ---- the commit of a delta

module _ (n : List ℕ) (old new : List Record) (edits : List Edit) (k : ℕ) (e : Edit) (x : Content)
    (table : table_of x.bytes ≡ Some new) (valid : AllByRecursion IsEdit edits) (agree : Agrees old edits)
    (at : slice_get edits k ≡ Some e) (more : HasMade old new e edits) where
  -- where the x-file has the new table, and the q-file the other entries
  pub keeps_entries : (p : Prepared) (c : Content) (u : View) → p.new_s ≡ true → u (x_file n) ≡ Some x
      → u (p_file n) ≡ Some c → edits_of c.bytes ≡ Ok edits
      → ((now : Option Content) → chosen p.new_p (u (q_file n)) now ≡ pfile_of (remove edits k))
      → KeepsEntries n (plan_of p) u
  keeps_entries p c u new_s x_is p_is read is = record {
    leaves = subst (λ (b : Bool). OnChange (replaced b) (recovered_pfile (files_after n (plan_of p) u).s (u (p_file n))
        ≡ (files_after n (plan_of p) u).p)) (sym new_s)
        (ap (λ (o : Option Content). recovered_pfile o (u (p_file n))) s_is
        ∙ (ap (recovered_pfile (Some x)) p_is ∙ (entry_goes x c old new edits k e table read agree at more
        ∙ sym (is (u (p_file n))))));
    sound =
        ap (λ (o : Option Content). recovered_pfile o (files_after n (plan_of p) u).p) s_is
        ∙ (ap (recovered_pfile (Some x)) (is (u (p_file n))) ∙ (rest_stays x old new edits k e table valid agree at more
        ∙ sym (is (u (p_file n)))));
  }
    where
      s_is : chosen (replaced p.new_s) (u (x_file n)) (u n) ≡ Some x
      s_is = ap (λ (b : Bool). chosen (replaced b) (u (x_file n)) (u n)) new_s ∙ x_is

-- Where a delta read these entries, its x-file has the new delta behind the null deltas, and a commit leaves the
-- other entries, recovery takes out its entry, and keeps the others.
pub delta_settles : (n : List ℕ) (x : Pending) (stamp : Stamp) (number got : ℕ) (edit : Edit) (d : NewDelta)
    (header : Header) (items : List Item) (p : Prepared) (v u : View)
    → AnswersPending (v n) (v (p_file n)) (Ok x) → All IsEdit x.edits → Agrees x.front.header.records x.edits
    → slice_get x.edits (number - 1) ≡ Some edit → d.sid ≡ edit.made
    → header ≡ with_nulls x.front.header got (null_deltas stamp (skipped_by x.front.header x.edits edit)) d
    → IsSFile (sealed header items).bytes header items
    → u (p_file n) ≡ v (p_file n) → u (x_file n) ≡ Some (sealed header items) → p.new_s ≡ true
    → ((old : Option Content) → chosen p.new_p (u (q_file n)) old ≡ pfile_of (remove x.edits (number - 1)))
    → KeepsEntries n (plan_of p) u
delta_settles n x stamp number got edit d header items p v u read valid agree at made is whole same x_is new_s
    chosen_is =
    by (v (p_file n)) refl
  where
    new_table : List Record
    new_table = (with_nulls x.front.header got (null_deltas stamp (skipped_by x.front.header x.edits edit)) d).records

    read_entries : (o : Option Content) → v (p_file n) ≡ o → edits_of (bytes_or_none o) ≡ Ok x.edits
    read_entries o o_is = ap (λ q. edits_of (bytes_or_none q)) (sym o_is) ∙ pending_entries (v n) (v (p_file n))
        (record { parsed = read.0; edits = x.edits }) read.2

    by : (o : Option Content) → v (p_file n) ≡ o → KeepsEntries n (plan_of p) u
    by None o_is = absurd (no_entry x.edits (number - 1) edit (read_entries None o_is) at)
    by (Some c) o_is =
        keeps_entries n x.front.header.records new_table x.edits (number - 1) edit (sealed header items)
        (table_is (sealed header items) (record { header = header; items = items }) whole
        ∙ ap (λ (h : Header). Some h.records) is)
        (recursion_from_All IsEdit x.edits valid) agree at (delta_makes stamp x.front.header got x.edits edit d made)
        p c u new_s x_is (same ∙ o_is) (read_entries (Some c) o_is) chosen_is

-- The same of an s-file that was read: where the header with the new delta keeps the rules and has a spelling, and
-- the x-file has the items of the script among those that were read.
pub delta_settles_read : (n : List ℕ) (x : Pending) (stamp : Stamp) (number got : ℕ) (edit : Edit) (d : NewDelta)
    (set : List ℕ) (orders : List Order) (p : Prepared) (v u : View) (read : AnswersPending (v n) (v (p_file n)) (Ok x))
    → IsHeader x.front.header → All IsEdit x.edits → Agrees x.front.header.records x.edits
    → slice_get x.edits (number - 1) ≡ Some edit → d.sid ≡ edit.made
    → IsHeader (with_nulls x.front.header got (null_deltas stamp (skipped_by x.front.header x.edits edit)) d)
    → IsSpelled (with_nulls x.front.header got (null_deltas stamp (skipped_by x.front.header x.edits edit)) d)
    → HaveLines orders
    → u (p_file n) ≡ v (p_file n)
    → u (x_file n) ≡ Some (sealed (with_nulls x.front.header got
    (null_deltas stamp (skipped_by x.front.header x.edits edit)) d) (places read.0.items set orders
    (serial_behind x.front.header got (null_deltas stamp (skipped_by x.front.header x.edits edit)))))
    → p.new_s ≡ true → ((old : Option Content) → chosen p.new_p (u (q_file n)) old ≡ pfile_of
    (remove x.edits (number - 1))) → KeepsEntries n (plan_of p) u
delta_settles_read n x stamp number got edit d set orders p v u read old valid agree at made keeps spelled new same x_is
    new_s chosen_is =
    delta_settles n x stamp number got edit d (with_nulls x.front.header got nulls d) (places read.0.items set orders
    (serial_behind x.front.header got nulls)) p v u read valid agree at made refl
    (delta_reads (bytes_or_none (v n)) x.front.header read.0.items got nulls d set orders
    (was_read (v n) (v (p_file n)) x read) old keeps spelled new)
    same x_is new_s chosen_is
  where
    nulls : List NewDelta
    nulls = null_deltas stamp (skipped_by x.front.header x.edits edit)
