-- What a stop leaves of a removal: what its step asks of recovery.
use Rattle.std.proofs.Common.{◌≡◌, ℕ, List, Option, None, Some, Result, Ok, Err, refl, sym, ap, subst, ◌∙◌}
use Rattle.std.specs.Prelude.{IfOk, IfSome}
use Rattle.std.specs.Str.{bytes_eq}
use Rattle.sccs_base.specs.Name.{IsSFileName, p_file, q_file, x_file}
use Rattle.sccs_disk.specs.Files.{Content, View, put}
use Rattle.sccs_disk.specs.Told.{Told, seen}
use Rattle.sccs_disk.proofs.Puts.{put_same}
use Rattle.sccs_sid.specs.declared.moments.Stamp.{Stamp}
use Rattle.sccs_sid.specs.declared.sids.Sid.{Sid}
use Rattle.sccs_sid.specs.declared.refusals.StepFault.{StepFault}
use Rattle.sccs_name_files.specs.StepFiles.{Moves}
use Rattle.sccs_history.specs.History.{IsHeader, IsSpelled}
use Rattle.sccs_history.specs.Removal.{dropped}
use Rattle.sccs_history.specs.declared.headers.Header.{Header}
use Rattle.sccs_history.specs.declared.headers.Item.{Item}
use Rattle.sccs_history.specs.declared.headers.Record.{Record}
use Rattle.sccs_grammar.specs.File.{IsSFile}
use Rattle.sccs_table.specs.FrontFile.{IsPlaced}
use Rattle.sccs_pfile.specs.Agreement.{Agrees}
use Rattle.sccs_pfile.specs.Reading.{edits_of}
use Rattle.sccs_pfile.specs.Recovered.{recovered_pfile, table_of}
use Rattle.sccs_pfile.specs.declared.entries.Edit.{Edit}
use Rattle.sccs_pfile.proofs.Recovering.{nothing_drops}
use Rattle.sccs_steps.specs.StepStops.{ArePaired}
use Rattle.sccs_store.specs.Commits.{chosen, files_after, replaced}
use Rattle.sccs_store.specs.SealedFiles.{sealed}
use Rattle.sccs_store.specs.Stops.{KeepsEntries, OnChange}
use Rattle.sccs_store.specs.declared.new_files.NewFile.{NewFile}
use Rattle.sccs_changes.specs.Changes.{plan_of}
use Rattle.sccs_changes.specs.Stops.{SettlesEntries}
use Rattle.sccs_changes.specs.declared.prepared.Prepared.{Prepared}
use Rattle.sccs_changes.specs.PFiles.{bytes_or_none}
use Rattle.sccs_changes.specs.declared.pending.Pending.{Pending}
use Rattle.sccs_changes.proofs.StopLaws.{table_is}
use Rattle.sccs_changes.proofs.PendingReads.{pending_entries}
use Rattle.sccs_rmdel.specs.Removed.{removed_records, without_delta}
use Rattle.sccs_rmdel.proofs.Edits.{agreement_kept}
use Rattle.sccs_rmdel.specs.Writing.{FindsRemovable, IsRewrite}
use Rattle.sccs_rmdel.proofs.CheckLaws.{removable_is}
use Rattle.sccs_rmdel.proofs.PrepareLaws.{Writes, written}
use Rattle.sccs_rmdel.proofs.RemovalReads.{removal_reads}
use Rattle.sccs_changes.proofs.Preparing.{IsRead, was_read, settles_told}

-- a p-file whose entries agree with the new table stays
entries_stay : (c : Content) (o : Option Content) (records : List Record) (edits : List Edit)
    → table_of c.bytes ≡ Some records → edits_of (bytes_or_none o) ≡ Ok edits → Agrees records edits
    → recovered_pfile (Some c) o ≡ o
entries_stay c None records edits table read agree = refl
entries_stay c (Some p) records edits table read agree = nothing_drops c p records edits table read agree

keeps_entries : (n : List ℕ) (p : Prepared) (c : Content) (u : View) → IsRewrite p → u (x_file n) ≡ Some c
    → recovered_pfile (Some c) (u (p_file n)) ≡ u (p_file n) → KeepsEntries n (plan_of p) u
    × ArePaired (files_after n (plan_of p) u).s (files_after n (plan_of p) u).p
keeps_entries n p c u new x stays = (
  record {
    leaves = subst (λ b. OnChange (replaced b) (recovered_pfile (files_after n (plan_of p) u).s (u (p_file n))
        ≡ (files_after n (plan_of p) u).p)) (sym new.new_s) (recovered ∙ sym p_is);
    sound = ap (recovered_pfile (files_after n (plan_of p) u).s) p_is ∙ (recovered ∙ sym p_is);
  },
  λ gone. absurd (none_some (sym s_is ∙ gone)),
)
  where
    s_is : (files_after n (plan_of p) u).s ≡ Some c
    s_is = ap (λ b. chosen (replaced b) (u (x_file n)) (u n)) new.new_s ∙ x

    p_is : (files_after n (plan_of p) u).p ≡ u (p_file n)
    p_is = ap (λ (f : NewFile). chosen f (u (q_file n)) (u (p_file n))) new.new_p

    recovered : recovered_pfile (files_after n (plan_of p) u).s (u (p_file n)) ≡ u (p_file n)
    recovered = ap (λ (o : Option Content). recovered_pfile o (u (p_file n))) s_is ∙ stays

    none_some : Some c ≡ None → ⊥
    none_some is = cc

settled : (sid : Sid) (stamp : Stamp) (n : List ℕ) (x : Pending) (serial : ℕ) (p : Prepared) (a b : Told) (v u : View)
    → seen a ≡ Some v → seen b ≡ Some u → u (p_file n) ≡ v (p_file n) → (read : IsRead n v x) → IsPlaced x.front
    → IsHeader x.front.header → IsSpelled x.front.header
    → Agrees x.front.header.records x.edits → FindsRemovable sid stamp x.front.header x.edits (Ok serial) → IsRewrite p
    → Writes n x serial (Ok p) a b → KeepsEntries n (plan_of p) u × ArePaired (files_after n (plan_of p) u).s
    (files_after n (plan_of p) u).p
settled sid stamp n x serial p a b v u here there same read placed rules spelled agree finds new writes =
    let header : Header = without_delta serial x.front.header in
    let items : List Item = dropped serial read.0.items in
    let x_is : Some u ≡ Some (put v (x_file n) (Some (sealed header items))) = sym there
    ∙ written n x serial (Ok p) a b v here read placed writes in
    let u_is : u ≡ put v (x_file n) (Some (sealed header items)) = cc in
    let is = removable_is sid stamp x.front.header x.edits finds.0 finds.1 in
    let kept : Agrees header.records x.edits = subst (λ m. Agrees (removed_records m x.front.header.records) x.edits)
    finds.2 (agreement_kept x.front.header.records sid finds.0 x.edits rules.rules.table is.found agree is.free) in
    let whole : IsSFile (sealed header items).bytes header items = removal_reads (bytes_or_none (v n)) x.front.header
    read.0.items serial (was_read (v n) (v (p_file n)) x read) rules spelled in
    let entries : edits_of (bytes_or_none (v (p_file n))) ≡ Ok x.edits = pending_entries (v n) (v (p_file n))
    (record { parsed = read.0; edits = x.edits }) read.2 in
    keeps_entries n p (sealed header items) u new (ap (λ (w : View). w (x_file n)) u_is ∙ put_same v (x_file n)
    (Some (sealed header items)))
    (entries_stay (sealed header items) (u (p_file n)) header.records x.edits (table_is (sealed header items)
    (record { header = header; items = items }) whole) (ap (λ (o : Option Content). edits_of (bytes_or_none o)) same
    ∙ entries) kept)

pub removal_settles : (sid : Sid) (stamp : Stamp) (n : List ℕ) (x : Pending) (serial : ℕ)
    (r : Result Prepared StepFault) (o : Option View) (a b : Told) → IsSFileName n → seen a ≡ o
    → IfSome o (λ (v : View). IsRead n v x) → IsPlaced x.front → IsHeader x.front.header → IsSpelled x.front.header
    → Agrees x.front.header.records x.edits → FindsRemovable sid stamp x.front.header x.edits (Ok serial)
    → Moves (bytes_eq (x_file n)) (λ w. w) (seen a) (seen b) → IfOk r IsRewrite → Writes n x serial r a b
    → IfOk r (λ p. SettlesEntries n p b)
removal_settles sid stamp n x serial (Err fault) o a b sfile same read placed rules spelled agree finds moves new
    writes = tt
removal_settles sid stamp n x serial (Ok p) o a b sfile same read placed rules spelled agree finds moves new writes =
    settles_told n p (bytes_eq (x_file n)) a b moves (λ v u is_a is_b alike.
    settled sid stamp n x serial p a b v u is_a is_b (alike (p_file n) refl)
    (subst (λ (w : Option View). IfSome w (λ (y : View). IsRead n y x)) (sym same ∙ is_a) read) placed rules spelled
    agree finds new writes)
