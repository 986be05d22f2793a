-- What a stop leaves of a new s-file: what its step asks of recovery.
use Rattle.std.proofs.Common.{◌≡◌, ℕ, List, Option, None, Some, IfOk, IfSome, Result, Ok, Err, refl, sym, ap, subst}
use Rattle.std.proofs.Common.{◌∙◌}
use Rattle.sccs_base.specs.Cut.{text_of}
use Rattle.sccs_base.specs.Name.{IsSFileName, p_file, q_file, x_file}
use Rattle.sccs_disk.specs.Files.{Content, View, put}
use Rattle.sccs_disk.specs.Images.{IsFirm}
use Rattle.sccs_disk.specs.Told.{Told, seen}
use Rattle.sccs_disk.proofs.Puts.{put_other}
use Rattle.sccs_name_files.specs.Touches.{Leaves}
use Rattle.sccs_crash_points.proofs.FileNames.{from_s}
use Rattle.sccs_crash_points.specs.Recovery.{IsSound}
use Rattle.sccs_pfile.specs.Recovered.{recovered_pfile}
use Rattle.sccs_sid.specs.declared.moments.Stamp.{Stamp}
use Rattle.sccs_sid.specs.declared.refusals.StepFault.{StepFault}
use Rattle.sccs_store.specs.Commits.{Becomes, chosen, files_after}
use Rattle.sccs_store.specs.Stops.{KeepsEntries, OnReplace}
use Rattle.sccs_store.specs.declared.new_files.NewFile.{NewFile}
use Rattle.sccs_store.specs.declared.new_files.NewFile.TheVariants.{Keep, Replace, Remove}
use Rattle.sccs_changes.specs.Changes.{plan_of}
use Rattle.sccs_steps.specs.StepStops.{ArePaired, IsPaired}
use Rattle.sccs_changes.specs.Stops.{IsFirmPrepared, SettlesEntries}
use Rattle.sccs_changes.specs.declared.prepared.Prepared.{Prepared}
use Rattle.sccs_changes.proofs.StopEnds.{plain_where}
use Rattle.sccs_words.specs.declared.commands.AdminWords.{AdminWords}
use Rattle.sccs_admin.specs.NewFiles.{new_content}
use Rattle.sccs_admin.specs.Parts.{IsNewSfile, WritesTexts}
use Rattle.sccs_admin.specs.declared.finding.NewTexts.{NewTexts}

where_replaced : (new : NewFile) (P : Type 0) → P → OnReplace new P
where_replaced Keep P holds = tt
where_replaced Replace P holds = holds
where_replaced Remove P holds = tt

-- the x-file is firm, and no q-file takes a place
pub new_firm : (n : List ℕ) (p : Prepared) (a b : Told) → IsNewSfile p → Leaves (IsFirm (x_file n)) a b
    → IsFirmPrepared n p a b
new_firm n p a b new firm = record {
  x_state = where_replaced (plan_of p).s (Leaves (IsFirm (x_file n)) a b) firm;
  q_state = subst (λ f. OnReplace f (Leaves (IsFirm (q_file n)) a b)) (sym new.p_state) tt;
}

-- recovery makes no p-file where there is none
none_made : (s : Option Content) → recovered_pfile s None ≡ None
none_made None = refl
none_made (Some s) = refl

none_kept : (s p : Option Content) → p ≡ None → recovered_pfile s p ≡ p
none_kept s p none = subst (λ (o : Option Content). recovered_pfile s o ≡ o) (sym none) (none_made s)

settled_at : (n : List ℕ) (p : Prepared) (u : View) → IsNewSfile p → u n ≡ None → IsPaired n u
    → KeepsEntries n (plan_of p) u × ArePaired (files_after n (plan_of p) u).s (files_after n (plan_of p) u).p
settled_at n p u new fresh paired =
    let same : (files_after n (plan_of p) u).p ≡ u (p_file n) =
    ap (λ (f : NewFile). chosen f (u (q_file n)) (u (p_file n))) new.p_state in
    let none : u (p_file n) ≡ None = paired fresh in (
      record {
        leaves =
            plain_where (plan_of p).s (recovered_pfile (files_after n (plan_of p) u).s (u (p_file n))
            ≡ (files_after n (plan_of p) u).p) (none_kept (files_after n (plan_of p) u).s (u (p_file n)) none
            ∙ sym same);
        sound = none_kept (files_after n (plan_of p) u).s (files_after n (plan_of p) u).p (same ∙ none);
      },
      λ gone. same ∙ none,
    )

pub settled_seen : (n : List ℕ) (p : Prepared) (x : Content) (a b : Option View) → IsSFileName n → IsNewSfile p
    → IfSome a (λ v. v n ≡ None) → Becomes (λ v. put v (x_file n) (Some x)) a b → IfSome b (λ v. IsPaired n v
    → IsSound n v → KeepsEntries n (plan_of p) v × ArePaired (files_after n (plan_of p) v).s
    (files_after n (plan_of p) v).p)
settled_seen n p x None b sfile new fresh is = subst (λ (o : Option View). IfSome o (λ v. IsPaired n v → IsSound n v
    → KeepsEntries n (plan_of p) v × ArePaired (files_after n (plan_of p) v).s (files_after n (plan_of p) v).p))
    (sym is) tt
settled_seen n p x (Some v) b sfile new fresh is =
    subst (λ (o : Option View). IfSome o (λ v. IsPaired n v → IsSound n v → KeepsEntries n (plan_of p) v
    × ArePaired (files_after n (plan_of p) v).s (files_after n (plan_of p) v).p)) (sym is)
    (λ paired sound. settled_at n p (put v (x_file n) (Some x)) new (put_other v (x_file n) n (Some x)
    (from_s 120 n sfile refl) ∙ fresh) paired)

pub text_settles : (words : AdminWords) (stamp : Stamp) (r : Result Prepared StepFault) (texts : NewTexts) (n : List ℕ)
    (o : Option View) (a b : Told) → IsSFileName n → seen a ≡ o → IfSome o (λ v. v n ≡ None)
    → WritesTexts r words stamp texts n (seen a) (seen b) → IfOk r (λ p. SettlesEntries n p b)
text_settles words stamp (Ok p) texts n o a b sfile same fresh writes =
    settled_seen n p (new_content words stamp writes.1.0 (text_of texts.text)) (seen a) (seen b) sfile writes.0
    (subst (λ (x : Option View). IfSome x (λ v. v n ≡ None)) (sym same) fresh) writes.1.2
text_settles words stamp (Err fault) texts n o a b sfile same fresh writes = tt
