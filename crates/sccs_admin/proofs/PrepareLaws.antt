-- What admin prepares, from its two parts.
use Rattle.std.proofs.Common.{◌≡◌, ℕ, false, List, [], map, drop, Option, None, Some, IfOk, IfSome, IsSome, Result, Ok}
use Rattle.std.proofs.Common.{Err, refl, sym, ap, subst, ◌∙◌}
use Rattle.std.specs.Str.{bytes_eq}
use Rattle.sccs_base.specs.Cut.{text_of}
use Rattle.sccs_base.specs.Name.{IsSFileName, p_file, q_file, x_file, y_file, z_file}
use Rattle.sccs_base.proofs.Gifts.{gives_none, some_none}
use Rattle.sccs_disk.specs.Calls.{IsThere}
use Rattle.sccs_disk.specs.Files.{Content, View, put}
use Rattle.sccs_disk.specs.Told.{Told, seen}
use Rattle.sccs_disk.proofs.Puts.{put_other, put_same}
use Rattle.sccs_name_files.specs.StepFiles.{Files, Moves, is_working, l_file, look}
use Rattle.sccs_sid.specs.declared.moments.Stamp.{Stamp}
use Rattle.sccs_sid.specs.declared.refusals.Refusal.{Refusal}
use Rattle.sccs_sid.specs.declared.refusals.StepFault.{StepFault}
use Rattle.sccs_sid.specs.declared.refusals.StepFault.TheVariants.{Refused, Memory, ReadFault, WriteFault, DiskFault}
use Rattle.sccs_sid.specs.Reading.{◌>>=◌}
use Rattle.sccs_steps.specs.Actions.{RefusesWithin, quiet_checks}
use Rattle.sccs_steps.specs.Calls.{world}
use Rattle.sccs_steps.specs.StepEffects.{Outcome}
use Rattle.sccs_store.specs.Commits.{Becomes, Needs, chosen, files_after, replaced}
use Rattle.sccs_store.specs.declared.new_files.NewFile.{NewFile}
use Rattle.sccs_crash_points.proofs.FileNames.{from_g, from_s, no_x}
use Rattle.sccs_store.proofs.Working.{made_moves, made_there, moves_wider}
use Rattle.sccs_changes.specs.Changes.{CouldPrepare, IsQuiet, IsReady, IsUnmade, Prepares, PreparesChange, plan_of}
use Rattle.sccs_changes.specs.Changes.{unlocked}
use Rattle.sccs_changes.specs.declared.prepared.Prepared.{Prepared}
use Rattle.sccs_changes.proofs.Taken.{x_alone}
use Rattle.sccs_words.specs.declared.commands.AdminWords.{AdminWords}
use Rattle.sccs_admin.specs.AdminStep.{admin_change, admin_checks, admin_outcome, found_texts, makes, named_in}
use Rattle.sccs_admin.specs.NewFiles.{new_content}
use Rattle.sccs_admin.specs.Parts.{AnswersTexts, FindsTexts, IsNewSfile, WritesTexts}
use Rattle.sccs_admin.specs.Rules.{new_rules}
use Rattle.sccs_admin.specs.declared.finding.NewTexts.{NewTexts}
use Rattle.sccs_admin.specs.declared.rules.NewRules.{NewRules}

-- the s-file as it was before the lock
pub s_unlocked : (n : List ℕ) (v : View) → IsSFileName n → unlocked n v n ≡ v n
s_unlocked n v sfile = put_other v (z_file n) n None (from_s_z n sfile)
  where
    from_s_z : (n : List ℕ) → IsSFileName n → bytes_eq (z_file n) n ≡ false
    from_s_z n sfile = from_s 122 n sfile refl

-- the step, from the texts that were found
abbrev from_texts : AdminWords → Stamp → Files → NewTexts → Outcome
from_texts words stamp f texts = new_rules words texts >>= λ rules. makes (new_content words stamp rules
    (text_of texts.text)) f

found_outcome : (words : AdminWords) (stamp : Stamp) (n i : List ℕ) (named : List (Option Content)) (f : Files)
    (texts : NewTexts) → found_texts words i named f.s ≡ Ok texts → admin_outcome words stamp n i named f
    ≡ from_texts words stamp f texts
unfolding admin_outcome
found_outcome words stamp n i named f texts is = rw is refl

refused_outcome : (words : AdminWords) (stamp : Stamp) (n i : List ℕ) (named : List (Option Content)) (f : Files)
    (refusal : Refusal) → found_texts words i named f.s ≡ Err refusal → admin_outcome words stamp n i named f
    ≡ Err refusal
unfolding admin_outcome
refused_outcome words stamp n i named f refusal is = rw is refl

-- what was found, as the step sees it
as_seen : (words : AdminWords) (i n : List ℕ) (v : View) (r : Result NewTexts Refusal) → IsSFileName n
    → found_texts words i (map (unlocked n v) (named_in words)) (v n) ≡ r
    → found_texts words i (map (unlocked n v) (named_in words)) (look (unlocked n v) n).s ≡ r
as_seen words i n v r sfile is = ap (λ (o : Option Content). found_texts words i (map (unlocked n v) (named_in words))
    o) (s_unlocked n v sfile) ∙ is

pub unmade : (n text : List ℕ) (v : View) (o2 : Option View) (out err : Option (List ℕ)) → Moves (bytes_eq (x_file n))
    (λ u. u) (Some v) o2 → IsUnmade n text (world (Some v) out err) (world o2 out err)
unmade n text v o2 out err moves =
    record {
      view = moves_wider (bytes_eq (x_file n)) (is_working n) (Some v) o2 (no_x n) moves;
      out =
          some_none out text;
    }

-- the texts weren't found
not_found : (words : AdminWords) (stamp : Stamp) (fault : StepFault) (n i : List ℕ) (v : View)
    (out err : Option (List ℕ)) → IsSFileName n
    → AnswersTexts (found_texts words i (map (unlocked n v) (named_in words)) (v n)) (Err fault)
    → Prepares (Err fault) n (admin_outcome words stamp n i (map (unlocked n v) (named_in words))
    (look (unlocked n v) n)) (world (Some v) out err) (world (Some v) out err)
not_found words stamp (Refused refusal) n i v out err sfile answers = (
  refused_outcome words stamp n i _ (look (unlocked n v) n) refusal
      (as_seen words i n v (Err refusal) sfile answers),
  unmade n [] v (Some v) out err (λ k h. refl),
)
not_found words stamp Memory n i v out err sfile answers = unmade n _ v (Some v) out err (λ k h. refl)
not_found words stamp ReadFault n i v out err sfile answers = unmade n _ v (Some v) out err (λ k h. refl)
not_found words stamp WriteFault n i v out err sfile answers = unmade n _ v (Some v) out err (λ k h. refl)
not_found words stamp DiskFault n i v out err sfile answers = unmade n _ v (Some v) out err (λ k h. refl)

pub find_fails : (words : AdminWords) (stamp : Stamp) (fault : StepFault) (n : List ℕ) (left : Option (List ℕ))
    (o o2 : Option View) (out err : Option (List ℕ)) → IsSFileName n → o2 ≡ o → FindsTexts words (Err fault) n left o
    → PreparesChange (admin_change words stamp) (Err fault) n left (world o out err) (world o2 out err)
find_fails words stamp fault n left None o2 out err sfile same finds = tt
find_fails words stamp fault n left (Some v) o2 out err sfile same finds = λ i heard.
    subst (λ (w : Option View). Prepares (Err fault) n (admin_outcome words stamp n i
    (map (unlocked n v) (named_in words)) (look (unlocked n v) n)) (world (Some v) out err) (world w out err))
    (sym same)
    (not_found words stamp fault n i v out err sfile (finds i heard))

-- ---- the x-file is written

abbrev pub files_of : Option Content → Option Content → Option Content → Option Content → Option Files
files_of s p g l = Some (record { s = s; p = p; z = None; g = g; l = l })

pub new_files : (n : List ℕ) (c : Content) (v : View) (p : Prepared) → IsSFileName n → IsNewSfile p
    → files_of (Some c) (unlocked n v (p_file n)) (unlocked n v (drop 2 n)) (unlocked n v (l_file n)) ≡ Some
    (files_after n (plan_of p) (put v (x_file n) (Some c)))
new_files n c v p sfile new =
    ap (λ (o : Option Content). files_of (Some c) o (unlocked n v (drop 2 n)) (unlocked n v (l_file n)))
    (put_other v (z_file n) (p_file n) None refl ∙ sym (put_other v (x_file n) (p_file n) (Some c) refl))
    ∙ (ap (λ (o : Option Content). files_of (Some c) (u (p_file n)) o (unlocked n v (l_file n)))
    (put_other v (z_file n) (drop 2 n) None (from_g 122 n sfile) ∙ sym (put_other v (x_file n) (drop 2 n) (Some c)
    (from_g 120 n sfile)))
    ∙ (ap (λ (o : Option Content). files_of o (u (p_file n)) (u (drop 2 n)) (unlocked n v (l_file n)))
    (sym (put_same v (x_file n) (Some c)) ∙ ap (λ b. chosen (replaced b) (u (x_file n)) (u n)) (sym new.s))
    ∙ (ap (λ (f : NewFile). files_of (chosen (replaced p.new_s) (u (x_file n)) (u n))
    (chosen f (u (q_file n)) (u (p_file n))) (u (drop 2 n)) (unlocked n v (l_file n))) (sym new.p_state)
    ∙ (ap (λ (f : NewFile). files_of (chosen (replaced p.new_s) (u (x_file n)) (u n)) (chosen p.new_p (u (q_file n))
    (u (p_file n))) (chosen f (u (y_file n)) (u (drop 2 n))) (unlocked n v (l_file n))) (sym new.g)
    ∙ ap (λ (o : Option Content). files_of (chosen (replaced p.new_s) (u (x_file n)) (u n))
    (chosen p.new_p (u (q_file n)) (u (p_file n))) (chosen p.new_g (u (y_file n)) (u (drop 2 n))) o)
    (put_other v (z_file n) (l_file n) None refl ∙ sym (put_other v (x_file n) (l_file n) (Some c) refl))))))
  where
    u : View
    u = put v (x_file n) (Some c)

made_outcome : (words : AdminWords) (stamp : Stamp) (f : Files) (texts : NewTexts) (rules : NewRules)
    → new_rules words texts ≡ Ok rules → from_texts words stamp f texts ≡ makes (new_content words stamp rules
    (text_of texts.text)) f
made_outcome words stamp f texts rules is = ap (λ (r : Result NewRules Refusal). r >>= λ rules. makes
    (new_content words stamp rules (text_of texts.text)) f) is

bad_outcome : (words : AdminWords) (stamp : Stamp) (f : Files) (texts : NewTexts) (refusal : Refusal)
    → new_rules words texts ≡ Err refusal → from_texts words stamp f texts ≡ Err refusal
bad_outcome words stamp f texts refusal is = ap (λ (r : Result NewRules Refusal). r >>= λ rules. makes
    (new_content words stamp rules (text_of texts.text)) f) is

text_prepared : (words : AdminWords) (stamp : Stamp) (r : Result Prepared StepFault) (texts : NewTexts) (n i : List ℕ)
    (v : View) (o2 : Option View) (out err : Option (List ℕ)) → IsSFileName n
    → found_texts words i (map (unlocked n v) (named_in words)) (v n) ≡ Ok texts → WritesTexts r words stamp texts n
    (Some v) o2
    → Prepares r n (admin_outcome words stamp n i (map (unlocked n v) (named_in words)) (look (unlocked n v) n))
    (world (Some v) out err) (world o2 out err)
text_prepared words stamp (Ok p) texts n i v o2 out err sfile found writes =
    let f : Files = look (unlocked n v) n in
    let c : Content = new_content words stamp writes.1.0 (text_of texts.text) in
    record {
      effect = record { new = files_of (Some c) f.p f.g f.l; text = []; out = []; err = []; status = 0 };
      is = found_outcome words stamp n i _ f texts (as_seen words i n v (Ok texts) sfile found)
          ∙ made_outcome words stamp f texts writes.1.0 writes.1.1;
      status = refl;
      report = sym writes.0.report;
      message = sym writes.0.message;
      view = moves_wider (bytes_eq (x_file n)) (is_working n) (Some v) o2 (no_x n)
          (made_moves (x_file n) c (Some v) o2 writes.1.2);
      working = x_alone n p (Some v) o2 writes.0.s (made_moves (x_file n) c (Some v) o2 writes.1.2);
      files = subst (λ (o : Option View). IfSome o (λ u. files_of (Some c) f.p f.g f.l ≡ Some
          (files_after n (plan_of p) u))) (sym writes.1.2) (new_files n c v p sfile writes.0);
      out = gives_none out;
    }
text_prepared words stamp (Err (Refused refusal)) texts n i v o2 out err sfile found writes = (
  found_outcome words stamp n i _ (look (unlocked n v) n) texts (as_seen words i n v (Ok texts) sfile found)
      ∙ bad_outcome words stamp (look (unlocked n v) n) texts refusal writes.0,
  unmade n [] v o2 out err (subst (λ (o : Option View). Moves (bytes_eq (x_file n)) (λ u. u) (Some v) o) (sym writes.1)
      (λ k h. refl)),
)
text_prepared words stamp (Err Memory) texts n i v o2 out err sfile found writes = unmade n _ v o2 out err writes
text_prepared words stamp (Err ReadFault) texts n i v o2 out err sfile found writes = unmade n _ v o2 out err writes
text_prepared words stamp (Err WriteFault) texts n i v o2 out err sfile found writes = unmade n _ v o2 out err writes
text_prepared words stamp (Err DiskFault) texts n i v o2 out err sfile found writes = unmade n _ v o2 out err writes

pub found_prepares : (words : AdminWords) (stamp : Stamp) (r : Result Prepared StepFault) (texts : NewTexts)
    (n : List ℕ) (left : Option (List ℕ)) (o o1 o2 : Option View) (out err : Option (List ℕ)) → IsSFileName n → o1 ≡ o
    → FindsTexts words (Ok texts) n left o → WritesTexts r words stamp texts n o1 o2
    → PreparesChange (admin_change words stamp) r n left (world o out err) (world o2 out err)
found_prepares words stamp r texts n left None o1 o2 out err sfile same finds writes = tt
found_prepares words stamp r texts n left (Some v) o1 o2 out err sfile same finds writes = λ i heard.
    text_prepared words stamp r texts n i v o2 out err sfile (finds i heard)
    (subst (λ (w : Option View). WritesTexts r words stamp texts n w o2) same writes)

-- ---- what a commit needs, and what may come

pub there_after : (n : List ℕ) (k : List ℕ) (x : Content) (a b : Option View) → bytes_eq n k ≡ false
    → Becomes (λ v. put v n (Some x)) a b → IfSome a (λ (v : View). IsSome (v k))
    → IfSome b (λ (v : View). IsSome (v k))
there_after n k x None b other is there = subst (λ (o : Option View). IfSome o (λ (v : View). IsSome (v k))) (sym is) tt
there_after n k x (Some v) b other is there = subst (λ (o : Option View). IfSome o (λ (u : View). IsSome (u k)))
    (sym is) (subst IsSome (sym (put_other v n k (Some x) other)) there)

pub text_ready : (words : AdminWords) (stamp : Stamp) (r : Result Prepared StepFault) (texts : NewTexts) (n : List ℕ)
    (a b : Told) → IsThere (z_file n) a → WritesTexts r words stamp texts n (seen a) (seen b)
    → IfOk r (λ p. IsReady n p b)
text_ready words stamp (Ok p) texts n a b there writes =
    let c : Content = new_content words stamp writes.1.0 (text_of texts.text) in
    record {
      z = there_after (x_file n) (z_file n) c (seen a) (seen b) refl writes.1.2 there;
      s = subst (λ t. Needs (replaced t) (x_file n) n b) (sym writes.0.s) (made_there (x_file n) c a b writes.1.2);
      p_state = subst (λ f. Needs f (q_file n) (p_file n) b) (sym writes.0.p_state) tt;
      g = subst (λ f. Needs f (y_file n) (drop 2 n) b) (sym writes.0.g) tt;
    }
text_ready words stamp (Err fault) texts n a b there writes = tt

pub text_speaks : (words : AdminWords) (stamp : Stamp) (r : Result Prepared StepFault) (texts : NewTexts) (n : List ℕ)
    (a b : Option View) → WritesTexts r words stamp texts n a b → RefusesWithin admin_checks r
    → CouldPrepare (quiet_checks admin_checks) r
text_speaks words stamp (Ok p) texts n a b writes within =
    (record { new = None; text = []; out = []; err = []; status = 0 }, refl, refl, sym writes.0.message)
text_speaks words stamp (Err (Refused refusal)) texts n a b writes within = within refusal refl
text_speaks words stamp (Err Memory) texts n a b writes within = tt
text_speaks words stamp (Err ReadFault) texts n a b writes within = tt
text_speaks words stamp (Err WriteFault) texts n a b writes within = tt
text_speaks words stamp (Err DiskFault) texts n a b writes within = tt

pub text_quiet : (words : AdminWords) (stamp : Stamp) (r : Result Prepared StepFault) (texts : NewTexts) (n : List ℕ)
    (a b : Option View) → WritesTexts r words stamp texts n a b → IsQuiet r
text_quiet words stamp (Ok p) texts n a b writes = writes.0.report
text_quiet words stamp (Err fault) texts n a b writes = tt

pub there_still : (k : List ℕ) (a b : Told) → b ≡ a → IsThere k a → IsThere k b
there_still k a b same there = subst (λ t. IsThere k t) (sym same) there
