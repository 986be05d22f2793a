-- New entries that are prepared, and what a commit makes of them.
use Rattle.std.proofs.Common.{◌≡◌, ℕ, zero, suc, false, List, [], ◌∷◌, All, arith, drop, insert, remove, length, Option}
use Rattle.std.proofs.Common.{None, Some, Ok, refl, sym, ap, subst, ◌∙◌}
use Rattle.std.specs.Prelude.{IfSome, IsSome}
use Rattle.std.specs.Str.{bytes_eq}
use Rattle.sccs_base.specs.Name.{IsSFileName, p_file, q_file, x_file, y_file, z_file}
use Rattle.sccs_base.proofs.Gifts.{gives_none}
use Rattle.sccs_disk.specs.Calls.{IsThere}
use Rattle.sccs_disk.specs.Files.{Content, View, put}
use Rattle.sccs_disk.specs.Told.{Told, seen}
use Rattle.sccs_disk.proofs.Puts.{put_other, put_same}
use Rattle.sccs_name_files.specs.StepFiles.{Files, Moves, is_working, l_file, look}
use Rattle.sccs_pfile.specs.Recovered.{pfile_of, written_pfile}
use Rattle.sccs_pfile.specs.declared.entries.Edit.{Edit}
use Rattle.sccs_steps.specs.Calls.{world}
use Rattle.sccs_steps.specs.StepEffects.{Outcome}
use Rattle.sccs_store.specs.Commits.{Becomes, Needs, chosen, files_after, replaced}
use Rattle.sccs_store.specs.declared.new_files.NewFile.{NewFile}
use Rattle.sccs_store.specs.declared.new_files.NewFile.TheVariants.{Keep, Replace, Remove}
use Rattle.sccs_crash_points.proofs.FileNames.{from_g, from_s, no_q}
use Rattle.sccs_store.proofs.Working.{moves_wider}
use Rattle.sccs_changes.specs.Changes.{IsPrepared, IsReady, IsTakenOrGone, plan_of, unlocked}
use Rattle.sccs_changes.specs.declared.prepared.Prepared.{Prepared}
use Rattle.sccs_changes.proofs.Taken.{untouched}
use Rattle.sccs_changes.specs.NewEntries.{IsOfEntries, PreparesEntries, with_entries}

-- ---- what is prepared

abbrev files_of : Option Content → Option Content → Option Content → Option Content → Option Files
files_of s p g l = Some (record { s = s; p = p; z = None; g = g; l = l })

files_are : (n : List ℕ) (edits : List Edit) (g : Option Content) (p : Prepared) (v u : View) → IsSFileName n
    → p.new_s ≡ false → ((k : List ℕ) → bytes_eq (q_file n) k ≡ false → u k ≡ v k) → ((old : Option Content)
    → chosen p.new_p (u (q_file n)) old ≡ pfile_of edits)
    → ((y : Option Content) → chosen p.new_g y (v (drop 2 n)) ≡ g) → files_of (unlocked n v n) (pfile_of edits) g
    (unlocked n v (l_file n)) ≡ Some (files_after n (plan_of p) u)
files_are n edits g p v u sfile s same entries left =
    ap (λ (o : Option Content). files_of o (pfile_of edits) g (unlocked n v (l_file n))) (put_other v (z_file n) n None
    (from_s 122 n sfile refl) ∙ (sym (same n (from_s 113 n sfile refl))
    ∙ ap (λ b. chosen (replaced b) (u (x_file n)) (u n)) (sym s)))
    ∙ (ap (λ (o : Option Content). files_of (chosen (replaced p.new_s) (u (x_file n)) (u n)) o g
    (unlocked n v (l_file n))) (sym (entries (u (p_file n))))
    ∙ (ap (λ (o : Option Content). files_of (chosen (replaced p.new_s) (u (x_file n)) (u n))
    (chosen p.new_p (u (q_file n)) (u (p_file n))) o (unlocked n v (l_file n)))
    (sym (left (u (y_file n))) ∙ ap (λ (o : Option Content). chosen p.new_g (u (y_file n)) o)
    (sym (same (drop 2 n) (from_g 113 n sfile))))
    ∙ ap (λ (o : Option Content). files_of (chosen (replaced p.new_s) (u (x_file n)) (u n))
    (chosen p.new_p (u (q_file n)) (u (p_file n))) (chosen p.new_g (u (y_file n)) (u (drop 2 n))) o)
    (put_other v (z_file n) (l_file n) None refl ∙ sym (same (l_file n) refl))))

pub entries_prepared : (n : List ℕ) (edits : List Edit) (g : Option Content) (report : List ℕ) (p : Prepared)
    (o : Outcome) (v : View) (o2 : Option View) (out err : Option (List ℕ)) → IsSFileName n
    → o ≡ Ok (with_entries (look (unlocked n v) n) edits g report) → IsOfEntries p report
    → Moves (bytes_eq (q_file n)) (λ w. w) (Some v) o2 → IfSome o2 (λ (u : View). (old : Option Content)
    → chosen p.new_p (u (q_file n)) old ≡ pfile_of edits) → ((y : Option Content) → chosen p.new_g y (v (drop 2 n))
    ≡ g)
    → IfSome o2 (λ (u : View). IsTakenOrGone p.new_p (v (q_file n)) (u (q_file n)))
    → IsPrepared n p o (world (Some v) out err) (world o2 out err)
entries_prepared n edits g report p o v None out err sfile is of moves entries left taken = absurd moves
entries_prepared n edits g report p o v (Some u) out err sfile is of moves entries left taken = record {
  effect = with_entries (look (unlocked n v) n) edits g report;
  is = is;
  status = refl;
  report = sym of.report_is;
  message = sym of.message;
  view = moves_wider (bytes_eq (q_file n)) (is_working n) (Some v) (Some u) (no_q n) moves;
  working = record {
    x = untouched (replaced p.new_s) _ _ (moves (x_file n) refl);
    q = taken;
    y =
        untouched p.new_g _ _ (moves (y_file n) refl);
  };
  files = files_are n edits g p v u sfile of.s moves entries left;
  out = gives_none out;
}

-- ---- what a commit needs

there_moved : (n k : List ℕ) (a b : Option View) → bytes_eq n k ≡ false → Moves (bytes_eq n) (λ v. v) a b
    → IfSome a (λ (v : View). IsSome (v k)) → IfSome b (λ (v : View). IsSome (v k))
there_moved n k None b other moves there = subst (λ (o : Option View). IfSome o (λ (v : View). IsSome (v k)))
    (sym moves) tt
there_moved n k (Some v) None other moves there = absurd moves
there_moved n k (Some v) (Some u) other moves there = subst IsSome (sym (moves k other)) there

needs_moved : (n y : List ℕ) (new : NewFile) (a b : Told) → IsSFileName n → bytes_eq (q_file n) y ≡ false
    → Moves (bytes_eq (q_file n)) (λ v. v) (seen a) (seen b) → Needs new y (drop 2 n) a → Needs new y (drop 2 n) b
needs_moved n y Keep a b sfile other moves needs = tt
needs_moved n y Replace a b sfile other moves needs = there_moved (q_file n) y (seen a) (seen b) other moves needs
needs_moved n y Remove a b sfile other moves needs = there_moved (q_file n) (drop 2 n) (seen a) (seen b)
    (from_g 113 n sfile) moves needs

pub entries_ready : (n : List ℕ) (edits : List Edit) (p : Prepared) (report : List ℕ) (a b : Told) → IsSFileName n
    → IsOfEntries p report → IsThere (z_file n) a → Moves (bytes_eq (q_file n)) (λ v. v) (seen a) (seen b)
    → PreparesEntries n edits p.new_p a b → (edits ≡ [] → IsThere (p_file n) a) → Needs p.new_g (y_file n) (drop 2 n) a
    → IsReady n p b
entries_ready n edits p report a b sfile of z moves entries there g = record {
  z = there_moved (q_file n) (z_file n) (seen a) (seen b) refl moves z;
  s = subst (λ t. Needs (replaced t) (x_file n) n b) (sym of.s) tt;
  p_state = entries.needs there;
  g = needs_moved n (y_file n) p.new_g a b sfile refl moves g;
}

-- ---- the p-file

pub some_chosen : (n : List ℕ) (edits : List Edit) (a b : Told) → (length edits ≡ 0 → ⊥)
    → Becomes (λ v. put v (q_file n) (Some (written_pfile edits))) (seen a) (seen b)
    → PreparesEntries n edits Replace a b
some_chosen n [] a b some is = absurd (some refl)
some_chosen n (e ∷ edits) a b some is = record {
  chosen_is = chosen_q (seen a) (seen b) is;
  needs = λ none. there (seen a) (seen b) is;
  taken = taken_q (seen a) (seen b);
}
  where
    chosen_q : (o o2 : Option View) → Becomes (λ v. put v (q_file n) (Some (written_pfile (e ∷ edits)))) o o2
        → IfSome o2 (λ (v : View). (old : Option Content) → v (q_file n) ≡ pfile_of (e ∷ edits))
    chosen_q None o2 is = subst (λ (x : Option View). IfSome x (λ (v : View). (old : Option Content)
        → v (q_file n) ≡ pfile_of (e ∷ edits))) (sym is) tt
    chosen_q (Some v) o2 is = subst (λ (x : Option View). IfSome x (λ (u : View). (old : Option Content)
        → u (q_file n) ≡ pfile_of (e ∷ edits))) (sym is) (λ old. put_same v (q_file n)
        (Some (written_pfile (e ∷ edits))))

    taken_q : (o o2 : Option View)
        → IfSome o (λ (u : View). IfSome o2 (λ (v : View). IsTakenOrGone Replace (u (q_file n)) (v (q_file n))))
    taken_q None o2 = tt
    taken_q (Some u) None = tt
    taken_q (Some u) (Some v) = tt

    there : (o o2 : Option View) → Becomes (λ v. put v (q_file n) (Some (written_pfile (e ∷ edits)))) o o2
        → IfSome o2 (λ (v : View). IsSome (v (q_file n)))
    there None o2 is = subst (λ (x : Option View). IfSome x (λ (v : View). IsSome (v (q_file n)))) (sym is) tt
    there (Some v) o2 is = subst (λ (x : Option View). IfSome x (λ (u : View). IsSome (u (q_file n)))) (sym is)
        (subst IsSome (sym (put_same v (q_file n) (Some (written_pfile (e ∷ edits))))) refl)

pub none_chosen : (n : List ℕ) (edits : List Edit) (a : Told) → length edits ≡ 0 → PreparesEntries n edits Remove a a
none_chosen n (e ∷ edits) a none = absurd cc
none_chosen n [] a none = record { chosen_is = removed (seen a); needs = λ there. there refl; taken = kept (seen a) }
  where
    removed : (o : Option View) → IfSome o (λ (v : View). (old : Option Content) → chosen Remove (v (q_file n)) old
        ≡ pfile_of [])
    removed None = tt
    removed (Some v) = λ old. refl

    kept : (o : Option View) → IfSome o (λ (u : View). IfSome o (λ (v : View). IsTakenOrGone Remove (u (q_file n))
        (v (q_file n))))
    kept None = tt
    kept (Some v) = untouched Remove _ _ refl

-- ---- an entry that is taken out

one_more : {X : Type 0} (P : X → Type 0) (x : X) (xs : List X) → ((d : X) → P x) → All P xs → All P (x ∷ xs)
one_more P x xs first all zero d low = first d
one_more P x xs first all (suc k) d low = all k d (omega (arith, low))

-- what holds of each of several holds of those that are left
pub all_left : {X : Type 0} (P : X → Type 0) (xs : List X) (n : ℕ) → All P xs → All P (remove xs n)
all_left P [] zero all = all
all_left P [] (suc n) all = all
all_left P (x ∷ xs) zero all = λ k d low. all (suc k) d (omega (arith, low))
all_left P (x ∷ xs) (suc n) all = one_more P x (remove xs n) (λ d. all zero d (omega arith))
    (all_left P xs n (λ j e below. all (suc j) e (omega (arith, below))))

-- what holds of each of several and of one more holds of all
pub all_with : {X : Type 0} (P : X → Type 0) (xs : List X) (x : X) → All P xs → P x → All P (insert xs (length xs) x)
all_with P [] x all is = one_more P x [] (λ d. is) all
all_with P (y ∷ xs) x all is = one_more P y (insert xs (length xs) x) (λ d. all zero d (omega arith))
    (all_with P xs x (λ j e below. all (suc j) e (omega (arith, below))) is)
