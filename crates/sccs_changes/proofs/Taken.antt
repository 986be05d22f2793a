-- Working files that a commit takes, and those that it doesn't.
use Rattle.std.proofs.Common.{◌≡◌, ◌⊎◌, ℕ, Bool, true, false, ◌||◌, List, drop, Option, None, Some, IfSome, inl, inr}
use Rattle.std.proofs.Common.{refl, sym, subst, ◌∙◌}
use Rattle.std.specs.Str.{bytes_eq}
use Rattle.sccs_base.specs.Name.{IsSFileName, p_file, q_file, x_file, y_file, z_file}
use Rattle.sccs_disk.specs.Files.{Content, View, put}
use Rattle.sccs_disk.proofs.Puts.{put_other, put_same, same_name}
use Rattle.sccs_name_files.specs.StepFiles.{AreCleared, Moves, is_working}
use Rattle.sccs_crash_points.proofs.FileNames.{to_g, to_s}
use Rattle.sccs_store.specs.Commits.{Becomes, Plan, committed, g_swapped, locked, p_swapped, replaced, s_swapped}
use Rattle.sccs_store.specs.Commits.{swapped}
use Rattle.sccs_store.specs.declared.new_files.NewFile.{NewFile}
use Rattle.sccs_store.specs.declared.new_files.NewFile.TheVariants.{Keep, Replace, Remove}
use Rattle.sccs_store.proofs.Swaps.{swapped_other}
use Rattle.sccs_changes.specs.Changes.{AreTakenOrGone, IsTakenOrGone, plan_of}
use Rattle.sccs_changes.specs.declared.prepared.Prepared.{Prepared}

-- ---- what a change owes

-- a working file that nothing touched
pub untouched : (new : NewFile) (old now : Option Content) → now ≡ old → IsTakenOrGone new old now
untouched Keep old now same = inr same
untouched Replace old now same = tt
untouched Remove old now same = inr same

-- a change that makes the x-file alone, which the commit takes
pub x_alone : (n : List ℕ) (p : Prepared) (o o2 : Option View) → p.new_s ≡ true → Moves (bytes_eq (x_file n))
    (λ v. v) o o2 → IfSome o (λ u. IfSome o2 (λ v. AreTakenOrGone n (plan_of p) u v))
x_alone n p None o2 new moves = tt
x_alone n p (Some u) None new moves = tt
x_alone n p (Some u) (Some v) new moves = record {
  x = subst (λ b. IsTakenOrGone (replaced b) (u (x_file n)) (v (x_file n))) (sym new) tt;
  q = untouched p.new_p _ _ (moves (q_file n) refl);
  y = untouched p.new_g _ _ (moves (y_file n) refl);
}

-- ---- what a commit leaves

-- gone, or as it was
abbrev IsGone : Option Content → Option Content → Type 0
IsGone old now = (now ≡ None) ⊎ (now ≡ old)

as_it_is : (old a b : Option Content) → b ≡ a → IsGone old a → IsGone old b
as_it_is old a b is (inl gone) = inl (is ∙ gone)
as_it_is old a b is (inr same) = inr (is ∙ same)

-- a prepared file after it was taken, or not
from_gone : (new : NewFile) (from to : List ℕ) (u : View) (old : Option Content) → bytes_eq to from ≡ false
    → IsTakenOrGone new old (u from) → IsGone old (swapped new from to u from)
from_gone Keep from to u old other gone = gone
from_gone Replace from to u old other taken = inl (put_other (put u from None) to from (u from) other
    ∙ put_same u from None)
from_gone Remove from to u old other gone = as_it_is old (u from) _ (put_other u to from None other) gone

x_gone : (n : List ℕ) (c : Plan) (u : View) (old : Option Content) → IsSFileName n
    → IsTakenOrGone c.s old (u (x_file n)) → IsGone old (committed n c u (x_file n))
x_gone n c u old sfile taken =
    let s : View = s_swapped n c u in
    let p : View = p_swapped n c s in
    as_it_is old (s (x_file n)) (committed n c u (x_file n))
    (put_other (g_swapped n c p) (z_file n) (x_file n) None refl
    ∙ (swapped_other c.g (y_file n) (drop 2 n) p (x_file n) refl (to_g 120 n sfile) ∙ swapped_other c.p (q_file n)
    (p_file n) s (x_file n) refl refl))
    (from_gone c.s (x_file n) n u old (to_s 120 n sfile refl) taken)

q_gone : (n : List ℕ) (c : Plan) (u : View) (old : Option Content) → IsSFileName n
    → IsTakenOrGone c.p old (u (q_file n)) → IsGone old (committed n c u (q_file n))
q_gone n c u old sfile taken =
    let s : View = s_swapped n c u in
    let p : View = p_swapped n c s in
    as_it_is old (p (q_file n)) (committed n c u (q_file n))
    (put_other (g_swapped n c p) (z_file n) (q_file n) None refl ∙ swapped_other c.g (y_file n) (drop 2 n) p
    (q_file n) refl (to_g 113 n sfile))
    (from_gone c.p (q_file n) (p_file n) s old refl (subst (λ (o : Option Content). IsTakenOrGone c.p old o)
    (sym (swapped_other c.s (x_file n) n u (q_file n) refl (to_s 113 n sfile refl))) taken))

y_gone : (n : List ℕ) (c : Plan) (u : View) (old : Option Content) → IsSFileName n
    → IsTakenOrGone c.g old (u (y_file n)) → IsGone old (committed n c u (y_file n))
y_gone n c u old sfile taken =
    let s : View = s_swapped n c u in
    let p : View = p_swapped n c s in
    as_it_is old (g_swapped n c p (y_file n)) (committed n c u (y_file n))
    (put_other (g_swapped n c p) (z_file n) (y_file n) None refl)
    (from_gone c.g (y_file n) (drop 2 n) p old (to_g 121 n sfile)
    (subst (λ (o : Option Content). IsTakenOrGone c.g old o)
    (sym (swapped_other c.p (q_file n) (p_file n) s (y_file n) refl refl ∙ swapped_other c.s (x_file n) n u
    (y_file n) refl (to_s 121 n sfile refl))) taken))

-- one of three names
one_of : (P : List ℕ → Type 0) (x q y k : List ℕ) → P x → P q → P y → (bytes_eq x k || (bytes_eq q k || bytes_eq y k))
    ≡ true → P k
one_of P x q y k at_x at_q at_y is = by (bytes_eq x k) (bytes_eq q k) (bytes_eq y k) refl refl refl is
  where
    by : (a b d : Bool) → bytes_eq x k ≡ a → bytes_eq q k ≡ b → bytes_eq y k ≡ d → (a || (b || d)) ≡ true → P k
    by true b d is_x is_q is_y some = subst P (same_name x k is_x) at_x
    by false true d is_x is_q is_y some = subst P (same_name q k is_q) at_q
    by false false true is_x is_q is_y some = subst P (same_name y k is_y) at_y
    by false false false is_x is_q is_y some = absurd cc

-- the views before the lock, at the commit and at the end
pub committed_clears : (n : List ℕ) (c : Plan) (f : View → View) (v : View) (ob2 od : Option View) → IsSFileName n
    → Moves (is_working n) f (Some (locked n v)) ob2 → IfSome ob2 (λ (u : View). AreTakenOrGone n c (locked n v) u)
    → Becomes (committed n c) ob2 od → AreCleared n (Some v) od
committed_clears n c f v None od sfile moves working done = absurd moves
committed_clears n c f v (Some u) od sfile moves working done =
    subst (λ (o : Option View). AreCleared n (Some v) o) (sym done) (λ k is.
    one_of (λ l. IsGone (v l) (committed n c u l)) (x_file n) (q_file n) (y_file n) k
    (x_gone n c u (v (x_file n)) sfile working.x) (q_gone n c u (v (q_file n)) sfile working.q)
    (y_gone n c u (v (y_file n)) sfile working.y) is)
