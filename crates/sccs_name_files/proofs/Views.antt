-- Views that are alike but for working files.
use Rattle.std.proofs.Common.{◌≡◌, ℕ, Bool, true, false, cond, List, drop, Option, None, Some, ap, ◌∙◌}
use Rattle.std.specs.Str.{bytes_eq}
use Rattle.sccs_base.specs.Name.{p_file, z_file}
use Rattle.sccs_disk.specs.Files.{Content, View, put}
use Rattle.sccs_name_files.specs.StepFiles.{Files, early_moved, l_file, look, moved, is_working, Alike, Moves, Shows}
use Rattle.sccs_name_files.specs.StepFiles.{Apart}

put_alike : (w : List ℕ → Bool) (u v : View) (n : List ℕ) (x : Option Content) → Alike w u v
    → Alike w (put u n x) (put v n x)
put_alike w u v n x alike k h = ap (λ r. cond (bytes_eq n k) x r) (alike k h)

pub moved_alike : (w : List ℕ → Bool) (u v : View) (n : List ℕ) (new : Option Files) → Alike w u v
    → Alike w (moved u n new) (moved v n new)
moved_alike w u v n None alike = alike
moved_alike w u v n (Some f) alike =
    put_alike w _ _ n f.s (put_alike w _ _ (p_file n) f.p (put_alike w _ _ (drop 2 n) f.g
    (put_alike w _ _ (z_file n) f.z (put_alike w u v (l_file n) f.l alike))))

files_of : Option Content → Option Content → Option Content → Option Content → Option Content → Files
files_of s p z g l = record { s = s; p = p; z = z; g = g; l = l }

-- a step doesn't see working files
pub look_alike : (w : List ℕ → Bool) (n : List ℕ) (u v : View) → Apart w n → Alike w u v → look u n ≡ look v n
unfolding files_of
look_alike w n u v apart alike =
    ap (λ s. files_of s (u (p_file n)) (u (z_file n)) (u (drop 2 n)) (u (l_file n))) (alike n apart.s)
    ∙ (ap (λ p. files_of (v n) p (u (z_file n)) (u (drop 2 n)) (u (l_file n))) (alike (p_file n) apart.p)
    ∙ (ap (λ z. files_of (v n) (v (p_file n)) z (u (drop 2 n)) (u (l_file n))) (alike (z_file n) apart.z)
    ∙ (ap (λ g. files_of (v n) (v (p_file n)) (v (z_file n)) g (u (l_file n))) (alike (drop 2 n) apart.g)
    ∙ ap (λ l. files_of (v n) (v (p_file n)) (v (z_file n)) (v (drop 2 n)) l) (alike (l_file n) apart.l))))

-- alike views are alike where the l-file may be new
pub early_alike : (w : List ℕ → Bool) (u v : View) (n : List ℕ) (first : Bool) (new : Option Files) → Alike w u v
    → Alike w (early_moved first u n new) (early_moved first v n new)
early_alike w u v n false new alike = alike
early_alike w u v n true None alike = alike
early_alike w u v n true (Some f) alike = put_alike w u v (l_file n) f.l alike

-- a disk that shows a view shows, after a step, the view after the step
pub shows_moved : (w : List ℕ → Bool) (n : List ℕ) (new : Option Files) (v : View) (a b : Option View) → Apart w n
    → Shows w a v → Moves (is_working n) (λ u. moved u n new) a b → Shows w b (moved v n new)
shows_moved w n new v None b apart shows moves = absurd shows
shows_moved w n new v (Some u) None apart shows moves = absurd moves
shows_moved w n new v (Some u) (Some t) apart shows moves = λ k h. moves k (apart.own k h)
    ∙ moved_alike w u v n new shows k h

-- the same of a view in which the l-file may be new
pub shows_early : (w : List ℕ → Bool) (n : List ℕ) (first : Bool) (new : Option Files) (v : View) (a b : Option View)
    → Apart w n → Shows w a v → Moves (is_working n) (λ u. early_moved first u n new) a b
    → Shows w b (early_moved first v n new)
shows_early w n first new v None b apart shows moves = absurd shows
shows_early w n first new v (Some u) None apart shows moves = absurd moves
shows_early w n first new v (Some u) (Some t) apart shows moves = λ k h. moves k (apart.own k h)
    ∙ early_alike w u v n first new shows k h
