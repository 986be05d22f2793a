-- A folder after a step has the view after the step.
use Rattle.std.proofs.Common.{◌≡◌, ℕ, cond, List, drop, Option, None, Some, refl, ap, ◌∙◌}
use Rattle.std.proofs.Math.Path.{fun_ext}
use Rattle.std.specs.FinMap.{get, get-insert, get-remove}
use Rattle.std.specs.Cmp.Lexicographic.{nat_list_cmp_total}
use Rattle.sccs_base.specs.Name.{p_file, z_file}
use Rattle.sccs_disk.specs.Files.{Content, View, Folder, put, view_in}
use Rattle.sccs_disk.specs.MemoryFiles.{same_test}
use Rattle.sccs_name_files.specs.StepFiles.{Files, l_file, moved, moved_in, set_in}

set_at : (m : Folder) (n : List ℕ) (x : Option Content) (k : List ℕ) → view_in (set_in m n x) k ≡ put (view_in m) n x k
set_at m n None k = get-remove nat_list_cmp_total m n k ∙ ap (λ test. cond test None (get m k)) (same_test k n)
set_at m n (Some c) k = get-insert nat_list_cmp_total m n c k ∙ ap (λ test. cond test (Some c) (get m k))
    (same_test k n)

set_view : (m : Folder) (n : List ℕ) (x : Option Content) → view_in (set_in m n x) ≡ put (view_in m) n x
set_view m n x = fun_ext (set_at m n x)

pub moved_view : (m : Folder) (n : List ℕ) (new : Option Files) → view_in (moved_in m n new) ≡ moved (view_in m) n new
moved_view m n None = refl
moved_view m n (Some f) =
    let l : Folder = set_in m (l_file n) f.l in
    let z : Folder = set_in l (z_file n) f.z in
    let g : Folder = set_in z (drop 2 n) f.g in
    let p : Folder = set_in g (p_file n) f.p in
    set_view p n f.s
    ∙ ap (λ (v : View). put v n f.s) (set_view g (p_file n) f.p
    ∙ ap (λ (v : View). put v (p_file n) f.p) (set_view z (drop 2 n) f.g ∙ ap (λ (v : View). put v (drop 2 n) f.g)
    (set_view l (z_file n) f.z ∙ ap (λ (v : View). put v (z_file n) f.z) (set_view m (l_file n) f.l))))
