-- Working files that steps made are gone.
use Rattle.std.proofs.Common.{◌≡◌, ◌⊎◌, ℕ, Bool, true, false, List, drop, Option, None, Some, inl, inr, refl, sym, ap}
use Rattle.std.proofs.Common.{subst, ◌∙◌, ⊎_elim}
use Rattle.std.specs.Str.{bytes_eq}
use Rattle.sccs_base.specs.Name.{p_file, z_file}
use Rattle.sccs_disk.specs.Files.{Content, View, put}
use Rattle.sccs_disk.proofs.Puts.{name_cases, put_other}
use Rattle.sccs_name_files.specs.StepFiles.{Apart, AreCleared, Files, Moves, MovesEarly, early_moved, is_working}
use Rattle.sccs_name_files.specs.StepFiles.{l_file, moved}
use Rattle.sccs_steps.specs.Actions.{IsClear}
use Rattle.sccs_steps.specs.StepLists.{AreAllCleared}

-- nothing is told anew
pub cleared_same : (w : List ℕ → Bool) (a b : Option View) → b ≡ a → AreAllCleared w a b
cleared_same w None b same = tt
cleared_same w (Some u) b same = subst (λ (o : Option View). AreAllCleared w (Some u) o) (sym same) (λ k h. inr refl)

-- ---- one list behind another

still : (x y z : Option Content) → (y ≡ None) ⊎ (y ≡ x) → (z ≡ None) ⊎ (z ≡ y) → (z ≡ None) ⊎ (z ≡ x)
still x y z first (inl gone) = inl gone
still x y z (inl gone) (inr same) = inl (same ∙ gone)
still x y z (inr kept) (inr same) = inr (same ∙ kept)

pub cleared_then : (w : List ℕ → Bool) (a b c : Option View) → AreAllCleared w a b → AreAllCleared w b c
    → AreAllCleared w a c
cleared_then w None b c first second = tt
cleared_then w (Some u) None c first second = absurd first
cleared_then w (Some u) (Some v) None first second = absurd second
cleared_then w (Some u) (Some v) (Some x) first second = λ k h. still (u k) (v k) (x k) (first k h) (second k h)

-- ---- one step

-- a name that is no working file, and one that is
differ : (w : List ℕ → Bool) (l k : List ℕ) → w l ≡ false → w k ≡ true → bytes_eq l k ≡ false
differ w l k spared is = ⊎_elim (λ e. absurd (let same : w l ≡ w k = ap w e in cc)) (λ apart. apart) (name_cases l k)

pub moved_other : (w : List ℕ → Bool) (n : List ℕ) (new : Option Files) (u : View) (k : List ℕ) → Apart w n → w k ≡ true
    → moved u n new k ≡ u k
moved_other w n None u k apart is = refl
moved_other w n (Some f) u k apart is =
    let l : View = put u (l_file n) f.l in
    let z : View = put l (z_file n) f.z in
    let g : View = put z (drop 2 n) f.g in
    let p : View = put g (p_file n) f.p in
    put_other p n k f.s (differ w n k apart.s is) ∙ (put_other g (p_file n) k f.p (differ w (p_file n) k apart.p is)
    ∙ (put_other z (drop 2 n) k f.g (differ w (drop 2 n) k apart.g is)
    ∙ (put_other l (z_file n) k f.z (differ w (z_file n) k apart.z is) ∙ put_other u (l_file n) k f.l
    (differ w (l_file n) k apart.l is))))

early_other : (w : List ℕ → Bool) (n : List ℕ) (first : Bool) (new : Option Files) (u : View) (k : List ℕ) → Apart w n
    → w k ≡ true → early_moved first u n new k ≡ u k
early_other w n false new u k apart is = refl
early_other w n true None u k apart is = refl
early_other w n true (Some f) u k apart is = put_other u (l_file n) k f.l (differ w (l_file n) k apart.l is)

-- working files of the name, and those of others, where no other file that is one changes
cleared_by : (reads : Bool) (w : List ℕ → Bool) (n : List ℕ) (f : View → View) (a b : Option View)
    → (Apart w n → (u : View) (k : List ℕ) → w k ≡ true → f u k ≡ u k) → IsClear reads w n → (reads ≡ true → b ≡ a)
    → Moves (is_working n) f a b → AreCleared n a b → AreAllCleared w a b
cleared_by reads w n f a b other (inl all) same moves cleared = cleared_same w a b (same all.0)
cleared_by reads w n f None b other (inr apart) same moves cleared = tt
cleared_by reads w n f (Some u) None other (inr apart) same moves cleared = absurd moves
cleared_by reads w n f (Some u) (Some v) other (inr apart) same moves cleared = λ k h. by k h (is_working n k) refl
  where
    by : (k : List ℕ) → w k ≡ true → (b : Bool) → is_working n k ≡ b → (v k ≡ None) ⊎ (v k ≡ u k)
    by k h true is = cleared k is
    by k h false is = inr (moves k is ∙ other apart u k h)

pub cleared_step : (reads : Bool) (w : List ℕ → Bool) (n : List ℕ) (new : Option Files) (a b : Option View)
    → IsClear reads w n → (reads ≡ true → b ≡ a) → Moves (is_working n) (λ u. moved u n new) a b → AreCleared n a b
    → AreAllCleared w a b
cleared_step reads w n new a b clear same moves cleared = cleared_by reads w n (λ u. moved u n new) a b
    (λ apart u k is. moved_other w n new u k apart is) clear same moves cleared

pub cleared_early : (reads : Bool) (w : List ℕ → Bool) (n : List ℕ) (new : Option Files) (a b : Option View)
    → IsClear reads w n → (reads ≡ true → b ≡ a) → MovesEarly n new a b → AreCleared n a b → AreAllCleared w a b
cleared_early reads w n new a b clear same moves cleared = cleared_by reads w n (λ u. early_moved moves.0 u n new) a b
    (λ apart u k is. early_other w n moves.0 new u k apart is) clear same moves.1 cleared
