-- The names of the files of an s-file's name differ.
use Rattle.std.proofs.Common.{◌≡◌, ◌≢◌, ℕ, false, ◌||◌, Bool, true, List, [], ◌∷◌, length, drop, take, refl, sym, ap}
use Rattle.std.proofs.Common.{subst, arith, length-drop, ◌∙◌}
use Rattle.std.specs.Str.{bytes_eq}
use Rattle.sccs_base.specs.Name.{IsSFileName, sibling, p_file, q_file, x_file, y_file, z_file}
use Rattle.sccs_base.proofs.SameBytes.{other_bytes, same_bytes}
use Rattle.sccs_base.proofs.Siblings.{sfile_long}
use Rattle.sccs_name_files.specs.StepFiles.{is_early, is_left, is_working, l_file}
use Rattle.sccs_intents.specs.Intents.{intent_file, plan_file}
use Rattle.sccs_crash_points.specs.Recovery.{begins_by_letter, is_kept}
use Rattle.std.proofs.lemmas.Bool.{or_from}
use Rattle.sccs_base.proofs.Bools.{right_false, left_false}

-- the name of an s-file begins with s
pub sfile_is : (n : List ℕ) → IsSFileName n → n ≡ sibling 115 n
sfile_is [] sfile = absurd (let e = sfile.front in cc)
sfile_is (b ∷ []) sfile = absurd (let e = sfile.front in cc)
sfile_is (b ∷ d ∷ rest) sfile = ap (λ x. x ∷ d ∷ rest) (let e = sfile.front in cc)

-- the name of an s-file, and a name with another letter
pub from_sfile : (letter : ℕ) (k n : List ℕ) → IsSFileName n → bytes_eq (sibling letter k) (sibling 115 n) ≡ false
    → bytes_eq (sibling letter k) n ≡ false
from_sfile letter k n sfile is = subst (λ l. bytes_eq (sibling letter k) l ≡ false) (sym (sfile_is n sfile)) is

pub to_sfile : (letter : ℕ) (n k : List ℕ) → IsSFileName n → bytes_eq (sibling 115 n) (sibling letter k) ≡ false
    → bytes_eq n (sibling letter k) ≡ false
to_sfile letter n k sfile is = subst (λ l. bytes_eq l (sibling letter k) ≡ false) (sym (sfile_is n sfile)) is

-- a sibling with another letter
pub from_s : (letter : ℕ) (n : List ℕ) → IsSFileName n → bytes_eq (sibling letter n) (sibling 115 n) ≡ false
    → bytes_eq (sibling letter n) n ≡ false
from_s letter n sfile is = from_sfile letter n n sfile is

pub to_s : (letter : ℕ) (n : List ℕ) → IsSFileName n → bytes_eq (sibling 115 n) (sibling letter n) ≡ false
    → bytes_eq n (sibling letter n) ≡ false
to_s letter n sfile is = to_sfile letter n n sfile is

-- siblings of different names differ
pub siblings_differ : (letter : ℕ) (n k : List ℕ) → IsSFileName n → IsSFileName k → bytes_eq n k ≡ false
    → bytes_eq (sibling letter n) (sibling letter k) ≡ false
siblings_differ letter n k sfile other apart =
    other_bytes (sibling letter n) (sibling letter k)
    (λ e. let one : n ≡ k = sfile_is n sfile ∙ (ap (λ (l : List ℕ). 115 ∷ drop 1 l) e ∙ sym (sfile_is k other)) in
    let test : bytes_eq n k ≡ true = subst (λ l. bytes_eq n l ≡ true) one (same_bytes n) in
    absurd (cc))

shorter : (letter : ℕ) (n : List ℕ) → IsSFileName n → sibling letter n ≡ drop 2 n → ⊥
shorter letter n sfile e = let e2 = ap length e in omega (
  arith,
  e2,
  length-drop 1 n,
  length-drop 2 n,
  sfile_long n sfile,
)

pub from_g : (letter : ℕ) (n : List ℕ) → IsSFileName n → bytes_eq (sibling letter n) (drop 2 n) ≡ false
from_g letter n sfile = other_bytes (sibling letter n) (drop 2 n) (shorter letter n sfile)

pub to_g : (letter : ℕ) (n : List ℕ) → IsSFileName n → bytes_eq (drop 2 n) (sibling letter n) ≡ false
to_g letter n sfile = other_bytes (drop 2 n) (sibling letter n) (λ e. shorter letter n sfile (sym e))

pub s_and_g : (n : List ℕ) → IsSFileName n → bytes_eq n (drop 2 n) ≡ false
s_and_g n sfile = other_bytes n (drop 2 n) (λ e. let e2 = ap length e in
    omega (arith, e2, length-drop 2 n, sfile_long n sfile))

-- ---- working files

pub no_x : (n k : List ℕ) → is_working n k ≡ false → bytes_eq (x_file n) k ≡ false
no_x n k h = left_false _ _ h

pub no_q : (n k : List ℕ) → is_working n k ≡ false → bytes_eq (q_file n) k ≡ false
no_q n k h = left_false _ _ (right_false _ _ h)

pub no_y : (n k : List ℕ) → is_working n k ≡ false → bytes_eq (y_file n) k ≡ false
no_y n k h = right_false _ _ (right_false _ _ h)

pub no_working : (n k : List ℕ) → is_left n k ≡ false → is_working n k ≡ false
no_working n k h = left_false _ _ h

pub no_z : (n k : List ℕ) → is_left n k ≡ false → bytes_eq (z_file n) k ≡ false
no_z n k h = right_false _ _ h

-- ---- s-files, p-files and z-files

pub working_s : (n k : List ℕ) → IsSFileName k → is_working n k ≡ false
working_s n k sfile = subst (λ l. is_working n l ≡ false) (sym (sfile_is k sfile)) refl

pub left_s : (n k : List ℕ) → IsSFileName k → is_left n k ≡ false
left_s n k sfile = subst (λ l. is_left n l ≡ false) (sym (sfile_is k sfile)) refl

-- what a step changes before its commit is no s-file, and all that it leaves behind
pub early_left : (n k : List ℕ) → is_early n k ≡ false → is_left n k ≡ false
early_left n k h = right_false (bytes_eq (l_file n) k) (is_left n k) h

pub no_l : (n k : List ℕ) → is_early n k ≡ false → bytes_eq (l_file n) k ≡ false
no_l n k h = left_false (bytes_eq (l_file n) k) (is_left n k) h

pub early_s : (n k : List ℕ) → IsSFileName k → is_early n k ≡ false
early_s n k sfile = subst (λ l. is_early n l ≡ false) (sym (sfile_is k sfile)) refl

pub left_z : (n k : List ℕ) → IsSFileName n → IsSFileName k → bytes_eq n k ≡ false → is_left n (z_file k) ≡ false
left_z n k sfile other apart = siblings_differ 122 n k sfile other apart

pub working_x : (n k : List ℕ) → IsSFileName n → IsSFileName k → bytes_eq n k ≡ false → is_working n (x_file k) ≡ false
working_x n k sfile other apart = or_from _ false (siblings_differ 120 n k sfile other apart) refl

pub working_q : (n k : List ℕ) → IsSFileName n → IsSFileName k → bytes_eq n k ≡ false → is_working n (q_file k) ≡ false
working_q n k sfile other apart = or_from _ false (siblings_differ 113 n k sfile other apart) refl

pub left_x : (n k : List ℕ) → IsSFileName n → IsSFileName k → bytes_eq n k ≡ false → is_left n (x_file k) ≡ false
left_x n k sfile other apart = or_from _ false (working_x n k sfile other apart) refl

pub left_q : (n k : List ℕ) → IsSFileName n → IsSFileName k → bytes_eq n k ≡ false → is_left n (q_file k) ≡ false
left_q n k sfile other apart = or_from _ false (working_q n k sfile other apart) refl

-- ---- the intent

-- the second byte, or none
abbrev second : List ℕ → ℕ
second [] = 0
second (a ∷ []) = 0
second (a ∷ b ∷ rest) = b

second_of_two : (n : List ℕ) → second (take 2 n) ≡ second n
second_of_two [] = refl
second_of_two (a ∷ []) = refl
second_of_two (a ∷ b ∷ rest) = refl

-- the intent is no s-file
pub sfile_and_intent : (n : List ℕ) → IsSFileName n → bytes_eq n intent_file ≡ false
sfile_and_intent n sfile = other_bytes n intent_file (λ e.
    let dot : second n ≡ 46 = sym (second_of_two n) ∙ ap second sfile.front in
    let c : second n ≡ 99 = ap second e in omega (arith, dot, c))

pub intent_and_sfile : (n : List ℕ) → IsSFileName n → bytes_eq intent_file n ≡ false
intent_and_sfile n sfile = other_bytes intent_file n (λ e.
    let dot : second n ≡ 46 = sym (second_of_two n) ∙ ap second sfile.front in
    let c : 99 ≡ second n = ap second e in omega (arith, dot, c))

-- nor is the plan
pub plan_and_sfile : (n : List ℕ) → IsSFileName n → bytes_eq plan_file n ≡ false
plan_and_sfile n sfile = other_bytes plan_file n (λ e.
    let dot : second n ≡ 46 = sym (second_of_two n) ∙ ap second sfile.front in
    let c : 99 ≡ second n = ap second e in omega (arith, dot, c))

-- a name that isn't kept is none of them
begins_not : (letter : ℕ) (k l : List ℕ) → begins_by_letter letter k ≡ false → take 2 l ≡ letter ∷ 46 ∷ []
    → bytes_eq k l ≡ false
begins_not letter k l not_so front =
    other_bytes k l
    (λ e. let test : bytes_eq (take 2 k) (letter ∷ 46 ∷ []) ≡ true = subst (λ f. bytes_eq f (letter ∷ 46 ∷ []) ≡ true)
    (sym (ap (take 2) e ∙ front)) (same_bytes (letter ∷ 46 ∷ [])) in
    absurd (cc))

sibling_front : (letter : ℕ) (k : List ℕ) → IsSFileName k → take 2 (sibling letter k) ≡ letter ∷ 46 ∷ []
sibling_front letter [] sfile = absurd (let e = sfile.front in cc)
sibling_front letter (b ∷ []) sfile = absurd (let e = sfile.front in cc)
sibling_front letter (b ∷ d ∷ rest) sfile = ap (λ x. letter ∷ x ∷ []) (let e = sfile.front in cc)

-- what is asked of a name behind each of the tests
abbrev kept_after_x : List ℕ → Bool
kept_after_x g = begins_by_letter 113 g || bytes_eq g intent_file

abbrev kept_after_z : List ℕ → Bool
kept_after_z g = begins_by_letter 120 g || kept_after_x g

abbrev kept_after_p : List ℕ → Bool
kept_after_p g = begins_by_letter 122 g || kept_after_z g

abbrev kept_after_s : List ℕ → Bool
kept_after_s g = begins_by_letter 112 g || kept_after_p g

no_s_name : (g : List ℕ) → is_kept g ≡ false → kept_after_s g ≡ false
no_s_name g h = right_false (begins_by_letter 115 g) (kept_after_s g) h

no_p_name : (g : List ℕ) → is_kept g ≡ false → kept_after_p g ≡ false
no_p_name g h = right_false (begins_by_letter 112 g) (kept_after_p g) (no_s_name g h)

no_z_name : (g : List ℕ) → is_kept g ≡ false → kept_after_z g ≡ false
no_z_name g h = right_false (begins_by_letter 122 g) (kept_after_z g) (no_p_name g h)

no_x_name : (g : List ℕ) → is_kept g ≡ false → kept_after_x g ≡ false
no_x_name g h = right_false (begins_by_letter 120 g) (kept_after_x g) (no_z_name g h)

pub kept_s : (g k : List ℕ) → is_kept g ≡ false → IsSFileName k → bytes_eq g k ≡ false
kept_s g k h sfile = begins_not 115 g k (left_false (begins_by_letter 115 g) (kept_after_s g) h) sfile.front

pub kept_p : (g k : List ℕ) → is_kept g ≡ false → IsSFileName k → bytes_eq g (p_file k) ≡ false
kept_p g k h sfile = begins_not 112 g (p_file k) (left_false (begins_by_letter 112 g) (kept_after_p g) (no_s_name g h))
    (sibling_front 112 k sfile)

pub kept_z : (g k : List ℕ) → is_kept g ≡ false → IsSFileName k → bytes_eq g (z_file k) ≡ false
kept_z g k h sfile = begins_not 122 g (z_file k) (left_false (begins_by_letter 122 g) (kept_after_z g) (no_p_name g h))
    (sibling_front 122 k sfile)

pub kept_x : (g k : List ℕ) → is_kept g ≡ false → IsSFileName k → bytes_eq g (x_file k) ≡ false
kept_x g k h sfile = begins_not 120 g (x_file k) (left_false (begins_by_letter 120 g) (kept_after_x g) (no_z_name g h))
    (sibling_front 120 k sfile)

pub kept_q : (g k : List ℕ) → is_kept g ≡ false → IsSFileName k → bytes_eq g (q_file k) ≡ false
kept_q g k h sfile = begins_not 113 g (q_file k) (left_false (begins_by_letter 113 g) (bytes_eq g intent_file)
    (no_x_name g h)) (sibling_front 113 k sfile)

pub kept_intent : (g : List ℕ) → is_kept g ≡ false → bytes_eq g intent_file ≡ false
kept_intent g h = right_false (begins_by_letter 113 g) (bytes_eq g intent_file) (no_x_name g h)

-- an l-file is none at which recovery looks
not_begun : (letter : ℕ) (n : List ℕ) → letter ≢ 108 → begins_by_letter letter (l_file n) ≡ false
not_begun letter n other = other_bytes (take 2 (l_file n)) (letter ∷ 46 ∷ []) (λ e. other (sym (first_is letter n e)))
  where
    first_is : (letter : ℕ) (n : List ℕ) → take 2 (l_file n) ≡ letter ∷ 46 ∷ [] → 108 ≡ letter
    first_is letter n e = cc

pub l_plain : (n : List ℕ) → is_kept (l_file n) ≡ false
l_plain n =
    or_from _ _ (not_begun 115 n (λ e. omega (arith, e)))
    (or_from _ _ (not_begun 112 n (λ e. omega (arith, e))) (or_from _ _ (not_begun 122 n (λ e. omega (arith, e)))
    (or_from _ _ (not_begun 120 n (λ e. omega (arith, e))) (or_from _ _ (not_begun 113 n (λ e. omega (arith, e)))
    refl))))
