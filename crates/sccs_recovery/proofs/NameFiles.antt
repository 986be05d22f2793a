-- The files of one name: what finishing makes of them, and what the step says.
use Rattle.std.proofs.Common.{◌≡◌, ℕ, zero, suc, Bool, true, false, cond, List, drop, Option, None, Some, is_some, refl}
use Rattle.std.proofs.Common.{sym, ap, subst, ◌∙◌}
use Rattle.std.specs.Str.{bytes_eq}
use Rattle.sccs_base.specs.Name.{IsSFileName, p_file, q_file, x_file, y_file, z_file}
use Rattle.sccs_base.proofs.SameBytes.{same_bytes}
use Rattle.sccs_disk.specs.Effects.{renamed}
use Rattle.sccs_disk.specs.Files.{Content, View, put}
use Rattle.sccs_disk.proofs.Puts.{put_other, same_name}
use Rattle.sccs_name_files.specs.StepFiles.{is_left, l_file, moved}
use Rattle.sccs_intents.specs.declared.intents.IntentEntry.{IntentEntry}
use Rattle.sccs_intents.specs.declared.intents.Fate.{Fate}
use Rattle.sccs_intents.specs.declared.intents.Fate.TheVariants.{Replaced, Removed}
use Rattle.sccs_crash_points.specs.Recovery.{fated, newer, without_name}
use Rattle.sccs_crash_points.proofs.FileNames.{from_sfile, left_q, left_s, left_x, left_z, no_q, no_working, no_x, no_y}
use Rattle.sccs_crash_points.proofs.FileNames.{no_z, siblings_differ, to_g, to_s, to_sfile}
use Rattle.sccs_steps.specs.FirstFiles.{first_moved}
use Rattle.sccs_group.specs.Halfway.{part_placed}
use Rattle.sccs_group.specs.Members.{p_taken, placed, taken}
use Rattle.sccs_group.specs.declared.members.Member.{Member}
use Rattle.sccs_group.proofs.Placing.{taken_other}
use Rattle.sccs_recovery.specs.FinishStep.{finished_files}

-- the member that an entry names
abbrev pub bare_one : IntentEntry → Member
bare_one e = record { entry = e; removes_g = false }

-- ---- a file in the place of another

cond_at : (b : Bool) (f g : View) (k : List ℕ) → cond b f g k ≡ cond b (f k) (g k)
cond_at true f g k = refl
cond_at false f g k = refl

taken_by : (new old here : Option Content) (to from : Bool) → from ≡ false → (to ≡ true → old ≡ here)
    → cond (is_some new) (cond to new (cond from None here)) here ≡ cond to (newer new old) here
taken_by None old here true from apart same = sym (same refl)
taken_by None old here false from apart same = refl
taken_by (Some c) old here true from apart same = refl
taken_by (Some c) old here false from apart same = ap (λ (b : Bool). cond b None here) apart

taken_at : (from to : List ℕ) (v : View) (k : List ℕ) → bytes_eq from k ≡ false → taken from to v k ≡ cond
    (bytes_eq to k) (newer (v from) (v to)) (v k)
taken_at from to v k apart =
    cond_at (is_some (v from)) (renamed from to v) v k
    ∙ taken_by (v from) (v to) (v k) (bytes_eq to k) (bytes_eq from k) apart (λ e. ap v (same_name to k e))

-- ---- the files of a name

-- the s-file and the p-file come out alike
pub record SamePair (e : IntentEntry) (u v : View) : Type 0 where
  pub s : newer (u (x_file e.name)) (u e.name) ≡ newer (v (x_file e.name)) (v e.name)
  pub p : fated e.fate (u (q_file e.name)) (u (p_file e.name)) ≡ fated e.fate (v (q_file e.name)) (v (p_file e.name))

two_at : (e : IntentEntry) (u : View) (k : List ℕ) → IsSFileName e.name → is_left e.name k ≡ false
    → p_taken e.fate e.name (taken (x_file e.name) e.name u) k
    ≡ cond (bytes_eq (p_file e.name) k) (fated e.fate (u (q_file e.name)) (u (p_file e.name))) (cond (bytes_eq e.name k)
    (newer (u (x_file e.name)) (u e.name)) (u k))
two_at e u k sfile h = by e.fate
  where
    n : List ℕ
    n = e.name

    w : View
    w = taken (x_file e.name) e.name u

    here : taken (x_file e.name) e.name u k ≡ cond (bytes_eq e.name k) (newer (u (x_file e.name)) (u e.name)) (u k)
    here = taken_at (x_file e.name) e.name u k (no_x e.name k (no_working e.name k h))

    q : taken (x_file e.name) e.name u (q_file e.name) ≡ u (q_file e.name)
    q = taken_other (x_file e.name) e.name u (q_file e.name) refl (to_s 113 e.name sfile refl)

    p : taken (x_file e.name) e.name u (p_file e.name) ≡ u (p_file e.name)
    p = taken_other (x_file e.name) e.name u (p_file e.name) refl (to_s 112 e.name sfile refl)

    by : (fate : Fate) → p_taken fate e.name (taken (x_file e.name) e.name u) k
        ≡ cond (bytes_eq (p_file e.name) k) (fated fate (u (q_file e.name)) (u (p_file e.name)))
        (cond (bytes_eq e.name k) (newer (u (x_file e.name)) (u e.name)) (u k))
    by Replaced =
        taken_at (q_file e.name) (p_file e.name) (taken (x_file e.name) e.name u) k
        (no_q e.name k (no_working e.name k h))
        ∙ (ap (λ (o : Option Content). cond (bytes_eq (p_file e.name) k)
        (newer o (taken (x_file e.name) e.name u (p_file e.name))) (taken (x_file e.name) e.name u k)) q
        ∙ (ap (λ (o : Option Content). cond (bytes_eq (p_file e.name) k) (newer (u (q_file e.name)) o)
        (taken (x_file e.name) e.name u k)) p
        ∙ ap (λ (o : Option Content). cond (bytes_eq (p_file e.name) k) (newer (u (q_file e.name)) (u (p_file e.name)))
        o) here))
    by Removed = ap (λ (o : Option Content). cond (bytes_eq (p_file e.name) k) None o) here

pub placed_at : (e : IntentEntry) (u : View) (k : List ℕ) → IsSFileName e.name → is_left e.name k ≡ false
    → placed (bare_one e) u k ≡ cond (bytes_eq (p_file e.name) k) (fated e.fate (u (q_file e.name)) (u (p_file e.name)))
    (cond (bytes_eq e.name k) (newer (u (x_file e.name)) (u e.name)) (u k))
placed_at e u k sfile h = put_other (p_taken e.fate e.name (taken (x_file e.name) e.name u)) (y_file e.name) k None
    (no_y e.name k (no_working e.name k h)) ∙ two_at e u k sfile h

-- the two files come in any order
swapped_conds : (s p : Bool) (a b here : Option Content) → (s ≡ true → p ≡ false) → cond s a (cond p b here) ≡ cond p b
    (cond s a here)
swapped_conds true true a b here apart = absurd (let e = apart refl in cc)
swapped_conds true false a b here apart = refl
swapped_conds false p a b here apart = refl

s_not_p : (n k : List ℕ) → IsSFileName n → bytes_eq n k ≡ true → bytes_eq (p_file n) k ≡ false
s_not_p n k sfile is = subst (λ (l : List ℕ). bytes_eq (p_file n) l ≡ false) (same_name n k is)
    (from_sfile 112 n n sfile refl)

pub kept_file : (v : View) (g k : List ℕ) → cond (bytes_eq g k) (v g) (v k) ≡ v k
kept_file v g k = by (bytes_eq g k) refl
  where
    by : (b : Bool) → bytes_eq g k ≡ b → cond b (v g) (v k) ≡ v k
    by true is = ap v (same_name g k is)
    by false is = refl

pub files_at : (e : IntentEntry) (v : View) (k : List ℕ) → IsSFileName e.name → is_left e.name k ≡ false
    → moved v e.name (Some (finished_files e v)) k ≡ cond (bytes_eq (p_file e.name) k) (fated e.fate (v (q_file e.name))
    (v (p_file e.name))) (cond (bytes_eq e.name k) (newer (v (x_file e.name)) (v e.name)) (v k))
files_at e v k sfile h =
    ap (λ (o : Option Content). cond (bytes_eq e.name k) (newer (v (x_file e.name)) (v e.name))
    (cond (bytes_eq (p_file e.name) k) (fated e.fate (v (q_file e.name)) (v (p_file e.name)))
    (cond (bytes_eq (drop 2 e.name) k) (v (drop 2 e.name)) o)))
    (put_other (put v (l_file e.name) (v (l_file e.name))) (z_file e.name) k None (no_z e.name k h)
    ∙ kept_file v (l_file e.name) k)
    ∙ (ap (λ (o : Option Content). cond (bytes_eq e.name k) (newer (v (x_file e.name)) (v e.name))
    (cond (bytes_eq (p_file e.name) k) (fated e.fate (v (q_file e.name)) (v (p_file e.name))) o))
    (kept_file v (drop 2 e.name) k)
    ∙ swapped_conds (bytes_eq e.name k) (bytes_eq (p_file e.name) k) (newer (v (x_file e.name)) (v e.name))
    (fated e.fate (v (q_file e.name)) (v (p_file e.name))) (v k) (λ is. s_not_p e.name k sfile is))

-- what is placed is what is moved
pub turn_at : (e : IntentEntry) (u v : View) (k : List ℕ) → IsSFileName e.name → is_left e.name k ≡ false
    → SamePair e u v → u k ≡ v k → placed (bare_one e) u k ≡ moved v e.name (Some (finished_files e v)) k
turn_at e u v k sfile h same agree =
    placed_at e u k sfile h
    ∙ (ap (λ (o : Option Content). cond (bytes_eq (p_file e.name) k) o (cond (bytes_eq e.name k)
    (newer (u (x_file e.name)) (u e.name)) (u k))) same.p
    ∙ (ap (λ (o : Option Content). cond (bytes_eq (p_file e.name) k) (fated e.fate (v (q_file e.name))
    (v (p_file e.name))) (cond (bytes_eq e.name k) o (u k))) same.s
    ∙ (ap (λ (o : Option Content). cond (bytes_eq (p_file e.name) k) (fated e.fate (v (q_file e.name))
    (v (p_file e.name))) (cond (bytes_eq e.name k) (newer (v (x_file e.name)) (v e.name)) o)) agree
    ∙ sym (files_at e v k sfile h))))

-- ---- in part

-- how many of the name's files are new after so many calls
abbrev pub count_of : ℕ → ℕ
count_of zero = 0
count_of (suc zero) = 2
count_of (suc (suc some)) = 3

first_two : (e : IntentEntry) (u v : View) (k : List ℕ) → IsSFileName e.name → is_left e.name k ≡ false → SamePair e u v
    → u k ≡ v k
    → p_taken e.fate e.name (taken (x_file e.name) e.name u) k ≡ first_moved 3 v e.name (Some (finished_files e v)) k
first_two e u v k sfile h same agree =
    two_at e u k sfile h
    ∙ (ap (λ (o : Option Content). cond (bytes_eq (p_file e.name) k) o (cond (bytes_eq e.name k)
    (newer (u (x_file e.name)) (u e.name)) (u k))) same.p
    ∙ (ap (λ (o : Option Content). cond (bytes_eq (p_file e.name) k) (fated e.fate (v (q_file e.name))
    (v (p_file e.name))) (cond (bytes_eq e.name k) o (u k))) same.s
    ∙ ap (λ (o : Option Content). cond (bytes_eq (p_file e.name) k) (fated e.fate (v (q_file e.name))
    (v (p_file e.name))) (cond (bytes_eq e.name k) (newer (v (x_file e.name)) (v e.name)) o)) (agree
    ∙ sym (kept_file v (l_file e.name) k))))

with_y : (e : IntentEntry) (u v : View) (k : List ℕ) → IsSFileName e.name → is_left e.name k ≡ false → SamePair e u v
    → u k ≡ v k
    → without_name (y_file e.name) (p_taken e.fate e.name (taken (x_file e.name) e.name u)) k ≡ first_moved 3 v e.name
    (Some (finished_files e v)) k
with_y e u v k sfile h same agree = put_other (p_taken e.fate e.name (taken (x_file e.name) e.name u))
    (y_file e.name) k None (no_y e.name k (no_working e.name k h)) ∙ first_two e u v k sfile h same agree

pub part_at : (some : ℕ) (e : IntentEntry) (u v : View) (k : List ℕ) → IsSFileName e.name → is_left e.name k ≡ false
    → SamePair e u v → u k ≡ v k → part_placed some (bare_one e) u k ≡ first_moved (count_of some) v e.name
    (Some (finished_files e v)) k
part_at zero e u v k sfile h same agree = agree
part_at (suc zero) e u v k sfile h same agree =
    taken_at (x_file e.name) e.name u k (no_x e.name k (no_working e.name k h))
    ∙ (ap (λ (o : Option Content). cond (bytes_eq e.name k) o (u k)) same.s
    ∙ ap (λ (o : Option Content). cond (bytes_eq e.name k) (newer (v (x_file e.name)) (v e.name)) o) (agree
    ∙ sym (kept_file v (l_file e.name) k)))
part_at (suc (suc zero)) e u v k sfile h same agree = first_two e u v k sfile h same agree
part_at (suc (suc (suc zero))) e u v k sfile h same agree = with_y e u v k sfile h same agree
part_at (suc (suc (suc (suc some)))) e u v k sfile h same agree = with_y e u v k sfile h same agree

-- ---- other names

-- a file that is no s-file or p-file of the name, nor left behind
pub record IsElsewhere (n k : List ℕ) : Type 0 where
  pub left : is_left n k ≡ false
  pub s : bytes_eq n k ≡ false
  pub p : bytes_eq (p_file n) k ≡ false

pub else_s : (n k : List ℕ) → IsSFileName n → IsSFileName k → bytes_eq n k ≡ false → IsElsewhere n k
else_s n k sfile other apart = record { left = left_s n k other; s = apart; p = from_sfile 112 n k other refl }

pub else_p : (n k : List ℕ) → IsSFileName n → IsSFileName k → bytes_eq n k ≡ false → IsElsewhere n (p_file k)
else_p n k sfile other apart =
    record { left = refl; s = to_sfile 112 n k sfile refl; p = siblings_differ 112 n k sfile other apart }

pub else_x : (n k : List ℕ) → IsSFileName n → IsSFileName k → bytes_eq n k ≡ false → IsElsewhere n (x_file k)
else_x n k sfile other apart = record { left = left_x n k sfile other apart; s = to_sfile 120 n k sfile refl; p = refl }

pub else_q : (n k : List ℕ) → IsSFileName n → IsSFileName k → bytes_eq n k ≡ false → IsElsewhere n (q_file k)
else_q n k sfile other apart = record { left = left_q n k sfile other apart; s = to_sfile 113 n k sfile refl; p = refl }

pub else_z : (n k : List ℕ) → IsSFileName n → IsSFileName k → bytes_eq n k ≡ false → IsElsewhere n (z_file k)
else_z n k sfile other apart = record { left = left_z n k sfile other apart; s = to_sfile 122 n k sfile refl; p = refl }

neither : (s p : Bool) (a b here : Option Content) → s ≡ false → p ≡ false → cond p b (cond s a here) ≡ here
neither true p a b here s_is p_is = absurd cc
neither false true a b here s_is p_is = absurd cc
neither false false a b here s_is p_is = refl

pub placed_else : (e : IntentEntry) (u : View) (k : List ℕ) → IsSFileName e.name → IsElsewhere e.name k
    → placed (bare_one e) u k ≡ u k
placed_else e u k sfile away =
    placed_at e u k sfile away.left ∙ neither (bytes_eq e.name k) (bytes_eq (p_file e.name) k)
    (newer (u (x_file e.name)) (u e.name)) (fated e.fate (u (q_file e.name)) (u (p_file e.name)))
    (u k) away.s away.p

pub files_else : (e : IntentEntry) (v : View) (k : List ℕ) → IsSFileName e.name → IsElsewhere e.name k
    → moved v e.name (Some (finished_files e v)) k ≡ v k
files_else e v k sfile away =
    files_at e v k sfile away.left ∙ neither (bytes_eq e.name k) (bytes_eq (p_file e.name) k) (newer (v (x_file e.name))
    (v e.name)) (fated e.fate (v (q_file e.name)) (v (p_file e.name))) (v k) away.s away.p

-- the pair of another name comes out as before
pub pair_kept : (d : IntentEntry) (u v u2 v2 : View) → u2 (x_file d.name) ≡ u (x_file d.name) → u2 d.name ≡ u d.name
    → u2 (q_file d.name) ≡ u (q_file d.name) → u2 (p_file d.name) ≡ u (p_file d.name)
    → v2 (x_file d.name) ≡ v (x_file d.name) → v2 d.name ≡ v d.name → v2 (q_file d.name) ≡ v (q_file d.name)
    → v2 (p_file d.name) ≡ v (p_file d.name) → SamePair d u v → SamePair d u2 v2
pair_kept d u v u2 v2 ux us uq up vx vs vq vp same = record {
  s = ap (λ (o : Option Content). newer o (u2 d.name)) ux ∙ (ap (λ (o : Option Content). newer (u (x_file d.name)) o) us
      ∙ (same.s ∙ sym (ap (λ (o : Option Content). newer o (v2 d.name)) vx
      ∙ ap (λ (o : Option Content). newer (v (x_file d.name)) o) vs)));
  p = ap (λ (o : Option Content). fated d.fate o (u2 (p_file d.name))) uq
      ∙ (ap (λ (o : Option Content). fated d.fate (u (q_file d.name)) o) up
      ∙ (same.p ∙ sym (ap (λ (o : Option Content). fated d.fate o (v2 (p_file d.name))) vq
      ∙ ap (λ (o : Option Content). fated d.fate (v (q_file d.name)) o) vp)));
}

-- ---- the name's own files

own_two : (s p : Bool) (a b here : Option Content) → s ≡ true → p ≡ false → cond p b (cond s a here) ≡ a
own_two true false a b here s_is p_is = refl
own_two true true a b here s_is p_is = absurd cc
own_two false p a b here s_is p_is = absurd cc

pub own_s : (e : IntentEntry) (v : View) → IsSFileName e.name → moved v e.name (Some (finished_files e v)) e.name
    ≡ newer (v (x_file e.name)) (v e.name)
own_s e v sfile =
    files_at e v e.name sfile (left_s e.name e.name sfile)
    ∙ own_two (bytes_eq e.name e.name) (bytes_eq (p_file e.name) e.name) (newer (v (x_file e.name)) (v e.name))
    (fated e.fate (v (q_file e.name)) (v (p_file e.name))) (v e.name) (same_bytes e.name)
    (from_sfile 112 e.name e.name sfile refl)

pub own_p : (e : IntentEntry) (v : View) → IsSFileName e.name → moved v e.name (Some (finished_files e v))
    (p_file e.name) ≡ fated e.fate (v (q_file e.name)) (v (p_file e.name))
own_p e v sfile =
    files_at e v (p_file e.name) sfile refl
    ∙ ap (λ (b : Bool). cond b (fated e.fate (v (q_file e.name)) (v (p_file e.name)))
    (cond (bytes_eq e.name (p_file e.name)) (newer (v (x_file e.name)) (v e.name)) (v (p_file e.name))))
    (same_bytes (p_file e.name))

none_by : (z g : Bool) (other here : Option Content) → (g ≡ true → other ≡ None) → here ≡ None
    → cond g other (cond z None here) ≡ None
none_by z true other here gone none = gone refl
none_by true false other here gone none = refl
none_by false false other here gone none = none

-- a file that isn't there isn't made, but for the s-file and the p-file
pub none_else : (e : IntentEntry) (v : View) (k : List ℕ) → bytes_eq e.name k ≡ false → bytes_eq (p_file e.name) k
    ≡ false → v k ≡ None → moved v e.name (Some (finished_files e v)) k ≡ None
none_else e v k s p none =
    ap (λ (b : Bool). cond b (newer (v (x_file e.name)) (v e.name)) (cond (bytes_eq (p_file e.name) k)
    (fated e.fate (v (q_file e.name)) (v (p_file e.name))) (cond (bytes_eq (drop 2 e.name) k) (v (drop 2 e.name))
    (cond (bytes_eq (z_file e.name) k) None (put v (l_file e.name) (v (l_file e.name)) k))))) s
    ∙ (ap (λ (b : Bool). cond b (fated e.fate (v (q_file e.name)) (v (p_file e.name)))
    (cond (bytes_eq (drop 2 e.name) k) (v (drop 2 e.name)) (cond (bytes_eq (z_file e.name) k) None
    (put v (l_file e.name) (v (l_file e.name)) k)))) p
    ∙ none_by (bytes_eq (z_file e.name) k) (bytes_eq (drop 2 e.name) k) (v (drop 2 e.name))
    (put v (l_file e.name) (v (l_file e.name)) k) (λ is. ap v (same_name (drop 2 e.name) k is) ∙ none)
    (kept_file v (l_file e.name) k ∙ none))

pub own_z : (e : IntentEntry) (v : View) → IsSFileName e.name → moved v e.name (Some (finished_files e v))
    (z_file e.name) ≡ None
own_z e v sfile =
    let below : Option Content = put v (l_file e.name) (v (l_file e.name)) (z_file e.name) in
    ap (λ (b : Bool). cond b (newer (v (x_file e.name)) (v e.name)) (cond (bytes_eq (drop 2 e.name) (z_file e.name))
    (v (drop 2 e.name)) (cond (bytes_eq (z_file e.name) (z_file e.name)) None below))) (to_s 122 e.name sfile refl)
    ∙ (ap (λ (b : Bool). cond b (v (drop 2 e.name)) (cond (bytes_eq (z_file e.name) (z_file e.name)) None below))
    (to_g 122 e.name sfile)
    ∙ ap (λ (b : Bool). cond b None below) (same_bytes (z_file e.name)))
