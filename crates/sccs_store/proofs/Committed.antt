-- A commit puts the chosen files in their places, and leaves all others.
use Rattle.std.proofs.Common.{◌≡◌, ◌⊎◌, ℕ, zero, suc, Bool, true, false, cond, List, drop, Option, None, inl, inr, refl}
use Rattle.std.proofs.Common.{sym, ap, subst, ◌∙◌, ⊎_elim}
use Rattle.std.specs.Str.{bytes_eq}
use Rattle.sccs_base.specs.Name.{IsSFileName, p_file, q_file, x_file, y_file, z_file}
use Rattle.sccs_disk.specs.Files.{Content, View, put}
use Rattle.sccs_disk.proofs.Puts.{name_cases, put_back, put_other, put_same, same_name}
use Rattle.sccs_name_files.specs.StepFiles.{is_working, l_file, placed}
use Rattle.sccs_store.specs.Commits.{Plan, chosen, committed, files_after, g_swapped, p_swapped, part_of, s_swapped}
use Rattle.sccs_store.specs.Commits.{swapped}
use Rattle.sccs_store.specs.declared.new_files.NewFile.{NewFile}
use Rattle.sccs_store.specs.declared.new_files.NewFile.TheVariants.{Keep, Replace, Remove}
use Rattle.sccs_crash_points.proofs.FileNames.{from_g, no_q, no_x, no_y, s_and_g, to_g, to_s}
use Rattle.sccs_store.proofs.Swaps.{swapped_other}

-- what stands under a name after one change
pub swapped_at : (new : NewFile) (from to : List ℕ) (v : View) (k : List ℕ) → bytes_eq from k ≡ false
    → swapped new from to v k ≡ cond (bytes_eq to k) (chosen new (v from) (v to)) (v k)
swapped_at Keep from to v k h = sym (ap (λ (u : View). u k) (put_back v to))
swapped_at Replace from to v k h = ap (λ (o : Option Content). cond (bytes_eq to k) (v from) o)
    (put_other v from k None h)
swapped_at Remove from to v k h = refl

-- after the first, the first two and the first three of a commit's changes
abbrev first_at : List ℕ → Plan → View → List ℕ → Option Content
first_at n c v k = cond (bytes_eq n k) (chosen c.s (v (x_file n)) (v n)) (v k)

abbrev second_at : List ℕ → Plan → View → List ℕ → Option Content
second_at n c v k = cond (bytes_eq (p_file n) k) (chosen c.p (v (q_file n)) (v (p_file n))) (first_at n c v k)

abbrev third_at : List ℕ → Plan → View → List ℕ → Option Content
third_at n c v k = cond (bytes_eq (drop 2 n) k) (chosen c.g (v (y_file n)) (v (drop 2 n))) (second_at n c v k)

pub first_is : (n : List ℕ) (c : Plan) (v : View) (k : List ℕ) → is_working n k ≡ false
    → s_swapped n c v k ≡ first_at n c v k
first_is n c v k h = swapped_at c.s (x_file n) n v k (no_x n k h)

pub second_is : (n : List ℕ) (c : Plan) (v : View) (k : List ℕ) → IsSFileName n → is_working n k ≡ false
    → p_swapped n c (s_swapped n c v) k ≡ second_at n c v k
second_is n c v k sfile h =
    let q : s_swapped n c v (q_file n) ≡ v (q_file n) = swapped_other c.s (x_file n) n v (q_file n) refl
    (to_s 113 n sfile refl) in
    let p : s_swapped n c v (p_file n) ≡ v (p_file n) = swapped_other c.s (x_file n) n v (p_file n) refl
    (to_s 112 n sfile refl) in
    swapped_at c.p (q_file n) (p_file n) (s_swapped n c v) k (no_q n k h)
    ∙ (ap (λ (o : Option Content). cond (bytes_eq (p_file n) k) (chosen c.p o (s_swapped n c v (p_file n)))
    (s_swapped n c v k)) q
    ∙ (ap (λ (o : Option Content). cond (bytes_eq (p_file n) k) (chosen c.p (v (q_file n)) o) (s_swapped n c v k)) p
    ∙ ap (λ (o : Option Content). cond (bytes_eq (p_file n) k) (chosen c.p (v (q_file n)) (v (p_file n))) o)
    (first_is n c v k h)))

two_other : (n : List ℕ) (c : Plan) (v : View) (k : List ℕ) → bytes_eq (x_file n) k ≡ false → bytes_eq n k ≡ false
    → bytes_eq (q_file n) k ≡ false → bytes_eq (p_file n) k ≡ false → p_swapped n c (s_swapped n c v) k ≡ v k
two_other n c v k x s q p = swapped_other c.p (q_file n) (p_file n) (s_swapped n c v) k q p
    ∙ swapped_other c.s (x_file n) n v k x s

third_is : (n : List ℕ) (c : Plan) (v : View) (k : List ℕ) → IsSFileName n → is_working n k ≡ false
    → g_swapped n c (p_swapped n c (s_swapped n c v)) k ≡ third_at n c v k
third_is n c v k sfile h =
    let u : View = p_swapped n c (s_swapped n c v) in
    let y : u (y_file n) ≡ v (y_file n) = two_other n c v (y_file n) refl (to_s 121 n sfile refl) refl refl in
    let g : u (drop 2 n) ≡ v (drop 2 n) = two_other n c v (drop 2 n) (from_g 120 n sfile) (s_and_g n sfile)
    (from_g 113 n sfile) (from_g 112 n sfile) in
    swapped_at c.g (y_file n) (drop 2 n) u k (no_y n k h)
    ∙ (ap (λ (o : Option Content). cond (bytes_eq (drop 2 n) k) (chosen c.g o (u (drop 2 n))) (u k)) y
    ∙ (ap (λ (o : Option Content). cond (bytes_eq (drop 2 n) k) (chosen c.g (v (y_file n)) o) (u k)) g
    ∙ ap (λ (o : Option Content). cond (bytes_eq (drop 2 n) k) (chosen c.g (v (y_file n)) (v (drop 2 n))) o)
    (second_is n c v k sfile h)))

-- ---- at most one of these names is a name

only_one : (a b k : List ℕ) → bytes_eq b a ≡ false → bytes_eq a k ≡ true → bytes_eq b k ≡ false
only_one a b k other is = subst (λ m. bytes_eq b m ≡ false) (same_name a k is) other

-- tests of which at most one holds
record AtMostOne (s p g z : Bool) : Type 0 where
  zg : z ≡ true → g ≡ false
  zp : z ≡ true → p ≡ false
  zs : z ≡ true → s ≡ false
  gp : g ≡ true → p ≡ false
  gs : g ≡ true → s ≡ false
  ps : p ≡ true → s ≡ false

at_most_one : (n k : List ℕ) → IsSFileName n → AtMostOne (bytes_eq n k) (bytes_eq (p_file n) k) (bytes_eq (drop 2 n) k)
    (bytes_eq (z_file n) k)
at_most_one n k sfile = record {
  zg = only_one (z_file n) (drop 2 n) k (to_g 122 n sfile);
  zp = only_one (z_file n) (p_file n) k refl;
  zs = only_one (z_file n) n k (to_s 122 n sfile refl);
  gp = only_one (drop 2 n) (p_file n) k (from_g 112 n sfile);
  gs = only_one (drop 2 n) n k (s_and_g n sfile);
  ps = only_one (p_file n) n k (to_s 112 n sfile refl);
}

-- the order of the tests doesn't matter
reordered : (s p g z : Bool) (S P G o o2 : Option Content) → AtMostOne s p g z → (z ≡ false → o ≡ o2)
    → cond z None (cond g G (cond p P (cond s S o))) ≡ cond s S (cond p P (cond g G (cond z None o2)))
reordered true true g z S P G o o2 one same = absurd (let e = one.ps refl in cc)
reordered true false true z S P G o o2 one same = absurd (let e = one.gs refl in cc)
reordered true false false true S P G o o2 one same = absurd (let e = one.zs refl in cc)
reordered true false false false S P G o o2 one same = refl
reordered false true true z S P G o o2 one same = absurd (let e = one.gp refl in cc)
reordered false true false true S P G o o2 one same = absurd (let e = one.zp refl in cc)
reordered false true false false S P G o o2 one same = refl
reordered false false true true S P G o o2 one same = absurd (let e = one.zg refl in cc)
reordered false false true false S P G o o2 one same = refl
reordered false false false true S P G o o2 one same = refl
reordered false false false false S P G o o2 one same = same refl

-- the view before all with the l-file of u
abbrev pub with_l : List ℕ → View → View → View
with_l n u v = put v (l_file n) (u (l_file n))

-- what another view than that of the commit has, but for the l-file and the z-file
pub l_taken : (n : List ℕ) (u v : View) (k : List ℕ) → (bytes_eq (l_file n) k ≡ false → u k ≡ v k)
    → u k ≡ with_l n u v k
l_taken n u v k same = ⊎_elim (λ e. subst (λ l. u l ≡ with_l n u v l) e (sym (put_same v (l_file n) (u (l_file n)))))
    (λ apart. same apart ∙ sym (put_other v (l_file n) k (u (l_file n)) apart)) (name_cases (l_file n) k)

-- what the files of the name are after a commit on u, where v is the view before all
pub committed_at : (n : List ℕ) (c : Plan) (u v : View) (k : List ℕ) → IsSFileName n → is_working n k ≡ false
    → (bytes_eq (l_file n) k ≡ false → bytes_eq (z_file n) k ≡ false → u k ≡ v k) → committed n c u k ≡ placed v n
    (files_after n c u) k
committed_at n c u v k sfile h same =
    ap (λ (o : Option Content). cond (bytes_eq (z_file n) k) None o) (third_is n c u k sfile h)
    ∙ reordered (bytes_eq n k) (bytes_eq (p_file n) k) (bytes_eq (drop 2 n) k) (bytes_eq (z_file n) k)
    (chosen c.s (u (x_file n)) (u n)) (chosen c.p (u (q_file n)) (u (p_file n)))
    (chosen c.g (u (y_file n)) (u (drop 2 n))) (u k) (with_l n u v k) (at_most_one n k sfile)
    (λ z. l_taken n u v k (λ l. same l z))

-- ---- after some of its changes

abbrev Either : Option Content → Option Content → Option Content → Type 0
Either x a b = (x ≡ a) ⊎ (x ≡ b)

first_part : (s p g : Bool) (S P G o o2 : Option Content) → AtMostOne s p g false → o ≡ o2
    → Either (cond s S o) o2 (cond s S (cond p P (cond g G o2)))
first_part true p g S P G o o2 one same = inr refl
first_part false p g S P G o o2 one same = inl same

second_part : (s p g : Bool) (S P G o o2 : Option Content) → AtMostOne s p g false → o ≡ o2
    → Either (cond p P (cond s S o)) o2 (cond s S (cond p P (cond g G o2)))
second_part true true g S P G o o2 one same = absurd (let e = one.ps refl in cc)
second_part false true g S P G o o2 one same = inr refl
second_part s false g S P G o o2 one same = first_part s false g S P G o o2 one same

third_part : (s p g : Bool) (S P G o o2 : Option Content) → AtMostOne s p g false → o ≡ o2
    → Either (cond g G (cond p P (cond s S o))) o2 (cond s S (cond p P (cond g G o2)))
third_part true p true S P G o o2 one same = absurd (let e = one.gs refl in cc)
third_part false true true S P G o o2 one same = absurd (let e = one.gp refl in cc)
third_part false false true S P G o o2 one same = inr refl
third_part s p false S P G o o2 one same = second_part s p false S P G o o2 one same

as_it_is : (x y a b : Option Content) → x ≡ y → Either y a b → Either x a b
as_it_is x y a b is (inl e) = inl (is ∙ e)
as_it_is x y a b is (inr e) = inr (is ∙ e)

-- the new files of a commit on u
abbrev s_of : List ℕ → Plan → View → Option Content
s_of n c u = chosen c.s (u (x_file n)) (u n)

abbrev p_of : List ℕ → Plan → View → Option Content
p_of n c u = chosen c.p (u (q_file n)) (u (p_file n))

abbrev g_of : List ℕ → Plan → View → Option Content
g_of n c u = chosen c.g (u (y_file n)) (u (drop 2 n))

-- what a commit makes of a file that isn't the z-file
abbrev placed_of : List ℕ → Plan → View → View → List ℕ → Option Content
placed_of n c u v k = cond (bytes_eq n k) (s_of n c u) (cond (bytes_eq (p_file n) k) (p_of n c u)
    (cond (bytes_eq (drop 2 n) k) (g_of n c u) (v k)))

no_z_file : (n : List ℕ) (k : List ℕ) → IsSFileName n → bytes_eq (z_file n) k ≡ false → AtMostOne (bytes_eq n k)
    (bytes_eq (p_file n) k) (bytes_eq (drop 2 n) k) false
no_z_file n k sfile other = subst (λ z. AtMostOne (bytes_eq n k) (bytes_eq (p_file n) k) (bytes_eq (drop 2 n) k) z)
    other (at_most_one n k sfile)

three_made : (n : List ℕ) (c : Plan) (u v : View) (k : List ℕ) → IsSFileName n → is_working n k ≡ false
    → bytes_eq (z_file n) k ≡ false → u k ≡ v k
    → Either (g_swapped n c (p_swapped n c (s_swapped n c u)) k) (v k) (placed_of n c u v k)
three_made n c u v k sfile h other same =
    as_it_is _ _ _ _ (third_is n c u k sfile h) (third_part (bytes_eq n k) (bytes_eq (p_file n) k)
    (bytes_eq (drop 2 n) k) (s_of n c u) (p_of n c u) (g_of n c u) (u k) (v k) (no_z_file n k sfile other) same)

parts : (n : List ℕ) (c : Plan) (u v : View) (k : List ℕ) (i : ℕ) → IsSFileName n → is_working n k ≡ false
    → bytes_eq (z_file n) k ≡ false → u k ≡ v k
    → Either (part_of n c i u k) (v k) (placed_of n c u v k)
parts n c u v k zero sfile h other same = inl same
parts n c u v k (suc zero) sfile h other same =
    as_it_is _ _ _ _ (first_is n c u k h) (first_part (bytes_eq n k) (bytes_eq (p_file n) k) (bytes_eq (drop 2 n) k)
    (s_of n c u) (p_of n c u) (g_of n c u) (u k) (v k) (no_z_file n k sfile other) same)
parts n c u v k (suc (suc zero)) sfile h other same =
    as_it_is _ _ _ _ (second_is n c u k sfile h) (second_part (bytes_eq n k) (bytes_eq (p_file n) k)
    (bytes_eq (drop 2 n) k) (s_of n c u) (p_of n c u) (g_of n c u) (u k) (v k) (no_z_file n k sfile other) same)
parts n c u v k (suc (suc (suc zero))) sfile h other same = three_made n c u v k sfile h other same
parts n c u v k (suc (suc (suc (suc i)))) sfile h other same =
    as_it_is _ _ _ _ (put_other (g_swapped n c (p_swapped n c (s_swapped n c u))) (z_file n) k None other)
    (three_made n c u v k sfile h other same)

placed_is : (n : List ℕ) (c : Plan) (u v : View) (k : List ℕ) → bytes_eq (z_file n) k ≡ false → u k ≡ v k
    → placed_of n c u v k ≡ placed v n (files_after n c u) k
placed_is n c u v k other same =
    ap (λ o. cond (bytes_eq n k) (s_of n c u) (cond (bytes_eq (p_file n) k) (p_of n c u) (cond (bytes_eq (drop 2 n) k)
    (g_of n c u) o))) (sym same ∙ l_taken n u v k (λ l. same))
    ∙ ap (λ z. cond (bytes_eq n k) (s_of n c u) (cond (bytes_eq (p_file n) k) (p_of n c u) (cond (bytes_eq (drop 2 n) k)
    (g_of n c u) (cond z None (with_l n u v k))))) (sym other)

ends_as : (x a b d : Option Content) → b ≡ d → Either x a b → Either x a d
ends_as x a b d is (inl e) = inl e
ends_as x a b d is (inr e) = inr (e ∙ is)

-- each file but the z-file is as it was, or as the commit makes it
pub part_at : (n : List ℕ) (c : Plan) (u v : View) (k : List ℕ) (i : ℕ) → IsSFileName n → is_working n k ≡ false
    → bytes_eq (z_file n) k ≡ false → u k ≡ v k
    → (part_of n c i u k ≡ v k) ⊎ (part_of n c i u k ≡ placed v n (files_after n c u) k)
part_at n c u v k i sfile h other same = ends_as _ _ _ _ (placed_is n c u v k other same)
    (parts n c u v k i sfile h other same)
