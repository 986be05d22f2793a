-- The s-files and p-files of a view after some of a commit's changes, and what recovers from it.
use Rattle.std.proofs.Common.{◌≡◌, ◌≤◌, ℕ, zero, suc, Bool, true, false, cond, List, drop, Option, None, is_some, inl}
use Rattle.std.proofs.Common.{inr, refl, sym, ap, subst, ◌∙◌, ⊎_elim, arith}
use Rattle.std.specs.Prelude.{IsSome}
use Rattle.std.specs.Str.{bytes_eq}
use Rattle.sccs_base.specs.Name.{IsSFileName, sibling, p_file, q_file, x_file, y_file, z_file}
use Rattle.sccs_base.proofs.SameBytes.{same_bytes}
use Rattle.sccs_disk.specs.Files.{Content, Model, View, view_of}
use Rattle.sccs_disk.specs.Images.{Full, Image}
use Rattle.sccs_disk.proofs.Puts.{name_cases, put_other, put_same}
use Rattle.sccs_name_files.proofs.Images.{full_image}
use Rattle.sccs_name_files.proofs.Owned.{firm_stays}
use Rattle.sccs_pfile.specs.Recovered.{recovered_pfile}
use Rattle.sccs_intents.specs.Intents.{intent_file}
use Rattle.sccs_crash_points.specs.CrashPoints.{Guards, IsNew, RecoversWith}
use Rattle.sccs_crash_points.specs.Recovery.{Pair, fate_at, is_kept, pair_of}
use Rattle.sccs_crash_points.proofs.CalmDisks.{firm_pairs, full_there}
use Rattle.sccs_crash_points.proofs.FileNames.{from_s, from_sfile, kept_intent, kept_p, kept_q, kept_s, kept_x, kept_z}
use Rattle.sccs_crash_points.proofs.FileNames.{sfile_and_intent, siblings_differ, to_s, to_sfile}
use Rattle.sccs_crash_points.proofs.Recovering.{LooksAlike, SameLooks, fate_same, looks_between, p_of, pair, pair_same}
use Rattle.sccs_crash_points.proofs.Recovering.{recovered_alike, recovered_at, recovered_same, recovered_under}
use Rattle.sccs_crash_points.proofs.Recovering.{recovers_from, s_of, sound_recovered}
use Rattle.sccs_crash_points.proofs.Untouched.{none_named, none_replaced}
use Rattle.sccs_store.specs.Commits.{Plan, chosen, committed, files_after, g_swapped, p_swapped, part_of, s_swapped}
use Rattle.sccs_store.specs.Commits.{swapped}
use Rattle.sccs_store.specs.Stops.{CanCommit, OnChange, OnReplace}
use Rattle.sccs_store.specs.declared.new_files.NewFile.{NewFile}
use Rattle.sccs_store.specs.declared.new_files.NewFile.TheVariants.{Keep, Replace, Remove}
use Rattle.sccs_store.proofs.Committed.{swapped_at}
use Rattle.sccs_store.proofs.Swaps.{swapped_other}

-- ---- one change

-- what stands in the place of a swap afterwards
placed_there : (new : NewFile) (from to : List ℕ) (v : View) → bytes_eq from to ≡ false → swapped new from to v to
    ≡ chosen new (v from) (v to)
placed_there new from to v h = swapped_at new from to v to h ∙ ap (λ (b : Bool). cond b (chosen new (v from) (v to))
    (v to)) (same_bytes to)

-- a swap that changes something leaves the other names
unchanged : (new : NewFile) (from to : List ℕ) (v : View) (k : List ℕ) → bytes_eq from k ≡ false
    → OnChange new (bytes_eq to k ≡ false) → swapped new from to v k ≡ v k
unchanged Keep from to v k a b = refl
unchanged Replace from to v k a b = swapped_other Replace from to v k a b
unchanged Remove from to v k a b = swapped_other Remove from to v k a b

on_change : {P Q : Type 0} (new : NewFile) → (P → Q) → OnChange new P → OnChange new Q
on_change Keep f p = tt
on_change Replace f p = f p
on_change Remove f p = f p

-- the g-file is none of these
abbrev IsElse : List ℕ → Plan → List ℕ → Type 0
IsElse n c k = OnChange c.g (bytes_eq (drop 2 n) k ≡ false)

else_s : (n : List ℕ) (c : Plan) (k : List ℕ) → OnChange c.g (is_kept (drop 2 n) ≡ false) → IsSFileName k → IsElse n c k
else_s n c k plain sfile = on_change c.g (λ h. kept_s (drop 2 n) k h sfile) plain

else_p : (n : List ℕ) (c : Plan) (k : List ℕ) → OnChange c.g (is_kept (drop 2 n) ≡ false) → IsSFileName k
    → IsElse n c (p_file k)
else_p n c k plain sfile = on_change c.g (λ h. kept_p (drop 2 n) k h sfile) plain

else_z : (n : List ℕ) (c : Plan) (k : List ℕ) → OnChange c.g (is_kept (drop 2 n) ≡ false) → IsSFileName k
    → IsElse n c (z_file k)
else_z n c k plain sfile = on_change c.g (λ h. kept_z (drop 2 n) k h sfile) plain

else_x : (n : List ℕ) (c : Plan) (k : List ℕ) → OnChange c.g (is_kept (drop 2 n) ≡ false) → IsSFileName k
    → IsElse n c (x_file k)
else_x n c k plain sfile = on_change c.g (λ h. kept_x (drop 2 n) k h sfile) plain

else_q : (n : List ℕ) (c : Plan) (k : List ℕ) → OnChange c.g (is_kept (drop 2 n) ≡ false) → IsSFileName k
    → IsElse n c (q_file k)
else_q n c k plain sfile = on_change c.g (λ h. kept_q (drop 2 n) k h sfile) plain

else_intent : (n : List ℕ) (c : Plan) → OnChange c.g (is_kept (drop 2 n) ≡ false) → IsElse n c intent_file
else_intent n c plain = on_change c.g (λ h. kept_intent (drop 2 n) h) plain

-- ---- names that a commit doesn't change

-- none of the names that a commit changes
record IsApart (n : List ℕ) (c : Plan) (k : List ℕ) : Type 0 where
  x : bytes_eq (x_file n) k ≡ false
  s : bytes_eq n k ≡ false
  q : bytes_eq (q_file n) k ≡ false
  p : bytes_eq (p_file n) k ≡ false
  y : bytes_eq (y_file n) k ≡ false
  g : IsElse n c k
  z : bytes_eq (z_file n) k ≡ false

apart_first : (n : List ℕ) (c : Plan) (u : View) (k : List ℕ) → IsApart n c k → part_of n c 1 u k ≡ u k
apart_first n c u k apart = swapped_other c.s (x_file n) n u k apart.x apart.s

apart_second : (n : List ℕ) (c : Plan) (u : View) (k : List ℕ) → IsApart n c k → part_of n c 2 u k ≡ u k
apart_second n c u k apart = swapped_other c.p (q_file n) (p_file n) (s_swapped n c u) k apart.q apart.p
    ∙ apart_first n c u k apart

apart_third : (n : List ℕ) (c : Plan) (u : View) (k : List ℕ) → IsApart n c k → part_of n c 3 u k ≡ u k
apart_third n c u k apart = unchanged c.g (y_file n) (drop 2 n) (p_swapped n c (s_swapped n c u)) k apart.y apart.g
    ∙ apart_second n c u k apart

part_apart : (n : List ℕ) (c : Plan) (u : View) (k : List ℕ) → IsApart n c k → (i : ℕ) → part_of n c i u k ≡ u k
part_apart n c u k apart zero = refl
part_apart n c u k apart (suc zero) = apart_first n c u k apart
part_apart n c u k apart (suc (suc zero)) = apart_second n c u k apart
part_apart n c u k apart (suc (suc (suc zero))) = apart_third n c u k apart
part_apart n c u k apart (suc (suc (suc (suc i)))) = put_other (g_swapped n c (p_swapped n c (s_swapped n c u)))
    (z_file n) k None apart.z ∙ apart_third n c u k apart

apart_s : (n : List ℕ) (c : Plan) (k : List ℕ) → OnChange c.g (is_kept (drop 2 n) ≡ false) → IsSFileName n
    → IsSFileName k → bytes_eq n k ≡ false → IsApart n c k
apart_s n c k plain sfile other apart = record {
  x = from_sfile 120 n k other refl;
  s = apart;
  q = from_sfile 113 n k other refl;
  p = from_sfile 112 n k other refl;
  y = from_sfile 121 n k other refl;
  g = else_s n c k plain other;
  z = from_sfile 122 n k other refl;
}

apart_p : (n : List ℕ) (c : Plan) (k : List ℕ) → OnChange c.g (is_kept (drop 2 n) ≡ false) → IsSFileName n
    → IsSFileName k → bytes_eq n k ≡ false → IsApart n c (p_file k)
apart_p n c k plain sfile other apart = record {
  x = refl;
  s = to_sfile 112 n k sfile refl;
  q = refl;
  p = siblings_differ 112 n k sfile other apart;
  y = refl;
  g = else_p n c k plain other;
  z = refl;
}

apart_z : (n : List ℕ) (c : Plan) (k : List ℕ) → OnChange c.g (is_kept (drop 2 n) ≡ false) → IsSFileName n
    → IsSFileName k → bytes_eq n k ≡ false → IsApart n c (z_file k)
apart_z n c k plain sfile other apart = record {
  x = refl;
  s = to_sfile 122 n k sfile refl;
  q = refl;
  p = refl;
  y = refl;
  g = else_z n c k plain other;
  z = siblings_differ 122 n k sfile other apart;
}

apart_x : (n : List ℕ) (c : Plan) (k : List ℕ) → OnChange c.g (is_kept (drop 2 n) ≡ false) → IsSFileName n
    → IsSFileName k → bytes_eq n k ≡ false → IsApart n c (x_file k)
apart_x n c k plain sfile other apart = record {
  x = siblings_differ 120 n k sfile other apart;
  s = to_sfile 120 n k sfile refl;
  q = refl;
  p = refl;
  y = refl;
  g = else_x n c k plain other;
  z = refl;
}

apart_q : (n : List ℕ) (c : Plan) (k : List ℕ) → OnChange c.g (is_kept (drop 2 n) ≡ false) → IsSFileName n
    → IsSFileName k → bytes_eq n k ≡ false → IsApart n c (q_file k)
apart_q n c k plain sfile other apart = record {
  x = refl;
  s = to_sfile 113 n k sfile refl;
  q = siblings_differ 113 n k sfile other apart;
  p = refl;
  y = refl;
  g = else_q n c k plain other;
  z = refl;
}

apart_intent : (n : List ℕ) (c : Plan) → OnChange c.g (is_kept (drop 2 n) ≡ false) → IsSFileName n
    → IsApart n c intent_file
apart_intent n c plain sfile = record {
  x = refl;
  s = sfile_and_intent n sfile;
  q = refl;
  p = refl;
  y = refl;
  g = else_intent n c plain;
  z = refl;
}

-- ---- the files of the commit's name

-- its s-file and its p-file after so many changes
abbrev s_after : List ℕ → Plan → View → ℕ → Option Content
s_after n c u zero = u n
s_after n c u (suc i) = (files_after n c u).s

abbrev p_after : List ℕ → Plan → View → ℕ → Option Content
p_after n c u zero = u (p_file n)
p_after n c u (suc zero) = u (p_file n)
p_after n c u (suc (suc i)) = (files_after n c u).p

s_first : (n : List ℕ) (c : Plan) (u : View) → IsSFileName n → part_of n c 1 u n ≡ (files_after n c u).s
s_first n c u sfile = placed_there c.s (x_file n) n u (from_s 120 n sfile refl)

s_second : (n : List ℕ) (c : Plan) (u : View) → IsSFileName n → part_of n c 2 u n ≡ (files_after n c u).s
s_second n c u sfile = swapped_other c.p (q_file n) (p_file n) (s_swapped n c u) n (from_s 113 n sfile refl)
    (from_s 112 n sfile refl) ∙ s_first n c u sfile

s_third : (n : List ℕ) (c : Plan) (u : View) → OnChange c.g (is_kept (drop 2 n) ≡ false) → IsSFileName n
    → part_of n c 3 u n ≡ (files_after n c u).s
s_third n c u plain sfile = unchanged c.g (y_file n) (drop 2 n) (p_swapped n c (s_swapped n c u)) n
    (from_s 121 n sfile refl) (else_s n c n plain sfile) ∙ s_second n c u sfile

s_part : (n : List ℕ) (c : Plan) (u : View) → OnChange c.g (is_kept (drop 2 n) ≡ false) → IsSFileName n → (i : ℕ)
    → part_of n c i u n ≡ s_after n c u i
s_part n c u plain sfile zero = refl
s_part n c u plain sfile (suc zero) = s_first n c u sfile
s_part n c u plain sfile (suc (suc zero)) = s_second n c u sfile
s_part n c u plain sfile (suc (suc (suc zero))) = s_third n c u plain sfile
s_part n c u plain sfile (suc (suc (suc (suc i)))) = put_other (g_swapped n c (p_swapped n c (s_swapped n c u)))
    (z_file n) n None (from_s 122 n sfile refl) ∙ s_third n c u plain sfile

after_s : (n : List ℕ) (c : Plan) (u : View) (letter : ℕ) → IsSFileName n → bytes_eq (x_file n) (sibling letter n)
    ≡ false → bytes_eq (sibling 115 n) (sibling letter n) ≡ false → s_swapped n c u (sibling letter n) ≡ u
    (sibling letter n)
after_s n c u letter sfile x s = swapped_other c.s (x_file n) n u (sibling letter n) x (to_s letter n sfile s)

p_second : (n : List ℕ) (c : Plan) (u : View) → IsSFileName n → part_of n c 2 u (p_file n) ≡ (files_after n c u).p
p_second n c u sfile =
    placed_there c.p (q_file n) (p_file n) (s_swapped n c u) refl
    ∙ (ap (λ (o : Option Content). chosen c.p o (s_swapped n c u (p_file n))) (after_s n c u 113 sfile refl refl)
    ∙ ap (λ (o : Option Content). chosen c.p (u (q_file n)) o) (after_s n c u 112 sfile refl refl))

p_third : (n : List ℕ) (c : Plan) (u : View) → OnChange c.g (is_kept (drop 2 n) ≡ false) → IsSFileName n
    → part_of n c 3 u (p_file n) ≡ (files_after n c u).p
p_third n c u plain sfile = unchanged c.g (y_file n) (drop 2 n) (p_swapped n c (s_swapped n c u)) (p_file n) refl
    (else_p n c n plain sfile) ∙ p_second n c u sfile

p_part : (n : List ℕ) (c : Plan) (u : View) → OnChange c.g (is_kept (drop 2 n) ≡ false) → IsSFileName n → (i : ℕ)
    → part_of n c i u (p_file n) ≡ p_after n c u i
p_part n c u plain sfile zero = refl
p_part n c u plain sfile (suc zero) = after_s n c u 112 sfile refl refl
p_part n c u plain sfile (suc (suc zero)) = p_second n c u sfile
p_part n c u plain sfile (suc (suc (suc zero))) = p_third n c u plain sfile
p_part n c u plain sfile (suc (suc (suc (suc i)))) = p_third n c u plain sfile

-- the pair of the name after a commit
pub committed_pair : (n : List ℕ) (c : Plan) (u : View) → OnChange c.g (is_kept (drop 2 n) ≡ false) → IsSFileName n
    → pair_of (committed n c u) n ≡ pair (files_after n c u).s (files_after n c u).p
committed_pair n c u plain sfile = pair_same _ _ _ _ (s_part n c u plain sfile 4) (p_part n c u plain sfile 4)

-- the z-file is as it was before the last change, and gone after it
z_first : (n : List ℕ) (c : Plan) (u : View) → IsSFileName n → part_of n c 1 u (z_file n) ≡ u (z_file n)
z_first n c u sfile = after_s n c u 122 sfile refl refl

z_second : (n : List ℕ) (c : Plan) (u : View) → IsSFileName n → part_of n c 2 u (z_file n) ≡ u (z_file n)
z_second n c u sfile = swapped_other c.p (q_file n) (p_file n) (s_swapped n c u) (z_file n) refl refl
    ∙ z_first n c u sfile

z_third : (n : List ℕ) (c : Plan) (u : View) → OnChange c.g (is_kept (drop 2 n) ≡ false) → IsSFileName n
    → part_of n c 3 u (z_file n) ≡ u (z_file n)
z_third n c u plain sfile = unchanged c.g (y_file n) (drop 2 n) (p_swapped n c (s_swapped n c u)) (z_file n) refl
    (else_z n c n plain sfile) ∙ z_second n c u sfile

z_part : (n : List ℕ) (c : Plan) (u : View) → OnChange c.g (is_kept (drop 2 n) ≡ false) → IsSFileName n → (i : ℕ)
    → i ≤ 3 → part_of n c i u (z_file n) ≡ u (z_file n)
z_part n c u plain sfile zero low = refl
z_part n c u plain sfile (suc zero) low = z_first n c u sfile
z_part n c u plain sfile (suc (suc zero)) low = z_second n c u sfile
z_part n c u plain sfile (suc (suc (suc zero))) low = z_third n c u plain sfile
z_part n c u plain sfile (suc (suc (suc (suc i)))) low = absurd (omega (arith, low))

-- ---- images of a model that can commit, with all operations made

chosen_firm : (new : NewFile) (a b x y : Option Content) → OnReplace new (a ≡ b) → x ≡ y
    → chosen new a x ≡ chosen new b y
chosen_firm Keep a b x y firm e = e
chosen_firm Replace a b x y firm e = firm
chosen_firm Remove a b x y firm e = refl

on_replace : {P Q : Type 0} (new : NewFile) → (P → Q) → OnReplace new P → OnReplace new Q
on_replace Keep f p = tt
on_replace Replace f p = f p
on_replace Remove f p = tt

s_files : (n : List ℕ) (c : Plan) (m : Model) (u : View) → IsSFileName n → CanCommit n c m → Full m u → (i : ℕ)
    → s_after n c u i ≡ s_after n c (view_of m) i
s_files n c m u sfile can full zero = ap s_of (firm_pairs m u can.firm full n sfile)
s_files n c m u sfile can full (suc i) =
    chosen_firm c.s _ _ _ _ (on_replace c.s (λ firm. firm_stays (x_file n) m u firm full) can.x_state)
    (ap s_of (firm_pairs m u can.firm full n sfile))

p_files : (n : List ℕ) (c : Plan) (m : Model) (u : View) → IsSFileName n → CanCommit n c m → Full m u → (i : ℕ)
    → p_after n c u i ≡ p_after n c (view_of m) i
p_files n c m u sfile can full zero = ap p_of (firm_pairs m u can.firm full n sfile)
p_files n c m u sfile can full (suc zero) = ap p_of (firm_pairs m u can.firm full n sfile)
p_files n c m u sfile can full (suc (suc i)) =
    chosen_firm c.p _ _ _ _ (on_replace c.p (λ firm. firm_stays (q_file n) m u firm full) can.q_state)
    (ap p_of (firm_pairs m u can.firm full n sfile))

-- the pair of the commit's name after so many changes
own_pair : (n : List ℕ) (c : Plan) (m : Model) (u : View) → IsSFileName n → CanCommit n c m → Full m u → (i : ℕ)
    → pair_of (part_of n c i u) n ≡ pair (s_after n c (view_of m) i) (p_after n c (view_of m) i)
own_pair n c m u sfile can full i =
    pair_same _ _ _ _ (s_part n c u can.plain sfile i ∙ s_files n c m u sfile can full i)
    (p_part n c u can.plain sfile i ∙ p_files n c m u sfile can full i)

other_pair : (n k : List ℕ) (c : Plan) (m : Model) (u : View) → IsSFileName n → IsSFileName k → bytes_eq n k ≡ false
    → CanCommit n c m → Full m u → (i : ℕ) → pair_of (part_of n c i u) k ≡ pair_of (view_of m) k
other_pair n k c m u sfile other apart can full i =
    pair_same _ _ _ _ (part_apart n c u k (apart_s n c k can.plain sfile other apart) i) (part_apart n c u (p_file k)
    (apart_p n c k can.plain sfile other apart) i)
    ∙ firm_pairs m u can.firm full k other

-- the intent is as in the view
intent_same : (n : List ℕ) (c : Plan) (m : Model) (u : View) → IsSFileName n → CanCommit n c m → Full m u → (i : ℕ)
    → part_of n c i u intent_file ≡ view_of m intent_file
intent_same n c m u sfile can full i = part_apart n c u intent_file (apart_intent n c can.plain sfile) i
    ∙ firm_stays intent_file m u can.firm.intent full

-- it doesn't name the commit's name
still_unnamed : (n : List ℕ) (c : Plan) (m : Model) (u : View) → IsSFileName n → CanCommit n c m → Full m u → (i : ℕ)
    → fate_at (part_of n c i u) n ≡ None
still_unnamed n c m u sfile can full i = fate_same n (view_of m) (part_of n c i u)
    (intent_same n c m u sfile can full i) ∙ can.unnamed

-- recovery sees other names as in the view
other_looks : (n k : List ℕ) (c : Plan) (m : Model) (u : View) → IsSFileName n → IsSFileName k → bytes_eq n k ≡ false
    → CanCommit n c m → Full m u → (i : ℕ) → LooksAlike k (view_of m) (part_of n c i u)
other_looks n k c m u sfile other apart can full i = record {
  fate = fate_same k (view_of m) (part_of n c i u) (intent_same n c m u sfile can full i);
  s = ap s_of (other_pair n k c m u sfile other apart can full i);
  p = ap p_of (other_pair n k c m u sfile other apart can full i);
  z = ap is_some (part_apart n c u (z_file k) (apart_z n c k can.plain sfile other apart) i)
      ∙ full_there m u full (z_file k);
  x = λ named. part_apart n c u (x_file k) (apart_x n c k can.plain sfile other apart) i ∙ firm_stays (x_file k) m u
      (can.firm.x_files k other named) full;
  q = λ named. part_apart n c u (q_file k) (apart_q n c k can.plain sfile other apart) i ∙ firm_stays (q_file k) m u
      (can.firm.q_files k other named) full;
}

-- whether the z-file is there doesn't depend on the image
z_now : (n : List ℕ) (c : Plan) (m : Model) (u : View) → IsSFileName n → CanCommit n c m → Full m u → (i : ℕ) → i ≤ 3
    → is_some (part_of n c i u (z_file n)) ≡ is_some (view_of m (z_file n))
z_now n c m u sfile can full i low = ap is_some (z_part n c u can.plain sfile i low) ∙ full_there m u full (z_file n)

z_same : (n : List ℕ) (c : Plan) (m : Model) (u u2 : View) → IsSFileName n → CanCommit n c m → Full m u → Full m u2
    → (i : ℕ) → is_some (part_of n c i u (z_file n)) ≡ is_some (part_of n c i u2 (z_file n))
z_same n c m u u2 sfile can full full2 zero = z_now n c m u sfile can full 0 (omega arith)
    ∙ sym (z_now n c m u2 sfile can full2 0 (omega arith))
z_same n c m u u2 sfile can full full2 (suc zero) = z_now n c m u sfile can full 1 (omega arith)
    ∙ sym (z_now n c m u2 sfile can full2 1 (omega arith))
z_same n c m u u2 sfile can full full2 (suc (suc zero)) = z_now n c m u sfile can full 2 (omega arith)
    ∙ sym (z_now n c m u2 sfile can full2 2 (omega arith))
z_same n c m u u2 sfile can full full2 (suc (suc (suc zero))) = z_now n c m u sfile can full 3 (omega arith)
    ∙ sym (z_now n c m u2 sfile can full2 3 (omega arith))
z_same n c m u u2 sfile can full full2 (suc (suc (suc (suc i)))) =
    ap is_some (put_same (g_swapped n c (p_swapped n c (s_swapped n c u))) (z_file n) None
    ∙ sym (put_same (g_swapped n c (p_swapped n c (s_swapped n c u2))) (z_file n) None))

own_looks : (n : List ℕ) (c : Plan) (m : Model) (u u2 : View) → IsSFileName n → CanCommit n c m → Full m u → Full m u2
    → (i : ℕ) → LooksAlike n (part_of n c i u2) (part_of n c i u)
own_looks n c m u u2 sfile can full full2 i = record {
  fate = still_unnamed n c m u sfile can full i ∙ sym (still_unnamed n c m u2 sfile can full2 i);
  s = ap s_of (own_pair n c m u sfile can full i ∙ sym (own_pair n c m u2 sfile can full2 i));
  p = ap p_of (own_pair n c m u sfile can full i ∙ sym (own_pair n c m u2 sfile can full2 i));
  z = z_same n c m u u2 sfile can full full2 i;
  x = λ named. absurd (none_named (fate_at (part_of n c i u2) n) (still_unnamed n c m u2 sfile can full2 i) named);
  q = λ named. absurd (none_replaced (fate_at (part_of n c i u2) n) (still_unnamed n c m u2 sfile can full2 i) named);
}

-- what recovery sees doesn't depend on the image
pub same_looks : (n : List ℕ) (c : Plan) (m : Model) (u u2 : View) → IsSFileName n → CanCommit n c m → Full m u
    → Full m u2 → (i : ℕ) → SameLooks (part_of n c i u2) (part_of n c i u)
same_looks n c m u u2 sfile can full full2 i = record {
  intent = intent_same n c m u sfile can full i ∙ sym (intent_same n c m u2 sfile can full2 i);
  looks = λ k other. ⊎_elim (λ e. subst (λ l. LooksAlike l (part_of n c i u2) (part_of n c i u)) e
      (own_looks n c m u u2 sfile can full full2 i))
      (λ apart. looks_between k (view_of m) (part_of n c i u2) (part_of n c i u)
      (other_looks n k c m u2 sfile other apart can full2 i) (other_looks n k c m u sfile other apart can full i))
      (name_cases n k);
}

-- ---- guards

z_there : (n : List ℕ) (c : Plan) (m : Model) (u : View) → IsSFileName n → CanCommit n c m → Full m u
    → IsSome (view_of m (z_file n)) → (i : ℕ) → i ≤ 3 → IsSome (part_of n c i u (z_file n))
z_there n c m u sfile can full there i low = ap is_some (z_part n c u can.plain sfile i low)
    ∙ (full_there m u full (z_file n) ∙ there)

-- up to the third change the z-file is there
pub guards_change : (n : List ℕ) (c : Plan) (m : Model) → IsSFileName n → CanCommit n c m
    → IsSome (view_of m (z_file n)) → (i : ℕ) → suc i ≤ 3 → (u u2 : View) → Full m u → Full m u2
    → Guards (part_of n c i u) (part_of n c (suc i) u2)
guards_change n c m sfile can there i low u u2 full full2 = λ k other.
    ⊎_elim (λ e. inr (subst (λ l. IsSome (part_of n c i u (z_file l)) × IsSome (part_of n c (suc i) u2 (z_file l))) e
    (z_there n c m u sfile can full there i (omega (arith, low)), z_there n c m u2 sfile can full2 there (suc i) low)))
    (λ apart. inl (other_pair n k c m u2 sfile other apart can full2 (suc i)
    ∙ sym (other_pair n k c m u sfile other apart can full i)))
    (name_cases n k)

-- the last one changes no s-file and no p-file
pub guards_last : (n : List ℕ) (c : Plan) (m : Model) → IsSFileName n → CanCommit n c m → (u u2 : View) → Full m u
    → Full m u2 → Guards (part_of n c 3 u) (part_of n c 4 u2)
guards_last n c m sfile can u u2 full full2 = λ k other.
    ⊎_elim (λ e. inl (subst (λ l. pair_of (part_of n c 4 u2) l ≡ pair_of (part_of n c 3 u) l) e
    (own_pair n c m u2 sfile can full2 4 ∙ sym (own_pair n c m u sfile can full 3))))
    (λ apart. inl (other_pair n k c m u2 sfile other apart can full2 4
    ∙ sym (other_pair n k c m u sfile other apart can full 3)))
    (name_cases n k)

-- ---- recovery

-- the pair of the name after the commit
abbrev new_pair : List ℕ → Plan → Model → Pair
new_pair n c m = pair (files_after n c (view_of m)).s (files_after n c (view_of m)).p

new_recovered : (n : List ℕ) (c : Plan) (m : Model) → CanCommit n c m → (w : View) → fate_at w n ≡ None
    → pair_of w n ≡ new_pair n c m → recovered_at w n ≡ new_pair n c m
new_recovered n c m can w none same =
    recovered_under n w None none
    ∙ (recovered_same (w n) (files_after n c (view_of m)).s (w (p_file n)) (files_after n c (view_of m)).p
    (is_some (w (z_file n))) (is_some (w (z_file n))) (ap s_of same) (ap p_of same) refl
    ∙ sound_recovered (files_after n c (view_of m)).s (files_after n c (view_of m)).p (is_some (w (z_file n)))
    can.entries.sound)

other_recovered : (n k : List ℕ) (c : Plan) (m : Model) (u : View) → IsSFileName n → IsSFileName k
    → bytes_eq n k ≡ false → CanCommit n c m → Full m u → (i : ℕ) → recovered_at (part_of n c i u) k ≡ recovered_at
    (view_of m) k
other_recovered n k c m u sfile other apart can full i = recovered_alike k (view_of m) (part_of n c i u)
    (other_looks n k c m u sfile other apart can full i)

-- a view whose name recovers to the new pair after so many changes recovers as the new view
recovers_new : (n : List ℕ) (c : Plan) (m : Model) (u v : View) → IsSFileName n → CanCommit n c m → Full m u → Full m v
    → (i : ℕ) → recovered_at (part_of n c i u) n ≡ new_pair n c m → RecoversWith (committed n c v) (part_of n c i u)
recovers_new n c m u v sfile can full full2 i own = record {
  recovers = recovers_from (committed n c v) (part_of n c i u)
      (λ k other. ⊎_elim (λ e. subst (λ l. recovered_at (part_of n c i u) l ≡ recovered_at (committed n c v) l) e (own
      ∙ sym (new_recovered n c m can (committed n c v) (still_unnamed n c m v sfile can full2 4)
      (own_pair n c m v sfile can full2 4))))
      (λ apart. other_recovered n k c m u sfile other apart can full i
      ∙ sym (other_recovered n k c m v sfile other apart can full2 4)) (name_cases n k));
  intent =
      part_apart n c u intent_file (apart_intent n c can.plain sfile) i
      ∙ (firm_stays intent_file m u can.firm.intent full ∙ (sym (firm_stays intent_file m v can.firm.intent full2)
      ∙ sym (part_apart n c v intent_file (apart_intent n c can.plain sfile) 4)));
}

-- after the second change and later
pub later_new : (n : List ℕ) (c : Plan) (m : Model) (u v : View) → IsSFileName n → CanCommit n c m → Full m u → Full m v
    → (i : ℕ) → RecoversWith (committed n c v) (part_of n c (suc (suc i)) u)
later_new n c m u v sfile can full full2 i =
    recovers_new n c m u v sfile can full full2 (suc (suc i)) (new_recovered n c m can (part_of n c (suc (suc i)) u)
    (still_unnamed n c m u sfile can full (suc (suc i))) (own_pair n c m u sfile can full (suc (suc i))))

-- after the first: recovery takes the entries away that the new p-file doesn't have
first_recovered : (n : List ℕ) (c : Plan) (m : Model) (u : View) → IsSFileName n → CanCommit n c m → Full m u
    → IsSome (view_of m (z_file n))
    → recovered_pfile (files_after n c (view_of m)).s (view_of m (p_file n)) ≡ (files_after n c (view_of m)).p
    → recovered_at (part_of n c 1 u) n ≡ new_pair n c m
first_recovered n c m u sfile can full there leaves =
    recovered_under n (part_of n c 1 u) None (still_unnamed n c m u sfile can full 1)
    ∙ (recovered_same _ (files_after n c (view_of m)).s _ (view_of m (p_file n)) _ true
    (ap s_of (own_pair n c m u sfile can full 1)) (ap p_of (own_pair n c m u sfile can full 1))
    (z_there n c m u sfile can full there 1 (omega arith))
    ∙ ap (λ (o : Option Content). pair (files_after n c (view_of m)).s o) leaves)

first_by : (n : List ℕ) (c : Plan) (m : Model) (u v : View) → IsSFileName n → CanCommit n c m → Full m u → Full m v
    → IsSome (view_of m (z_file n)) → (new : NewFile) → c.s ≡ new → IsNew m (committed n c v) 0 (part_of n c 1 u)
first_by n c m u v sfile can full full2 there Keep is =
    inr (refl, subst (λ (x : NewFile). Image m (swapped x (x_file n) n u)) (sym is) (full_image m u full))
first_by n c m u v sfile can full full2 there Replace is =
    inl (recovers_new n c m u v sfile can full full2 1 (first_recovered n c m u sfile can full there
    (subst (λ (x : NewFile). OnChange x (recovered_pfile (files_after n c (view_of m)).s (view_of m (p_file n))
    ≡ (files_after n c (view_of m)).p)) is can.entries.leaves)))
first_by n c m u v sfile can full full2 there Remove is =
    inl (recovers_new n c m u v sfile can full full2 1 (first_recovered n c m u sfile can full there
    (subst (λ (x : NewFile). OnChange x (recovered_pfile (files_after n c (view_of m)).s (view_of m (p_file n))
    ≡ (files_after n c (view_of m)).p)) is can.entries.leaves)))

pub first_new : (n : List ℕ) (c : Plan) (m : Model) (u v : View) → IsSFileName n → CanCommit n c m → Full m u → Full m v
    → IsSome (view_of m (z_file n)) → IsNew m (committed n c v) 0 (part_of n c 1 u)
first_new n c m u v sfile can full full2 there = first_by n c m u v sfile can full full2 there c.s refl
