-- The files of different names.
use Rattle.std.proofs.Common.{◌≡◌, ℕ, Bool, true, false, ◌||◌, cond, List, [], ◌∷◌, ◌++◌, drop, Option, None, Some}
use Rattle.std.proofs.Common.{refl, sym, ap, subst, ◌∙◌, ⊎_elim}
use Rattle.std.specs.List.{AllByRecursion}
use Rattle.std.specs.Str.{bytes_eq}
use Rattle.sccs_base.specs.Name.{IsSFileName, p_file, q_file, sibling, x_file, y_file, z_file}
use Rattle.sccs_base.proofs.SameBytes.{bytes_eq_sym, other_bytes, same_bytes}
use Rattle.sccs_disk.specs.Files.{Content, View, put}
use Rattle.sccs_disk.proofs.Puts.{name_cases, put_other, put_same}
use Rattle.sccs_name_files.specs.StepFiles.{Alike, Files, is_left, l_file, moved}
use Rattle.sccs_intents.specs.Intents.{intent_file, plan_file}
use Rattle.sccs_crash_points.specs.Recovery.{begins_by_letter, is_kept}
use Rattle.sccs_crash_points.proofs.FileNames.{intent_and_sfile, left_q, left_s, left_x, left_z, siblings_differ}
use Rattle.sccs_crash_points.proofs.FileNames.{sfile_is, to_sfile, from_sfile, plan_and_sfile}
use Rattle.sccs_group_command.specs.LFiles.{files_with_l}
use Rattle.sccs_group_command.specs.Preparing.{IsPlainName, is_among, is_any_left}
use Rattle.std.proofs.lemmas.Bool.{or_from}
use Rattle.sccs_base.proofs.Bools.{right_false, left_false}

-- ---- one name and another

pub left_p : (n k : List ℕ) → is_left n (p_file k) ≡ false
left_p n k = refl

pub left_y : (n k : List ℕ) → IsSFileName n → IsSFileName k → bytes_eq n k ≡ false → is_left n (y_file k) ≡ false
left_y n k sfile other apart = or_from _ false (siblings_differ 121 n k sfile other apart) refl

-- a name that begins with no such letter
pub begins_not : (letter : ℕ) (k l : List ℕ) → begins_by_letter letter k ≡ false → IsSFileName l
    → bytes_eq (sibling letter l) k ≡ false
begins_not letter k [] not_so sfile = absurd (let e = sfile.front in cc)
begins_not letter k (b ∷ []) not_so sfile = absurd (let e = sfile.front in cc)
begins_not letter k (b ∷ d ∷ rest) not_so sfile =
    other_bytes (letter ∷ d ∷ rest) k
    (λ e. let dot : d ≡ 46 = let f = sfile.front in cc in
    let same : begins_by_letter letter k ≡ true = subst (λ (l : List ℕ). begins_by_letter letter l ≡ true) e
    (subst (λ c. begins_by_letter letter (letter ∷ c ∷ rest) ≡ true) (sym dot) (same_bytes (letter ∷ 46 ∷ []))) in
    absurd (cc))

-- an s-file's name has two bytes before that of its g-file
two_and_rest : (n : List ℕ) → IsSFileName n → n ≡ 115 ∷ 46 ∷ drop 2 n
two_and_rest [] sfile = absurd (let e = sfile.front in cc)
two_and_rest (b ∷ []) sfile = absurd (let e = sfile.front in cc)
two_and_rest (b ∷ d ∷ rest) sfile = ap (λ (l : List ℕ). l ++ rest) sfile.front

modules_differ : (n k : List ℕ) → IsSFileName n → IsSFileName k → bytes_eq n k ≡ false → bytes_eq (drop 2 n) (drop 2 k)
    ≡ false
modules_differ n k sfile other apart =
    other_bytes (drop 2 n) (drop 2 k)
    (λ e. let one : n ≡ k = two_and_rest n sfile ∙ (ap (λ (l : List ℕ). 115 ∷ 46 ∷ l) e ∙ sym (two_and_rest k other)) in
    let test : bytes_eq n k ≡ true = subst (λ l. bytes_eq n l ≡ true) one (same_bytes n) in
    absurd (cc))

pub unkept_z : (k : List ℕ) → is_kept k ≡ false → begins_by_letter 122 k ≡ false
unkept_z k h = left_false (begins_by_letter 122 k) _ (right_false (begins_by_letter 112 k) _
    (right_false (begins_by_letter 115 k) _ h))

unkept_x : (k : List ℕ) → is_kept k ≡ false → begins_by_letter 120 k ≡ false
unkept_x k h = left_false (begins_by_letter 120 k) _ (right_false (begins_by_letter 122 k) _
    (right_false (begins_by_letter 112 k) _ (right_false (begins_by_letter 115 k) _ h)))

unkept_q : (k : List ℕ) → is_kept k ≡ false → begins_by_letter 113 k ≡ false
unkept_q k h =
    left_false (begins_by_letter 113 k) _ (right_false (begins_by_letter 120 k) _
    (right_false (begins_by_letter 122 k) _ (right_false (begins_by_letter 112 k) _
    (right_false (begins_by_letter 115 k) _ h))))

unkept_p : (k : List ℕ) → is_kept k ≡ false → begins_by_letter 112 k ≡ false
unkept_p k h = left_false (begins_by_letter 112 k) _ (right_false (begins_by_letter 115 k) _ h)

unkept_s : (k : List ℕ) → is_kept k ≡ false → begins_by_letter 115 k ≡ false
unkept_s k h = left_false (begins_by_letter 115 k) _ h

-- the g-file of a plain name is no left file
pub left_g : (n k : List ℕ) → IsSFileName n → IsPlainName k → is_left n (drop 2 k) ≡ false
left_g n k sfile plain =
    or_from _ _
    (or_from _ _ (begins_not 120 (drop 2 k) n (unkept_x (drop 2 k) plain.kept) sfile)
    (or_from _ _ (begins_not 113 (drop 2 k) n (unkept_q (drop 2 k) plain.kept) sfile)
    (begins_not 121 (drop 2 k) n plain.y_free sfile)))
    (begins_not 122 (drop 2 k) n (unkept_z (drop 2 k) plain.kept) sfile)

-- The files of a name are none of these.
pub record IsOutside (mine : List ℕ → Bool) (n : List ℕ) : Type 0 where
  pub s : mine n ≡ false
  pub p : mine (p_file n) ≡ false
  pub z : mine (z_file n) ≡ false
  pub g : mine (drop 2 n) ≡ false
  pub x : mine (x_file n) ≡ false
  pub q : mine (q_file n) ≡ false
  pub y : mine (y_file n) ≡ false

pub outside_one : (n k : List ℕ) → IsSFileName n → IsSFileName k → bytes_eq n k ≡ false → IsPlainName k
    → IsOutside (is_left n) k
outside_one n k sfile other apart plain = record {
  s = left_s n k other;
  p = left_p n k;
  z = left_z n k sfile other apart;
  g = left_g n k sfile plain;
  x = left_x n k sfile other apart;
  q = left_q n k sfile other apart;
  y = left_y n k sfile other apart;
}

outside_both : (f g : List ℕ → Bool) (k : List ℕ) → IsOutside f k → IsOutside g k → IsOutside (λ l. f l || g l) k
outside_both f g k a b = record {
  s = or_from _ _ a.s b.s;
  p = or_from _ _ a.p b.p;
  z = or_from _ _ a.z b.z;
  g = or_from _ _ a.g b.g;
  x = or_from _ _ a.x b.x;
  q = or_from _ _ a.q b.q;
  y = or_from _ _ a.y b.y;
}

pub outside_any : (names : List (List ℕ)) (k : List ℕ) → AllByRecursion IsSFileName names → IsSFileName k
    → is_among names k ≡ false → IsPlainName k → IsOutside (is_any_left names) k
outside_any [] k sfiles other apart plain =
    record { s = refl; p = refl; z = refl; g = refl; x = refl; q = refl; y = refl }
outside_any (n ∷ names) k sfiles other apart plain =
    outside_both (is_left n) (is_any_left names) k (outside_one n k sfiles.0 other (left_false _ _ apart) plain)
    (outside_any names k sfiles.1 other (right_false _ _ apart) plain)

-- ---- views that have the same files of a name, but for its l-file

pub record SameFiles (n : List ℕ) (u v : View) : Type 0 where
  pub s : v n ≡ u n
  pub p : v (p_file n) ≡ u (p_file n)
  pub z : v (z_file n) ≡ u (z_file n)
  pub g : v (drop 2 n) ≡ u (drop 2 n)
  pub x : v (x_file n) ≡ u (x_file n)
  pub q : v (q_file n) ≡ u (q_file n)
  pub y : v (y_file n) ≡ u (y_file n)

pub same_files : (mine : List ℕ → Bool) (n : List ℕ) (u v : View) → IsOutside mine n → Alike mine v u → SameFiles n u v
same_files mine n u v out alike = record {
  s = alike n out.s;
  p = alike (p_file n) out.p;
  z = alike (z_file n) out.z;
  g = alike (drop 2 n) out.g;
  x = alike (x_file n) out.x;
  q = alike (q_file n) out.q;
  y = alike (y_file n) out.y;
}

-- ---- the files of one name placed

-- a file that isn't placed
pub placed_other : (n k : List ℕ) (v : View) (new : Option Files) → bytes_eq n k ≡ false → bytes_eq (p_file n) k ≡ false
    → bytes_eq (z_file n) k ≡ false → bytes_eq (drop 2 n) k ≡ false → bytes_eq (l_file n) k ≡ false
    → moved v n new k ≡ v k
placed_other n k v None s p z g l = refl
placed_other n k v (Some f) s p z g l =
    put_other (put (put (put (put v (l_file n) f.l) (z_file n) f.z) (drop 2 n) f.g) (p_file n) f.p) n k f.s s
    ∙ (put_other (put (put (put v (l_file n) f.l) (z_file n) f.z) (drop 2 n) f.g) (p_file n) k f.p p
    ∙ (put_other (put (put v (l_file n) f.l) (z_file n) f.z) (drop 2 n) k f.g g
    ∙ (put_other (put v (l_file n) f.l) (z_file n) k f.z z ∙ put_other v (l_file n) k f.l l)))

-- ---- where the l-file stays

-- it is put where it was
pub l_stays : (n : List ℕ) (v : View) (k : List ℕ) → put v (l_file n) (v (l_file n)) k ≡ v k
l_stays n v k = ⊎_elim (λ e. subst (λ (l : List ℕ). put v (l_file n) (v (l_file n)) l ≡ v l) e
    (put_same v (l_file n) (v (l_file n)))) (λ other. put_other v (l_file n) k (v (l_file n)) other)
    (name_cases (l_file n) k)

pub l_alike : (n k : List ℕ) (u v : View) → v k ≡ u k → put v (l_file n) (v (l_file n)) k ≡ put u (l_file n)
    (u (l_file n)) k
l_alike n k u v same = l_stays n v k ∙ (same ∙ sym (l_stays n u k))

-- views that agree in a file still do
pub placed_alike : (n k : List ℕ) (u v : View) (f : Files) → v k ≡ u k
    → moved v n (Some (files_with_l (v (l_file n)) f)) k ≡ moved u n (Some (files_with_l (u (l_file n)) f)) k
placed_alike n k u v f same = by (bytes_eq n k) (bytes_eq (p_file n) k) (bytes_eq (drop 2 n) k) (bytes_eq (z_file n) k)
  where
    by : (a b c d : Bool) → cond a f.s (cond b f.p (cond c f.g (cond d f.z (put v (l_file n) (v (l_file n)) k))))
        ≡ cond a f.s (cond b f.p (cond c f.g (cond d f.z (put u (l_file n) (u (l_file n)) k))))
    by a b c d = ap (λ (o : Option Content). cond a f.s (cond b f.p (cond c f.g (cond d f.z o)))) (l_alike n k u v same)

-- a file that isn't placed, whether it is the l-file or not
placed_apart : (n k : List ℕ) (v : View) (f : Files) → f.l ≡ v (l_file n) → bytes_eq n k ≡ false
    → bytes_eq (p_file n) k ≡ false → bytes_eq (z_file n) k ≡ false → bytes_eq (drop 2 n) k ≡ false
    → moved v n (Some f) k ≡ v k
placed_apart n k v f stays s p z g =
    put_other (put (put (put (put v (l_file n) f.l) (z_file n) f.z) (drop 2 n) f.g) (p_file n) f.p) n k f.s s
    ∙ (put_other (put (put (put v (l_file n) f.l) (z_file n) f.z) (drop 2 n) f.g) (p_file n) k f.p p
    ∙ (put_other (put (put v (l_file n) f.l) (z_file n) f.z) (drop 2 n) k f.g g
    ∙ (put_other (put v (l_file n) f.l) (z_file n) k f.z z ∙ (ap (λ (o : Option Content). put v (l_file n) o k) stays
    ∙ l_stays n v k))))

-- the files of another name are those before
pub files_elsewhere : (n k : List ℕ) (v : View) (f : Files) → f.l ≡ v (l_file n) → IsSFileName n → IsSFileName k
    → bytes_eq n k ≡ false → IsPlainName n → IsPlainName k → SameFiles k v (moved v n (Some f))
files_elsewhere n k v f stays sfile other apart plain plain2 = record {
  s = placed_apart n k v f stays apart (from_sfile 112 n k other refl) (from_sfile 122 n k other refl)
      (g_free (unkept_s (drop 2 n) plain.kept));
  p = placed_apart n (p_file k) v f stays (to_sfile 112 n k sfile refl) (siblings_differ 112 n k sfile other apart) refl
      (g_side 112 (unkept_p (drop 2 n) plain.kept));
  z = placed_apart n (z_file k) v f stays (to_sfile 122 n k sfile refl) refl (siblings_differ 122 n k sfile other apart)
      (g_side 122 (unkept_z (drop 2 n) plain.kept));
  g = placed_apart n (drop 2 k) v f stays (s_at (unkept_s (drop 2 k) plain2.kept)) (begins_not 112 (drop 2 k) n
      (unkept_p (drop 2 k) plain2.kept) sfile) (begins_not 122 (drop 2 k) n (unkept_z (drop 2 k) plain2.kept) sfile)
      (modules_differ n k sfile other apart);
  x = placed_apart n (x_file k) v f stays (to_sfile 120 n k sfile refl) refl refl
      (g_side 120 (unkept_x (drop 2 n) plain.kept));
  q = placed_apart n (q_file k) v f stays (to_sfile 113 n k sfile refl) refl refl
      (g_side 113 (unkept_q (drop 2 n) plain.kept));
  y = placed_apart n (y_file k) v f stays (to_sfile 121 n k sfile refl) refl refl (g_side 121 plain.y_free);
}
  where
    g_side : (letter : ℕ) → begins_by_letter letter (drop 2 n) ≡ false → bytes_eq (drop 2 n) (sibling letter k) ≡ false
    g_side letter h = bytes_eq_sym (drop 2 n) (sibling letter k) ∙ begins_not letter (drop 2 n) k h other

    g_free : begins_by_letter 115 (drop 2 n) ≡ false → bytes_eq (drop 2 n) k ≡ false
    g_free h = subst (λ (s : List ℕ). bytes_eq (drop 2 n) s ≡ false) (sym (sfile_is k other))
        (bytes_eq_sym (drop 2 n) (sibling 115 k) ∙ begins_not 115 (drop 2 n) k h other)

    s_at : begins_by_letter 115 (drop 2 k) ≡ false → bytes_eq n (drop 2 k) ≡ false
    s_at h = subst (λ (s : List ℕ). bytes_eq s (drop 2 k) ≡ false) (sym (sfile_is n sfile))
        (begins_not 115 (drop 2 k) n h sfile)

pub unkept_intent : (k : List ℕ) → is_kept k ≡ false → bytes_eq k intent_file ≡ false
unkept_intent k h =
    right_false (begins_by_letter 113 k) _ (right_false (begins_by_letter 120 k) _
    (right_false (begins_by_letter 122 k) _ (right_false (begins_by_letter 112 k) _
    (right_false (begins_by_letter 115 k) _ h))))

pub outside_intent : (n : List ℕ) → IsSFileName n → IsPlainName n
    → IsOutside (λ k. bytes_eq plan_file k || bytes_eq intent_file k) n
outside_intent n sfile plain = record {
  s = or_from _ _ (plan_and_sfile n sfile) (intent_and_sfile n sfile);
  p = refl;
  z = refl;
  g = or_from _ _ plain.plan_free (bytes_eq_sym intent_file (drop 2 n) ∙ unkept_intent (drop 2 n) plain.kept);
  x = refl;
  q = refl;
  y = refl;
}
