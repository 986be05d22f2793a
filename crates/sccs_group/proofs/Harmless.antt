-- Changes of a view after which recovery makes of it what it made before.
use Rattle.std.proofs.Common.{◌≡◌, ◌⊎◌, ℕ, Bool, true, false, cond, List, Option, None, Some, is_some, inl, inr, refl}
use Rattle.std.proofs.Common.{sym, ap, subst, ◌∙◌, ⊎_elim}
use Rattle.std.specs.Prelude.{IsSome}
use Rattle.std.specs.Str.{bytes_eq}
use Rattle.sccs_base.specs.Name.{IsSFileName, p_file, q_file, x_file, z_file}
use Rattle.sccs_disk.specs.Effects.{renamed}
use Rattle.sccs_disk.specs.Files.{Content, View, put}
use Rattle.sccs_disk.proofs.Puts.{name_cases, put_other, put_same}
use Rattle.sccs_intents.specs.Intents.{intent_file}
use Rattle.sccs_intents.specs.declared.intents.Fate.{Fate}
use Rattle.sccs_intents.specs.declared.intents.Fate.TheVariants.{Replaced, Removed}
use Rattle.sccs_crash_points.specs.Recovery.{IsSettledPair, IsSound, RecoversAs, fate_at, fated, is_kept, newer}
use Rattle.sccs_crash_points.specs.Recovery.{pair_of, without_name}
use Rattle.sccs_crash_points.proofs.FileNames.{from_sfile, kept_intent, kept_p, kept_q, kept_s, kept_x, kept_z}
use Rattle.sccs_crash_points.proofs.FileNames.{sfile_and_intent, siblings_differ, to_sfile}
use Rattle.sccs_crash_points.proofs.Recovering.{LooksAlike, SameLooks, fate_same, newer_same, pair_same}
use Rattle.sccs_crash_points.proofs.Recovering.{recovered_alike, recovered_at, recovered_under, recovers_from, sound_at}
use Rattle.sccs_crash_points.proofs.Untouched.{none_named, sound_kept}
use Rattle.sccs_group.specs.Finishing.{IsHeld, IsSettled}

-- ---- what one change leaves

pub renamed_other : (a b : List ℕ) (u : View) (l : List ℕ) → bytes_eq a l ≡ false → bytes_eq b l ≡ false
    → renamed a b u l ≡ u l
renamed_other a b u l from to = put_other (put u a None) b l (u a) to ∙ put_other u a l None from

pub renamed_from : (a b : List ℕ) (u : View) → bytes_eq b a ≡ false → renamed a b u a ≡ None
renamed_from a b u to = put_other (put u a None) b a (u a) to ∙ put_same u a None

pub renamed_to : (a b : List ℕ) (u : View) → renamed a b u b ≡ u a
renamed_to a b u = put_same (put u a None) b (u a)

-- w has the files of a name at which recovery looks as u has them
pub record Same (k : List ℕ) (u w : View) : Type 0 where
  pub s : w k ≡ u k
  pub p : w (p_file k) ≡ u (p_file k)
  pub z : w (z_file k) ≡ u (z_file k)
  pub x : w (x_file k) ≡ u (x_file k)
  pub q : w (q_file k) ≡ u (q_file k)

pub same_looks : (k : List ℕ) (u w : View) → w intent_file ≡ u intent_file → Same k u w → LooksAlike k u w
same_looks k u w intent same = record {
  fate = fate_same k u w intent;
  s = same.s;
  p = same.p;
  z = ap is_some same.z;
  x = λ named. same.x;
  q = λ named. same.q;
}

pub same_pair : (k : List ℕ) (u w : View) → Same k u w → pair_of w k ≡ pair_of u k
same_pair k u w same = pair_same _ _ _ _ same.s same.p

-- ---- harmless changes

-- Recovery makes the same of every name; the intent stays, and the z-file of each name of it; no pair changes but of a
-- name of it.
pub record IsHarmless (f : View → View) (v : View) : Type 0 where
  pub recovers : RecoversAs v (f v)
  pub intent : f v intent_file ≡ v intent_file
  pub z : (k : List ℕ) → IsSFileName k → IsSome (fate_at v k) → f v (z_file k) ≡ v (z_file k)
  pub pairs : (k : List ℕ) → IsSFileName k → (pair_of (f v) k ≡ pair_of v k) ⊎ IsSome (fate_at v k)

-- What is to be known of a change of the files of one name.
pub record OneName (n : List ℕ) (f : View → View) (u : View) : Type 0 where
  pub intent : f u intent_file ≡ u intent_file
  pub own : recovered_at (f u) n ≡ recovered_at u n
  pub own_z : IsSome (fate_at u n) → f u (z_file n) ≡ u (z_file n)
  pub own_pair : (pair_of (f u) n ≡ pair_of u n) ⊎ IsSome (fate_at u n)
  pub others : (k : List ℕ) → IsSFileName k → bytes_eq n k ≡ false → Same k u (f u)

pub one_harmless : (n : List ℕ) (f : View → View) (u : View) → OneName n f u → IsHarmless f u
one_harmless n f u one = record {
  recovers = recovers_from u (f u) (λ k sfile. ⊎_elim (λ e. subst (λ l. recovered_at (f u) l ≡ recovered_at u l) e
      one.own)
      (λ apart. recovered_alike k u (f u) (same_looks k u (f u) one.intent (one.others k sfile apart)))
      (name_cases n k));
  intent = one.intent;
  z = λ k sfile named. ⊎_elim (λ e. subst (λ l. IsSome (fate_at u l) → f u (z_file l) ≡ u (z_file l)) e one.own_z named)
      (λ apart. (one.others k sfile apart).z) (name_cases n k);
  pairs = λ k sfile. ⊎_elim (λ e. subst (λ l. (pair_of (f u) l ≡ pair_of u l) ⊎ IsSome (fate_at u l)) e one.own_pair)
      (λ apart. inl (same_pair k u (f u) (one.others k sfile apart))) (name_cases n k);
}

some_fate : (n : List ℕ) (u : View) (fate : Fate) → fate_at u n ≡ Some fate → IsSome (fate_at u n)
some_fate n u fate is = ap is_some is

-- ---- x over the s-file

newer_there : (x s : Option Content) → IsSome x → newer x s ≡ x
newer_there None s there = absurd (cc)
newer_there (Some c) s there = refl

pub fated_same : (fate : Fate) (q q2 p p2 : Option Content) → q2 ≡ q → p2 ≡ p → fated fate q2 p2 ≡ fated fate q p
fated_same fate q q2 p p2 e f = ap (λ (o : Option Content). fated fate o p2) e
    ∙ ap (λ (o : Option Content). fated fate q o) f

pub x_harmless : (n : List ℕ) (fate : Fate) (u : View) → IsSFileName n → fate_at u n ≡ Some fate → IsSome (u (x_file n))
    → IsHarmless (renamed (x_file n) n) u
x_harmless n fate u sfile named there = one_harmless n (renamed (x_file n) n) u (record {
  intent = intent;
  own =
      recovered_under n w (Some fate) (fate_same n u w intent ∙ named)
      ∙ (pair_same (newer (w (x_file n)) (w n)) (newer (u (x_file n)) (u n)) (fated fate (w (q_file n)) (w (p_file n)))
      (fated fate (u (q_file n)) (u (p_file n)))
      (newer_same (w (x_file n)) None (w n) (u (x_file n)) (renamed_from (x_file n) n u (to_sfile 120 n n sfile refl))
      (renamed_to (x_file n) n u) ∙ sym (newer_there (u (x_file n)) (u n) there))
      (fated_same fate (u (q_file n)) (w (q_file n)) (u (p_file n)) (w (p_file n))
      (other (q_file n) refl (to_sfile 113 n n sfile refl)) (other (p_file n) refl (to_sfile 112 n n sfile refl)))
      ∙ sym (recovered_under n u (Some fate) named));
  own_z = λ some. other (z_file n) refl (to_sfile 122 n n sfile refl);
  own_pair = inr (some_fate n u fate named);
  others = λ k sf apart. record {
    s = other k (from_sfile 120 n k sf refl) apart;
    p = other (p_file k) refl (to_sfile 112 n k sfile refl);
    z = other (z_file k) refl (to_sfile 122 n k sfile refl);
    x = other (x_file k) (siblings_differ 120 n k sfile sf apart) (to_sfile 120 n k sfile refl);
    q = other (q_file k) refl (to_sfile 113 n k sfile refl);
  };
})
  where
    w : View
    w = renamed (x_file n) n u

    other : (l : List ℕ) → bytes_eq (x_file n) l ≡ false → bytes_eq n l ≡ false → renamed (x_file n) n u l ≡ u l
    other l from to = renamed_other (x_file n) n u l from to

    intent : renamed (x_file n) n u intent_file ≡ u intent_file
    intent = other intent_file refl (sfile_and_intent n sfile)

-- ---- q over the p-file

pub q_harmless : (n : List ℕ) (u : View) → IsSFileName n → fate_at u n ≡ Some Replaced → IsSome (u (q_file n))
    → IsHarmless (renamed (q_file n) (p_file n)) u
q_harmless n u sfile named there = one_harmless n (renamed (q_file n) (p_file n)) u (record {
  intent = other intent_file refl refl;
  own =
      recovered_under n w (Some Replaced) (fate_same n u w (other intent_file refl refl) ∙ named)
      ∙ (pair_same (newer (w (x_file n)) (w n)) (newer (u (x_file n)) (u n)) (newer (w (q_file n)) (w (p_file n)))
      (newer (u (q_file n)) (u (p_file n)))
      (newer_same (w (x_file n)) (u (x_file n)) (w n) (u n) (other (x_file n) refl refl)
      (other n (from_sfile 113 n n sfile refl) (from_sfile 112 n n sfile refl)))
      (newer_same (w (q_file n)) None (w (p_file n)) (u (q_file n)) (renamed_from (q_file n) (p_file n) u refl)
      (renamed_to (q_file n) (p_file n) u) ∙ sym (newer_there (u (q_file n)) (u (p_file n)) there))
      ∙ sym (recovered_under n u (Some Replaced) named));
  own_z = λ some. other (z_file n) refl refl;
  own_pair = inr (some_fate n u Replaced named);
  others = λ k sf apart. record {
    s = other k (from_sfile 113 n k sf refl) (from_sfile 112 n k sf refl);
    p = other (p_file k) refl (siblings_differ 112 n k sfile sf apart);
    z = other (z_file k) refl refl;
    x = other (x_file k) refl refl;
    q = other (q_file k) (siblings_differ 113 n k sfile sf apart) refl;
  };
})
  where
    w : View
    w = renamed (q_file n) (p_file n) u

    other : (l : List ℕ) → bytes_eq (q_file n) l ≡ false → bytes_eq (p_file n) l ≡ false
        → renamed (q_file n) (p_file n) u l ≡ u l
    other l from to = renamed_other (q_file n) (p_file n) u l from to

-- ---- the p-file goes

pub p_harmless : (n : List ℕ) (u : View) → IsSFileName n → fate_at u n ≡ Some Removed
    → IsHarmless (without_name (p_file n)) u
p_harmless n u sfile named = one_harmless n (without_name (p_file n)) u (record {
  intent = other intent_file refl;
  own =
      recovered_under n w (Some Removed) (fate_same n u w (other intent_file refl) ∙ named)
      ∙ (pair_same (newer (w (x_file n)) (w n)) (newer (u (x_file n)) (u n)) None None
      (newer_same (w (x_file n)) (u (x_file n)) (w n) (u n) (other (x_file n) refl)
      (other n (from_sfile 112 n n sfile refl))) refl
      ∙ sym (recovered_under n u (Some Removed) named));
  own_z = λ some. other (z_file n) refl;
  own_pair = inr (some_fate n u Removed named);
  others = λ k sf apart. record {
    s = other k (from_sfile 112 n k sf refl);
    p = other (p_file k) (siblings_differ 112 n k sfile sf apart);
    z = other (z_file k) refl;
    x = other (x_file k) refl;
    q = other (q_file k) refl;
  };
})
  where
    w : View
    w = without_name (p_file n) u

    other : (l : List ℕ) → bytes_eq (p_file n) l ≡ false → without_name (p_file n) u l ≡ u l
    other l from = put_other u (p_file n) l None from

-- ---- a file goes at which recovery doesn't look

pub kept_same : (g k : List ℕ) (u : View) → is_kept g ≡ false → IsSFileName k → Same k u (without_name g u)
kept_same g k u plain sfile = record {
  s = put_other u g k None (kept_s g k plain sfile);
  p = put_other u g (p_file k) None (kept_p g k plain sfile);
  z = put_other u g (z_file k) None (kept_z g k plain sfile);
  x = put_other u g (x_file k) None (kept_x g k plain sfile);
  q = put_other u g (q_file k) None (kept_q g k plain sfile);
}

pub other_harmless : (g : List ℕ) (u : View) → is_kept g ≡ false → IsHarmless (without_name g) u
other_harmless g u plain = record {
  recovers = recovers_from u (without_name g u) (λ k sfile. recovered_alike k u (without_name g u)
      (same_looks k u (without_name g u) intent (kept_same g k u plain sfile)));
  intent = intent;
  z = λ k sfile named. (kept_same g k u plain sfile).z;
  pairs = λ k sfile. inl (same_pair k u (without_name g u) (kept_same g k u plain sfile));
}
  where
    intent : without_name g u intent_file ≡ u intent_file
    intent = put_other u g intent_file None (kept_intent g plain)

-- ---- the z-file of a sound name goes

pub z_harmless : (n : List ℕ) (u : View) → IsSFileName n → IsSound n u → IsHarmless (without_name (z_file n)) u
z_harmless n u sfile sound = one_harmless n (without_name (z_file n)) u (record {
  intent = other intent_file refl;
  own = sound_at n (without_name (z_file n) u) (sound_kept n u (without_name (z_file n) u) sound
      (other intent_file refl) pair) ∙ (pair ∙ sym (sound_at n u sound));
  own_z = λ some. absurd (none_named (fate_at u n) sound.unnamed some);
  own_pair = inl pair;
  others = λ k sf apart. record {
    s = other k (from_sfile 122 n k sf refl);
    p = other (p_file k) refl;
    z = other (z_file k) (siblings_differ 122 n k sfile sf apart);
    x = other (x_file k) refl;
    q = other (q_file k) refl;
  };
})
  where
    other : (l : List ℕ) → bytes_eq (z_file n) l ≡ false → without_name (z_file n) u l ≡ u l
    other l from = put_other u (z_file n) l None from

    pair : pair_of (without_name (z_file n) u) n ≡ pair_of u n
    pair = pair_same _ _ _ _ (other n (from_sfile 122 n n sfile refl)) (other (p_file n) refl)

-- ---- what harmless changes keep

pub harmless_held : (f : View → View) (v : View) → IsHarmless f v → IsHeld v → IsHeld (f v)
harmless_held f v harmless held = λ n sfile named.
    let some : IsSome (fate_at v n) = subst (λ (o : Option Fate). IsSome o) (fate_same n v (f v) harmless.intent)
    named in
    subst (λ (o : Option Content). IsSome o) (sym (harmless.z n sfile some)) (held n sfile some)

pub harmless_settled : (f : View → View) (v : View) → IsHarmless f v → IsSettled v → IsSettled (f v)
harmless_settled f v harmless settled = λ n sfile named.
    subst IsSettledPair (sym (harmless.recovers n sfile)) (settled n sfile (subst (λ (o : Option Fate). IsSome o)
    (fate_same n v (f v) harmless.intent) named))

-- ---- views that look alike still do

-- nothing is said of more names
abbrev pub NamesLess : View → View → Type 0
NamesLess v w = (n : List ℕ) → (fate_at w n ≡ fate_at v n) ⊎ (fate_at w n ≡ None)

pub same_less : (v w : View) → w intent_file ≡ v intent_file → NamesLess v w
same_less v w same = λ n. inl (fate_same n v w same)

less_named : (n : List ℕ) (v w : View) → NamesLess v w → IsSome (fate_at w n) → IsSome (fate_at v n)
less_named n v w less named =
    ⊎_elim (λ e. subst (λ (o : Option Fate). IsSome o) e named) (λ none. absurd (none_named (fate_at w n) none named))
    (less n)

less_replaced : (n : List ℕ) (v w : View) → NamesLess v w → fate_at w n ≡ Some Replaced → fate_at v n ≡ Some Replaced
less_replaced n v w less named = ⊎_elim (λ e. sym e ∙ named)
    (λ none. absurd (none_named (fate_at w n) none (ap is_some named))) (less n)

-- what stands under a name behind a renaming, by two tests
there_by : (a b : Bool) (x x2 y y2 : Option Content) → x2 ≡ x → is_some y2 ≡ is_some y
    → is_some (cond b x2 (cond a None y2)) ≡ is_some (cond b x (cond a None y))
there_by a true x x2 y y2 e f = ap is_some e
there_by true false x x2 y y2 e f = refl
there_by false false x x2 y y2 e f = f

pub renamed_looks : (a b : List ℕ) (v u : View) → NamesLess v (renamed a b v) → u a ≡ v a → SameLooks v u
    → SameLooks (renamed a b v) (renamed a b u)
renamed_looks a b v u less from same = record {
  intent = at intent_file same.intent;
  looks = λ n sfile. record {
    fate = fate_same n (renamed a b v) (renamed a b u) (at intent_file same.intent);
    s = at n (same.looks n sfile).s;
    p = at (p_file n) (same.looks n sfile).p;
    z = there_by (bytes_eq a (z_file n)) (bytes_eq b (z_file n)) (v a) (u a) (v (z_file n)) (u (z_file n)) from
        (same.looks n sfile).z;
    x = λ named. at (x_file n) ((same.looks n sfile).x (less_named n v (renamed a b v) less named));
    q = λ named. at (q_file n) ((same.looks n sfile).q (less_replaced n v (renamed a b v) less named));
  };
}
  where
    at : (l : List ℕ) → u l ≡ v l → renamed a b u l ≡ renamed a b v l
    at l e =
        ap (λ (o : Option Content). cond (bytes_eq b l) o (cond (bytes_eq a l) None (u l))) from
        ∙ ap (λ (o : Option Content). cond (bytes_eq b l) (v a) (cond (bytes_eq a l) None o)) e

pub without_looks : (a : List ℕ) (v u : View) → NamesLess v (without_name a v) → SameLooks v u
    → SameLooks (without_name a v) (without_name a u)
without_looks a v u less same = record {
  intent = at intent_file same.intent;
  looks = λ n sfile. record {
    fate = fate_same n (without_name a v) (without_name a u) (at intent_file same.intent);
    s = at n (same.looks n sfile).s;
    p = at (p_file n) (same.looks n sfile).p;
    z = there_by (bytes_eq a (z_file n)) false None None (v (z_file n)) (u (z_file n)) refl (same.looks n sfile).z;
    x = λ named. at (x_file n) ((same.looks n sfile).x (less_named n v (without_name a v) less named));
    q = λ named. at (q_file n) ((same.looks n sfile).q (less_replaced n v (without_name a v) less named));
  };
}
  where
    at : (l : List ℕ) → u l ≡ v l → without_name a u l ≡ without_name a v l
    at l e = ap (λ (o : Option Content). cond (bytes_eq a l) None o) e
