-- What recovery makes of an s-file and its p-file.
use Rattle.std.specs.Prelude.{IsSome}
use Rattle.std.proofs.Common.{◌≡◌, ℕ, Bool, true, false, cond, List, Option, None, Some, is_some, inl, inr, refl, sym}
use Rattle.std.proofs.Common.{ap, ◌∙◌, subst, ⊎_elim}
use Rattle.std.specs.Str.{bytes_eq}
use Rattle.sccs_base.specs.Name.{IsSFileName, p_file, q_file, x_file, y_file, z_file}
use Rattle.sccs_disk.specs.Files.{Content, View, put}
use Rattle.sccs_disk.proofs.Puts.{name_cases, put_back, put_other, put_same}
use Rattle.sccs_name_files.specs.StepFiles.{is_early, is_left, is_working}
use Rattle.sccs_pfile.specs.Recovered.{recovered_pfile}
use Rattle.sccs_crash_points.specs.CrashPoints.{IsAt, IsAtName, SameElsewhere}
use Rattle.sccs_intents.specs.Intents.{entries_in, fate_in, intent_file}
use Rattle.sccs_intents.specs.declared.intents.Fate.{Fate}
use Rattle.sccs_intents.specs.declared.intents.Fate.TheVariants.{Replaced, Removed}
use Rattle.sccs_crash_points.specs.Recovery.{IsSound, Pair, RecoversAs, cleaned, cleared, fate_at, fated, newer}
use Rattle.sccs_crash_points.specs.Recovery.{pair_of, recover, recover_alone, recover_by, recover_named, without_name}
use Rattle.sccs_crash_points.proofs.FileNames.{early_s, from_sfile, left_q, left_s, left_x, left_z, no_q, no_working}
use Rattle.sccs_crash_points.proofs.FileNames.{no_x, no_y, no_z, sfile_and_intent, siblings_differ, to_sfile, working_s}

abbrev pub pair : Option Content → Option Content → Pair
pair s p = record { s = s; p = p }

pub pair_same : (s s2 p p2 : Option Content) → s ≡ s2 → p ≡ p2 → pair s p ≡ pair s2 p2
pair_same s s2 p p2 e f = ap (λ (x : Option Content). pair x p) e ∙ ap (λ (x : Option Content). pair s2 x) f

abbrev pub s_of : Pair → Option Content
s_of x = x.s

abbrev pub p_of : Pair → Option Content
p_of x = x.p

-- what is left of an s-file and its p-file, by whether the z-file is there
abbrev pub recovered : Option Content → Option Content → Bool → Pair
recovered s p z = pair s (cond z (recovered_pfile s p) p)

pub recovered_same : (s s2 p p2 : Option Content) (z z2 : Bool) → s ≡ s2 → p ≡ p2 → z ≡ z2
    → recovered s p z ≡ recovered s2 p2 z2
recovered_same s s2 p p2 z z2 e f g =
    ap (λ (x : Option Content). recovered x p z) e ∙ (ap (λ (x : Option Content). recovered s2 x z) f
    ∙ ap (λ (x : Bool). recovered s2 p2 x) g)

-- and by what an intent says of the name
abbrev pub recovered_as : Option Fate → Option Content → Option Content → Option Content → Option Content → Bool → Pair
recovered_as None s p x q z = recovered s p z
recovered_as (Some fate) s p x q z = pair (newer x s) (fated fate q p)

abbrev pub recovered_at : View → List ℕ → Pair
recovered_at v n = recovered_as (fate_at v n) (v n) (v (p_file n)) (v (x_file n)) (v (q_file n))
    (is_some (v (z_file n)))

-- w has the files of a name at which recovery looks as v has them
pub record LooksAlike (n : List ℕ) (v w : View) : Type 0 where
  pub fate : fate_at w n ≡ fate_at v n
  pub s : w n ≡ v n
  pub p : w (p_file n) ≡ v (p_file n)
  pub z : is_some (w (z_file n)) ≡ is_some (v (z_file n))
  pub x : IsSome (fate_at v n) → w (x_file n) ≡ v (x_file n)
  pub q : fate_at v n ≡ Some Replaced → w (q_file n) ≡ v (q_file n)

pub newer_same : (x x2 s s2 : Option Content) → x ≡ x2 → s ≡ s2 → newer x s ≡ newer x2 s2
newer_same x x2 s s2 e f = ap (λ (o : Option Content). newer o s) e ∙ ap (λ (o : Option Content). newer x2 o) f

pub as_same : (f : Option Fate) (s s2 p p2 x x2 q q2 : Option Content) (z z2 : Bool) → s ≡ s2 → p ≡ p2 → z ≡ z2
    → (IsSome f → x ≡ x2) → (f ≡ Some Replaced → q ≡ q2) → recovered_as f s p x q z ≡ recovered_as f s2 p2 x2 q2 z2
as_same None s s2 p p2 x x2 q q2 z z2 same_s same_p same_z same_x same_q =
    recovered_same s s2 p p2 z z2 same_s same_p same_z
as_same (Some Replaced) s s2 p p2 x x2 q q2 z z2 same_s same_p same_z same_x same_q =
    pair_same (newer x s) (newer x2 s2) (newer q p) (newer q2 p2) (newer_same x x2 s s2 (same_x refl) same_s)
    (newer_same q q2 p p2 (same_q refl) same_p)
as_same (Some Removed) s s2 p p2 x x2 q q2 z z2 same_s same_p same_z same_x same_q =
    pair_same (newer x s) (newer x2 s2) None None (newer_same x x2 s s2 (same_x refl) same_s) refl

pub recovered_alike : (n : List ℕ) (v w : View) → LooksAlike n v w → recovered_at w n ≡ recovered_at v n
recovered_alike n v w looks =
    ap (λ (f : Option Fate). recovered_as f (w n) (w (p_file n)) (w (x_file n)) (w (q_file n)) (is_some (w (z_file n))))
    looks.fate
    ∙ as_same (fate_at v n) (w n) (v n) (w (p_file n)) (v (p_file n)) (w (x_file n)) (v (x_file n)) (w (q_file n))
    (v (q_file n))
    (is_some (w (z_file n))) (is_some (v (z_file n))) looks.s looks.p looks.z looks.x looks.q

-- where it is known what an intent says of the name
pub recovered_under : (n : List ℕ) (v : View) (f : Option Fate) → fate_at v n ≡ f
    → recovered_at v n ≡ recovered_as f (v n) (v (p_file n)) (v (x_file n)) (v (q_file n)) (is_some (v (z_file n)))
recovered_under n v f is =
    ap (λ (g : Option Fate). recovered_as g (v n) (v (p_file n)) (v (x_file n)) (v (q_file n)) (is_some (v (z_file n))))
    is

-- two views that look like a third look alike
pub looks_between : (n : List ℕ) (v u w : View) → LooksAlike n v u → LooksAlike n v w → LooksAlike n u w
looks_between n v u w first next = record {
  fate = next.fate ∙ sym first.fate;
  s = next.s ∙ sym first.s;
  p = next.p ∙ sym first.p;
  z = next.z ∙ sym first.z;
  x = λ named. next.x (subst (λ (f : Option Fate). IsSome f) first.fate named)
      ∙ sym (first.x (subst (λ (f : Option Fate). IsSome f) first.fate named));
  q = λ named. next.q (sym first.fate ∙ named) ∙ sym (first.q (sym first.fate ∙ named));
}

-- the same intent says the same of each name
pub fate_same : (n : List ℕ) (v w : View) → w intent_file ≡ v intent_file → fate_at w n ≡ fate_at v n
fate_same n v w same = ap (λ (o : Option Content). fate_in (entries_in o) n) same

pub cleared_other : (n : List ℕ) (v : View) (k : List ℕ) → is_working n k ≡ false → cleared n v k ≡ v k
cleared_other n v k h =
    put_other (without_name (q_file n) (without_name (x_file n) v)) (y_file n) k None (no_y n k h)
    ∙ (put_other (without_name (x_file n) v) (q_file n) k None (no_q n k h) ∙ put_other v (x_file n) k None
    (no_x n k h))

-- ---- what recovery makes

-- recovery of a name that no intent names, by whether the z-file is there
abbrev pub alone_by : List ℕ → View → Bool → View
alone_by n v z = cond z (without_name (z_file n) (cleaned n v)) (without_name (y_file n) v)

pub by_lock : (n : List ℕ) (v : View) (z : Bool) → IsSFileName n → pair_of (alone_by n v z) n ≡ recovered (v n)
    (v (p_file n)) z
by_lock n v true sfile =
    pair_same _ (v n) _ (recovered_pfile (v n) (v (p_file n)))
    (put_other (cleaned n v) (z_file n) n None (from_sfile 122 n n sfile refl)
    ∙ (put_other (cleared n v) (p_file n) n (recovered_pfile (v n) (v (p_file n))) (from_sfile 112 n n sfile refl)
    ∙ cleared_other n v n (working_s n n sfile)))
    (put_same (cleared n v) (p_file n) (recovered_pfile (v n) (v (p_file n))))
by_lock n v false sfile = pair_same _ (v n) _ (v (p_file n)) (put_other v (y_file n) n None
    (from_sfile 121 n n sfile refl)) refl

-- the new pair in its place
abbrev pub paired : List ℕ → Fate → View → View
paired n fate v = put (put v n (newer (v (x_file n)) (v n))) (p_file n) (fated fate (v (q_file n)) (v (p_file n)))

by_fate : (n : List ℕ) (v : View) (f : Option Fate) → IsSFileName n
    → pair_of (recover_by n v f) n ≡ recovered_as f (v n) (v (p_file n)) (v (x_file n)) (v (q_file n))
    (is_some (v (z_file n)))
by_fate n v None sfile = by_lock n v (is_some (v (z_file n))) sfile
by_fate n v (Some fate) sfile =
    pair_same _ (newer (v (x_file n)) (v n)) _ (fated fate (v (q_file n)) (v (p_file n)))
    (put_other (cleared n (paired n fate v)) (z_file n) n None (from_sfile 122 n n sfile refl)
    ∙ (cleared_other n (paired n fate v) n (working_s n n sfile)
    ∙ (put_other (put v n (newer (v (x_file n)) (v n))) (p_file n) n (fated fate (v (q_file n)) (v (p_file n)))
    (from_sfile 112 n n sfile refl) ∙ put_same v n (newer (v (x_file n)) (v n)))))
    (put_same (put v n (newer (v (x_file n)) (v n))) (p_file n) (fated fate (v (q_file n)) (v (p_file n))))

-- the pair of a name after recovery
pub recovered_is : (n : List ℕ) (v : View) → IsSFileName n → pair_of (recover n v) n ≡ recovered_at v n
recovered_is n v sfile = by_fate n v (fate_at v n) sfile

-- recovery changes at most the s-file, the p-file and the files that a step leaves
alone_other : (n : List ℕ) (v : View) (z : Bool) (k : List ℕ) → bytes_eq (p_file n) k ≡ false → is_left n k ≡ false
    → alone_by n v z k ≡ v k
alone_other n v true k p left =
    put_other (cleaned n v) (z_file n) k None (no_z n k left)
    ∙ (put_other (cleared n v) (p_file n) k (recovered_pfile (v n) (v (p_file n))) p
    ∙ cleared_other n v k (no_working n k left))
alone_other n v false k p left = put_other v (y_file n) k None (no_y n k (no_working n k left))

other_by : (n : List ℕ) (v : View) (f : Option Fate) (k : List ℕ) → bytes_eq n k ≡ false → bytes_eq (p_file n) k ≡ false
    → is_left n k ≡ false
    → recover_by n v f k ≡ v k
other_by n v None k s p left = alone_other n v (is_some (v (z_file n))) k p left
other_by n v (Some fate) k s p left =
    put_other (cleared n (paired n fate v)) (z_file n) k None (no_z n k left)
    ∙ (cleared_other n (paired n fate v) k (no_working n k left)
    ∙ (put_other (put v n (newer (v (x_file n)) (v n))) (p_file n) k (fated fate (v (q_file n)) (v (p_file n))) p
    ∙ put_other v n k (newer (v (x_file n)) (v n)) s))

pub recover_other : (n : List ℕ) (v : View) (k : List ℕ) → bytes_eq n k ≡ false → bytes_eq (p_file n) k ≡ false
    → is_left n k ≡ false → recover n v k ≡ v k
recover_other n v k s p left = other_by n v (fate_at v n) k s p left

pub recover_intent : (n : List ℕ) (v : View) → IsSFileName n → recover n v intent_file ≡ v intent_file
recover_intent n v sfile = recover_other n v intent_file (sfile_and_intent n sfile) refl refl

pub recovers_from : (v w : View) → ((n : List ℕ) → IsSFileName n → recovered_at w n ≡ recovered_at v n) → RecoversAs v w
recovers_from v w same = λ n sfile. recovered_is n w sfile ∙ (same n sfile ∙ sym (recovered_is n v sfile))

pub recovers_to : (v w : View) → RecoversAs v w → (n : List ℕ) → IsSFileName n → recovered_at w n ≡ recovered_at v n
recovers_to v w recovers n sfile = sym (recovered_is n w sfile) ∙ (recovers n sfile ∙ recovered_is n v sfile)

pub recovers_itself : (v : View) → RecoversAs v v
recovers_itself v = λ n sfile. refl

pub recovers_then : (u v w : View) → RecoversAs u v → RecoversAs v w → RecoversAs u w
recovers_then u v w first next = λ n sfile. next n sfile ∙ first n sfile

pub recovers_back : (v w : View) → RecoversAs v w → RecoversAs w v
recovers_back v w recovers = λ n sfile. sym (recovers n sfile)

-- w has the intent of v, and the files at which recovery looks
pub record SameLooks (v w : View) : Type 0 where
  pub intent : w intent_file ≡ v intent_file
  pub looks : (n : List ℕ) → IsSFileName n → LooksAlike n v w

pub looks_recover : (v w : View) → SameLooks v w → RecoversAs v w
looks_recover v w same = recovers_from v w (λ n sfile. recovered_alike n v w (same.looks n sfile))

-- two views with the same intent, s-files, p-files and z-files recover alike, where new files of named names are the
-- same
pub same_recovers : (v w : View) → w intent_file ≡ v intent_file → ((n : List ℕ) → IsSFileName n → w n ≡ v n)
    → ((n : List ℕ) → IsSFileName n → w (p_file n) ≡ v (p_file n))
    → ((n : List ℕ) → IsSFileName n → is_some (w (z_file n)) ≡ is_some (v (z_file n))) → ((n : List ℕ) → IsSFileName n
    → IsSome (fate_at v n) → w (x_file n) ≡ v (x_file n))
    → ((n : List ℕ) → IsSFileName n → fate_at v n ≡ Some Replaced → w (q_file n) ≡ v (q_file n)) → RecoversAs v w
same_recovers v w intent s p z x q = looks_recover v w (record {
  intent = intent;
  looks = λ n sfile. record {
    fate = fate_same n v w intent;
    s = s n sfile;
    p = p n sfile;
    z = z n sfile;
    x = x n sfile;
    q = q n sfile;
  };
})

-- where no entry leaves, the z-file doesn't matter
pub sound_recovered : (s p : Option Content) (z : Bool) → recovered_pfile s p ≡ p → recovered s p z ≡ pair s p
sound_recovered s p true sound = ap (λ (x : Option Content). pair s x) sound
sound_recovered s p false sound = refl

pub sound_at : (n : List ℕ) (v : View) → IsSound n v → recovered_at v n ≡ pair_of v n
sound_at n v sound =
    ap (λ (f : Option Fate). recovered_as f (v n) (v (p_file n)) (v (x_file n)) (v (q_file n)) (is_some (v (z_file n))))
    sound.unnamed
    ∙ sound_recovered (v n) (v (p_file n)) (is_some (v (z_file n))) sound.entries

pub sound_pair : (n : List ℕ) (v : View) → IsSFileName n → IsSound n v → pair_of (recover n v) n ≡ pair_of v n
sound_pair n v sfile sound = recovered_is n v sfile ∙ sound_at n v sound

-- ---- recovering twice

gone : (v : View) (k : List ℕ) → v k ≡ None → without_name k v ≡ v
gone v k none = ap (λ (o : Option Content). put v k o) (sym none) ∙ put_back v k

nothing_to_do : (n : List ℕ) (v : View) → is_some (v (z_file n)) ≡ false → v (y_file n) ≡ None → recover_alone n v ≡ v
nothing_to_do n v free none = ap (alone_by n v) free ∙ gone v (y_file n) none

once_alone : (n : List ℕ) (v : View) (z : Bool) → is_some (v (z_file n)) ≡ z → recover_alone n (alone_by n v z)
    ≡ alone_by n v z
once_alone n v true is =
    nothing_to_do n (without_name (z_file n) (cleaned n v)) (ap is_some (put_same (cleaned n v) (z_file n) None))
    (put_same (without_name (q_file n) (without_name (x_file n) v)) (y_file n) None)
once_alone n v false is = nothing_to_do n (without_name (y_file n) v) is (put_same v (y_file n) None)

-- the new pair is there, and its files are gone
named_again : (n : List ℕ) (fate : Fate) (w : View) → w (x_file n) ≡ None → w (q_file n) ≡ None → w (y_file n) ≡ None
    → w (z_file n) ≡ None
    → fated fate None (w (p_file n)) ≡ w (p_file n) → recover_named n fate w ≡ w
named_again n fate w x q y z again =
    ap (λ (s : Option Content). without_name (z_file n)
    (cleared n (put (put w n s) (p_file n) (fated fate (w (q_file n)) (w (p_file n))))))
    (ap (λ (o : Option Content). newer o (w n)) x)
    ∙ (ap (λ (o : Option Content). without_name (z_file n) (cleared n (put (put w n (w n)) (p_file n) o)))
    (ap (λ (o : Option Content). fated fate o (w (p_file n))) q ∙ again)
    ∙ (ap (λ (t : View). without_name (z_file n) (cleared n (put t (p_file n) (w (p_file n))))) (put_back w n)
    ∙ (ap (λ (t : View). without_name (z_file n) (cleared n t)) (put_back w (p_file n))
    ∙ (ap (λ (t : View). without_name (z_file n) (without_name (y_file n) (without_name (q_file n) t)))
    (gone w (x_file n) x)
    ∙ (ap (λ (t : View). without_name (z_file n) (without_name (y_file n) t)) (gone w (q_file n) q)
    ∙ (ap (λ (t : View). without_name (z_file n) t) (gone w (y_file n) y) ∙ gone w (z_file n) z))))))

fated_again : (fate : Fate) (q p : Option Content) → fated fate None (fated fate q p) ≡ fated fate q p
fated_again Replaced q p = refl
fated_again Removed q p = refl

once_named : (n : List ℕ) (fate : Fate) (v : View) → recover_named n fate (recover_named n fate v)
    ≡ recover_named n fate v
once_named n fate v = named_again n fate (recover_named n fate v)
    (put_same (paired n fate v) (x_file n) None) (put_same (without_name (x_file n) (paired n fate v)) (q_file n) None)
    (put_same (without_name (q_file n) (without_name (x_file n) (paired n fate v))) (y_file n) None)
    (put_same (cleared n (paired n fate v)) (z_file n) None)
    (subst (λ (o : Option Content). fated fate None o ≡ o) (sym (put_same (put v n (newer (v (x_file n)) (v n)))
    (p_file n) (fated fate (v (q_file n)) (v (p_file n))))) (fated_again fate (v (q_file n)) (v (p_file n))))

once_by : (n : List ℕ) (v : View) (f : Option Fate) → recover_by n (recover_by n v f) f ≡ recover_by n v f
once_by n v None = once_alone n v (is_some (v (z_file n))) refl
once_by n v (Some fate) = once_named n fate v

pub recovered_once : (n : List ℕ) (v : View) → IsSFileName n → recover n (recover n v) ≡ recover n v
recovered_once n v sfile =
    ap (λ (f : Option Fate). recover_by n (recover n v) f) (fate_same n v (recover n v) (recover_intent n v sfile))
    ∙ once_by n v (fate_at v n)

-- ---- other names

-- a view that has all files as another has them, but for those that a step on a name changes before its commit
pub early_alike : (n k : List ℕ) (v w : View) → IsSFileName n → IsSFileName k → bytes_eq n k ≡ false
    → ((l : List ℕ) → is_early n l ≡ false → w l ≡ v l) → LooksAlike k v w
early_alike n k v w sfile other apart same = record {
  fate = fate_same k v w (same intent_file refl);
  s = same k (early_s n k other);
  p = same (p_file k) refl;
  z = ap is_some (same (z_file k) (left_z n k sfile other apart));
  x = λ named. same (x_file k) (left_x n k sfile other apart);
  q = λ named. same (q_file k) (left_q n k sfile other apart);
}

-- recovery of a name leaves the files of every other name
left_alone : (n k : List ℕ) (v : View) → IsSFileName n → IsSFileName k → bytes_eq n k ≡ false
    → LooksAlike k v (recover n v)
left_alone n k v sfile other apart = record {
  fate = fate_same k v (recover n v) (recover_intent n v sfile);
  s = recover_other n v k apart (from_sfile 112 n k other refl) (left_s n k other);
  p = recover_other n v (p_file k) (to_sfile 112 n k sfile refl) (siblings_differ 112 n k sfile other apart) refl;
  z = ap is_some (recover_other n v (z_file k) (to_sfile 122 n k sfile refl) refl (left_z n k sfile other apart));
  x = λ named. recover_other n v (x_file k) (to_sfile 120 n k sfile refl) refl (left_x n k sfile other apart);
  q = λ named. recover_other n v (q_file k) (to_sfile 113 n k sfile refl) refl (left_q n k sfile other apart);
}

-- what recovery made recovers as what it was made of
pub recovers_recovered : (n : List ℕ) (v : View) → IsSFileName n → RecoversAs v (recover n v)
recovers_recovered n v sfile =
    λ k other. ⊎_elim (λ e. subst (λ l. pair_of (recover l (recover n v)) l ≡ pair_of (recover l v) l) e
    (ap (λ (w : View). pair_of w n) (recovered_once n v sfile)))
    (λ apart. recovered_is k (recover n v) other
    ∙ (recovered_alike k v (recover n v) (left_alone n k v sfile other apart) ∙ sym (recovered_is k v other)))
    (name_cases n k)

-- ---- name by name

same_elsewhere : (n k : List ℕ) (v w : View) → SameElsewhere n v w → IsSFileName k → bytes_eq n k ≡ false
    → LooksAlike k v w
same_elsewhere n k v w same sfile apart = record {
  fate = fate_same k v w same.intent;
  s = same.s_files k sfile apart;
  p = same.siblings 112 k sfile apart;
  z = ap is_some (same.siblings 122 k sfile apart);
  x = λ named. same.siblings 120 k sfile apart;
  q = λ named. same.siblings 113 k sfile apart;
}

elsewhere : (n k : List ℕ) (v w : View) → SameElsewhere n v w → IsSFileName k → bytes_eq n k ≡ false
    → pair_of (recover k w) k ≡ pair_of (recover k v) k
elsewhere n k v w same sfile apart =
    recovered_is k w sfile ∙ (recovered_alike k v w (same_elsewhere n k v w same sfile apart)
    ∙ sym (recovered_is k v sfile))

pub at_name : (n : List ℕ) (v w : View) → IsSFileName n → SameElsewhere n v w → (j : ℕ) (u : View) → IsAt v w j u
    → IsAtName n v w j u
at_name n v w sfile same j u (inl new) = record {
  own = inl (new n sfile);
  others = λ k other apart. new k other ∙ elsewhere n k v w same other apart;
}
at_name n v w sfile same j u (inr old) = record {
  own = inr (old.0, old.1 n sfile);
  others = λ k other apart. old.1 k other;
}
