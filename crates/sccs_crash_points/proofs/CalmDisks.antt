-- Calm disks, and disks whose s-files and p-files are firm.
use Rattle.std.proofs.Common.{◌≡◌, ℕ, zero, suc, Bool, true, false, cond, not, List, [], ◌∷◌, take, Option, None, Some}
use Rattle.std.proofs.Common.{option_map, is_some, refl, sym, ap, subst, ◌∙◌, ⊎_elim, arith}
use Rattle.std.proofs.lemmas.List.Elements.{All-append}
use Rattle.std.proofs.lemmas.Option.{get_or_from_slice_get, slice_get_within}
use Rattle.std.specs.List.{All}
use Rattle.std.specs.Prelude.{IfSome, IsSome, slice_get}
use Rattle.sccs_base.specs.Name.{IsSFileName, p_file, q_file, x_file, z_file}
use Rattle.sccs_disk.specs.Effects.{settled}
use Rattle.sccs_disk.specs.Effects as effects
use Rattle.sccs_disk.specs.Files.{Content, File, Model, Names, Op, View, names_after, file_at, names, put, view_of}
use Rattle.sccs_disk.specs.MemoryFiles.{IsFirmFile, IsSettled, model_of, with_placed}
use Rattle.sccs_disk.specs.States.{empty_state}
use Rattle.sccs_disk.specs.Images.{Allows, Fits, Full, Image, IsFirm, file_under}
use Rattle.sccs_disk.proofs.Puts.{name_cases, put_other, put_same}
use Rattle.sccs_name_files.specs.Touches.{Touches}
use Rattle.sccs_name_files.proofs.Images.{full_image, image_settled, view_full, view_image}
use Rattle.sccs_name_files.proofs.Owned.{firm_stays}
use Rattle.sccs_intents.specs.Intents.{intent_file}
use Rattle.sccs_intents.specs.declared.intents.Fate.{Fate}
use Rattle.sccs_intents.specs.declared.intents.Fate.TheVariants.{Replaced, Removed}
use Rattle.sccs_crash_points.specs.Calm.{HasFirm, IsCalm, IsUnnamed, KeepsPairs}
use Rattle.sccs_crash_points.specs.Recovery.{fate_at, newer, pair_of}
use Rattle.sccs_crash_points.proofs.Recovering.{SameLooks, fate_same, looks_recover, p_of, pair_same, recovered_as}
use Rattle.sccs_crash_points.proofs.Recovering.{recovered_at, recovers_back, recovers_then, recovers_to, s_of}

-- ---- a file that isn't firm could be another

loose_fits : (f : File) (c : Content) → f.firm ≡ false → Fits (Some f) (Some c)
loose_fits f c loose = subst (λ b. cond b (Some c ≡ Some f.content) (IsSome (Some c))) (sym loose) refl

full_put : (m : Model) (k : List ℕ) (c : Content) (f : File) → file_under m k ≡ Some f → f.firm ≡ false
    → Full m (put (view_of m) k (Some c))
full_put m k c f is loose l =
    ⊎_elim (λ e. subst (λ x. Fits (file_under m x) (put (view_of m) k (Some c) x)) e here)
    (λ apart. subst (λ o. Fits (file_under m l) o) (sym (put_other (view_of m) k l (Some c) apart)) (view_full m l))
    (name_cases k l)
  where
    here : Fits (file_under m k) (put (view_of m) k (Some c) k)
    here = subst (λ o. Fits o (put (view_of m) k (Some c) k)) (sym is) (subst (λ o. Fits (Some f) o)
        (sym (put_same (view_of m) k (Some c))) (loose_fits f c loose))

abbrev other : Content → Content
other c = record { bytes = c.bytes; writable = not c.writable }

abbrev mark : Option Content → Bool
mark None = true
mark (Some c) = c.writable

never : (b : Bool) → not b ≡ b → ⊥
never true e = cc
never false e = cc

loose_not : (m : Model) (k : List ℕ) (f : File) → file_under m k ≡ Some f → ((w : View) → Full m w → w k ≡ view_of m k)
    → f.firm ≡ false → ⊥
loose_not m k f is only loose =
    let w : View = put (view_of m) k (Some (other f.content)) in
    let e : Some (other f.content) ≡ Some f.content =
    sym (put_same (view_of m) k (Some (other f.content))) ∙ (only w (full_put m k (other f.content) f is loose)
    ∙ ap (option_map (λ (g : File). g.content)) is) in
    never f.content.writable (ap mark e)

firm_by : (m : Model) (k : List ℕ) (f : File) → file_under m k ≡ Some f → ((w : View) → Full m w → w k ≡ view_of m k)
    → (b : Bool) → f.firm ≡ b → f.firm ≡ true
firm_by m k f is only true e = e
firm_by m k f is only false e = absurd (loose_not m k f is only e)

firm_at : (m : Model) (k : List ℕ) (o : Option File) → file_under m k ≡ o → ((w : View) → Full m w → w k ≡ view_of m k)
    → IfSome o (λ (f : File). f.firm ≡ true)
firm_at m k None is only = tt
firm_at m k (Some f) is only = firm_by m k f is only f.firm refl

-- what is the same in each image with all operations made is firm
pub firm_from : (m : Model) (k : List ℕ) → ((w : View) → Full m w → w k ≡ view_of m k) → IsFirm k m
firm_from m k only = firm_at m k (file_under m k) refl only

pub looks_firm : (m : Model) → ((w : View) → Full m w → SameLooks (view_of m) w) → HasFirm m
looks_firm m only = record {
  s_files = λ n sfile. firm_from m n (λ w full. ((only w full).looks n sfile).s);
  p_files = λ n sfile. firm_from m (p_file n) (λ w full. ((only w full).looks n sfile).p);
  intent = firm_from m intent_file (λ w full. (only w full).intent);
  x_files = λ n sfile named. firm_from m (x_file n) (λ w full. ((only w full).looks n sfile).x named);
  q_files = λ n sfile named. firm_from m (q_file n) (λ w full. ((only w full).looks n sfile).q named);
}

some_by : (b : Bool) (w : Option Content) (c : Content) → cond b (w ≡ Some c) (IsSome w) → is_some w ≡ true
some_by true w c e = ap is_some e
some_by false w c e = e

fits_there : (o : Option File) (w : Option Content) → Fits o w
    → is_some w ≡ is_some (option_map (λ (f : File). f.content) o)
fits_there None w e = ap is_some e
fits_there (Some f) w e = some_by f.firm w f.content e

-- each image with all operations made has the files of the view, whatever is in them
pub full_there : (m : Model) (w : View) → Full m w → (k : List ℕ) → is_some (w k) ≡ is_some (view_of m k)
full_there m w full k = fits_there (file_under m k) (w k) (full k)

-- ---- on a calm disk all is firm at which recovery looks: another content would recover otherwise

newer_is : (x x2 s s2 : Option Content) → newer x2 s2 ≡ newer x s → is_some x2 ≡ is_some x → x2 ≡ x
newer_is None None s s2 e f = refl
newer_is None (Some b) s s2 e f = absurd (cc)
newer_is (Some a) None s s2 e f = absurd (cc)
newer_is (Some a) (Some b) s s2 e f = e

x_is : (f : Option Fate) (s s2 p p2 x x2 q q2 : Option Content) (z z2 : Bool) → IsSome f
    → recovered_as f s2 p2 x2 q2 z2 ≡ recovered_as f s p x q z → is_some x2 ≡ is_some x → x2 ≡ x
x_is None s s2 p p2 x x2 q q2 z z2 named e there = absurd (cc)
x_is (Some Replaced) s s2 p p2 x x2 q q2 z z2 named e there = newer_is x x2 s s2 (ap s_of e) there
x_is (Some Removed) s s2 p p2 x x2 q q2 z z2 named e there = newer_is x x2 s s2 (ap s_of e) there

q_is : (f : Option Fate) (s s2 p p2 x x2 q q2 : Option Content) (z z2 : Bool) → f ≡ Some Replaced
    → recovered_as f s2 p2 x2 q2 z2 ≡ recovered_as f s p x q z → is_some q2 ≡ is_some q → q2 ≡ q
q_is None s s2 p p2 x x2 q q2 z z2 named e there = absurd (cc)
q_is (Some Replaced) s s2 p p2 x x2 q q2 z z2 named e there = newer_is q q2 p p2 (ap p_of e) there
q_is (Some Removed) s s2 p p2 x x2 q q2 z z2 named e there = absurd (cc)

-- what is left of a name by the fate that the other view says
by_fate : (n : List ℕ) (v w : View) → KeepsPairs v w → IsSFileName n
    → recovered_as (fate_at v n) (w n) (w (p_file n)) (w (x_file n)) (w (q_file n)) (is_some (w (z_file n)))
    ≡ recovered_at v n
by_fate n v w keeps sfile =
    ap (λ (f : Option Fate). recovered_as f (w n) (w (p_file n)) (w (x_file n)) (w (q_file n)) (is_some (w (z_file n))))
    (sym (fate_same n v w keeps.intent))
    ∙ recovers_to v w keeps.recovers n sfile

kept_looks : (m : Model) (w : View) → KeepsPairs (view_of m) w → Full m w → SameLooks (view_of m) w
kept_looks m w keeps full = record {
  intent = keeps.intent;
  looks = λ n sfile. record {
    fate = fate_same n (view_of m) w keeps.intent;
    s = ap s_of (keeps.pairs n sfile);
    p = ap p_of (keeps.pairs n sfile);
    z = full_there m w full (z_file n);
    x = λ named. x_is (fate_at (view_of m) n) (view_of m n) (w n) (view_of m (p_file n)) (w (p_file n))
        (view_of m (x_file n)) (w (x_file n)) (view_of m (q_file n)) (w (q_file n))
        (is_some (view_of m (z_file n))) (is_some (w (z_file n))) named (by_fate n (view_of m) w keeps sfile)
        (full_there m w full (x_file n));
    q = λ named. q_is (fate_at (view_of m) n) (view_of m n) (w n) (view_of m (p_file n)) (w (p_file n))
        (view_of m (x_file n)) (w (x_file n)) (view_of m (q_file n)) (w (q_file n))
        (is_some (view_of m (z_file n))) (is_some (w (z_file n))) named (by_fate n (view_of m) w keeps sfile)
        (full_there m w full (q_file n));
  };
}

pub calm_firm : (m : Model) → IsCalm m → HasFirm m
calm_firm m calm = looks_firm m (λ w full. kept_looks m w (calm w (full_image m w full)) full)

-- on a calm disk a stop leaves no intent that names a name which none names in the view
pub calm_unnamed : (n : List ℕ) (m : Model) → IsCalm m → fate_at (view_of m) n ≡ None → IsUnnamed n m
calm_unnamed n m calm none = λ w image. fate_same n (view_of m) w (calm w image).intent ∙ none

-- ---- firm files are those of the view

pub firm_looks : (m : Model) (w : View) → HasFirm m → Full m w → SameLooks (view_of m) w
firm_looks m w firm full = record {
  intent = firm_stays intent_file m w firm.intent full;
  looks = λ n sfile. record {
    fate = fate_same n (view_of m) w (firm_stays intent_file m w firm.intent full);
    s = firm_stays n m w (firm.s_files n sfile) full;
    p = firm_stays (p_file n) m w (firm.p_files n sfile) full;
    z = full_there m w full (z_file n);
    x = λ named. firm_stays (x_file n) m w (firm.x_files n sfile named) full;
    q = λ named. firm_stays (q_file n) m w (firm.q_files n sfile named) full;
  };
}

pub firm_pairs : (m : Model) (w : View) → HasFirm m → Full m w → (n : List ℕ) → IsSFileName n
    → pair_of w n ≡ pair_of (view_of m) n
firm_pairs m w firm full n sfile =
    pair_same _ _ _ _ (firm_stays n m w (firm.s_files n sfile) full) (firm_stays (p_file n) m w (firm.p_files n sfile)
    full)

pub looks_keep : (v w : View) → SameLooks v w → KeepsPairs v w
looks_keep v w same = record {
  intent = same.intent;
  pairs = λ n sfile. pair_same _ _ _ _ (same.looks n sfile).s (same.looks n sfile).p;
  recovers = looks_recover v w same;
}

pub full_keeps : (m : Model) (w : View) → HasFirm m → Full m w → KeepsPairs (view_of m) w
full_keeps m w firm full = looks_keep (view_of m) w (firm_looks m w firm full)

-- where the names are synced the disk is calm
pub calm_settled : (m : Model) → HasFirm m → IsCalm (settled m)
calm_settled m firm = λ w image. full_keeps m w firm (image_settled m w image)

-- a model each of whose images has the pairs of one view is calm
pub calm_kept : (v : View) (m : Model) → Allows (KeepsPairs v) m → IsCalm m
calm_kept v m keeps = λ w image.
    let now : KeepsPairs v (view_of m) = keeps (view_of m) (view_image m) in
    let later : KeepsPairs v w = keeps w image in
    record {
      intent = later.intent ∙ sym now.intent;
      pairs = λ n sfile. later.pairs n sfile ∙ sym (now.pairs n sfile);
      recovers = recovers_then (view_of m) v w (recovers_back v (view_of m) now.recovers) later.recovers;
    }

-- ---- disks on which every file is firm and nothing is pending

none_pending : (base : Names) (j : ℕ) → names_after (take j []) base ≡ base
none_pending base zero = refl
none_pending base (suc j) = refl

image_full : (m : Model) (w : View) → m.pending ≡ [] → Image m w → Full m w
image_full m w none (j, fits) n =
    subst (λ (t : Names). Fits (file_at m.files (t n)) (w n))
    (ap (λ (ops : List Op). names_after (take j ops) m.base) none
    ∙ (none_pending m.base j ∙ sym (ap (λ (ops : List Op). names_after ops m.base) none))) (fits n)

each_firm : (files : List File) (o : Option ℕ) → All IsFirmFile files → IfSome (file_at files o)
    (λ (f : File). f.firm ≡ true)
each_firm files None each = tt
each_firm files (Some p) each = by (slice_get files p) refl
  where
    by : (o : Option File) → slice_get files p ≡ o → IfSome o (λ (f : File). f.firm ≡ true)
    by None is = tt
    by (Some f) is = subst IsFirmFile (get_or_from_slice_get files p f f is) (each p f (slice_get_within files p f is))

pub settled_calm : (m : Model) → IsSettled m → IsCalm m
settled_calm m still = λ w image. full_keeps m w all_firm (image_full m w still.pending image)
  where
    all_firm : HasFirm m
    all_firm = record {
      s_files = λ n sfile. each_firm m.files (names m n) still.files;
      p_files = λ n sfile. each_firm m.files (names m (p_file n)) still.files;
      intent = each_firm m.files (names m intent_file) still.files;
      x_files = λ n sfile named. each_firm m.files (names m (x_file n)) still.files;
      q_files = λ n sfile named. each_firm m.files (names m (q_file n)) still.files;
    }

none_firm : All IsFirmFile []
none_firm k d low = absurd (omega (arith, low))

one_firm : (c : Content) → All IsFirmFile (effects.firm c ∷ [])
one_firm c zero d low = refl
one_firm c (suc k) d low = absurd (omega (arith, low))

pub empty_settled : IsSettled (model_of empty_state)
empty_settled = record { files = none_firm; pending = refl }

pub placed_settled : (n : List ℕ) (c : Content) (m : Model) → IsSettled m → IsSettled (with_placed n c m)
placed_settled n c m still =
    record {
      files = All-append IsFirmFile m.files (effects.firm c ∷ []) still.files (one_firm c);
      pending =
          still.pending;
    }

-- firm files stay so where others change
pub firms_left : (mine : List ℕ → Bool) (m m2 : Model) → ((n : List ℕ) → IsSFileName n → mine n ≡ false)
    → ((n : List ℕ) → IsSFileName n → mine (p_file n) ≡ false) → mine intent_file ≡ false
    → ((n : List ℕ) → IsSFileName n → IsSome (fate_at (view_of m) n) → mine (x_file n) ≡ false)
    → ((n : List ℕ) → IsSFileName n → fate_at (view_of m) n ≡ Some Replaced → mine (q_file n) ≡ false)
    → ((k : List ℕ) → mine k ≡ false → file_under m2 k ≡ file_under m k) → HasFirm m → HasFirm m2
firms_left mine m m2 s p intent x q files firm = record {
  s_files = λ n sfile. still n (s n sfile) (firm.s_files n sfile);
  p_files = λ n sfile. still (p_file n) (p n sfile) (firm.p_files n sfile);
  intent = still intent_file intent firm.intent;
  x_files = λ n sfile named. still (x_file n) (x n sfile (subst (λ (f : Option Fate). IsSome f) (fate n) named))
      (firm.x_files n sfile (subst (λ (f : Option Fate). IsSome f) (fate n) named));
  q_files = λ n sfile named. still (q_file n) (q n sfile (sym (fate n) ∙ named)) (firm.q_files n sfile (sym (fate n)
      ∙ named));
}
  where
    still : (k : List ℕ) → mine k ≡ false → IsFirm k m → IsFirm k m2
    still k other firm = subst (λ (o : Option File). IfSome o (λ (f : File). f.firm ≡ true)) (sym (files k other)) firm

    fate : (n : List ℕ) → fate_at (view_of m2) n ≡ fate_at (view_of m) n
    fate n = fate_same n (view_of m) (view_of m2) (ap (option_map (λ (f : File). f.content)) (files intent_file intent))

pub firms_touched : (mine : List ℕ → Bool) (m m2 : Model) → ((n : List ℕ) → IsSFileName n → mine n ≡ false)
    → ((n : List ℕ) → IsSFileName n → mine (p_file n) ≡ false) → mine intent_file ≡ false
    → ((n : List ℕ) → IsSFileName n → IsSome (fate_at (view_of m) n) → mine (x_file n) ≡ false)
    → ((n : List ℕ) → IsSFileName n → fate_at (view_of m) n ≡ Some Replaced → mine (q_file n) ≡ false)
    → Touches mine m m2 → HasFirm m → HasFirm m2
firms_touched mine m m2 s p intent x q touches firm = firms_left mine m m2 s p intent x q touches.files firm
