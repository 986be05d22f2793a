-- One name operation of a group that is finished.
use Rattle.std.proofs.Common.{◌≡◌, ◌⊎◌, ℕ, Bool, true, false, cond, List, ◌∷◌, Option, None, Some, option_map, is_some}
use Rattle.std.proofs.Common.{inl, inr, refl, sym, ap, subst, ◌∙◌, ⊎_elim}
use Rattle.std.specs.Prelude.{IsSome}
use Rattle.std.specs.Str.{bytes_eq}
use Rattle.std.proofs.Math.Path.{fun_ext}
use Rattle.sccs_base.specs.Name.{IsSFileName, p_file, q_file, x_file, z_file}
use Rattle.sccs_disk.specs.Calls.{Done, Half}
use Rattle.sccs_disk.specs.Effects.{pended, renamed, settled, syncing_names}
use Rattle.sccs_disk.specs.Files.{Content, File, Model, Names, Op, Remove, Rename, View, file_at, names, view_of}
use Rattle.sccs_disk.specs.Images.{Full}
use Rattle.sccs_disk.specs.Told.{Told, Tells}
use Rattle.sccs_disk.proofs.Models.{names_pended}
use Rattle.sccs_disk.proofs.Puts.{put_other, put_same}
use Rattle.sccs_name_files.proofs.Images.{full_image, image_pended, image_settled}
use Rattle.sccs_intents.specs.Intents.{intent_file}
use Rattle.sccs_intents.specs.declared.intents.Fate.{Fate}
use Rattle.sccs_intents.specs.declared.intents.Fate.TheVariants.{Replaced, Removed}
use Rattle.sccs_crash_points.specs.Calm.{HasFirm}
use Rattle.sccs_crash_points.specs.CrashPoints.{Guards}
use Rattle.sccs_crash_points.specs.Recovery.{IsSettledPair, IsSound, RecoversAs, fate_at, is_kept, pair_of, recover}
use Rattle.sccs_crash_points.specs.Recovery.{without_name, IsHeldAt}
use Rattle.sccs_crash_points.proofs.CalmDisks.{calm_settled, firm_looks, firm_pairs, full_there, looks_firm}
use Rattle.sccs_crash_points.proofs.FileNames.{intent_and_sfile}
use Rattle.sccs_crash_points.proofs.Full.{full_removed, full_renamed}
use Rattle.sccs_crash_points.proofs.Recovering.{LooksAlike, SameLooks, fate_same, pair, pair_same, recovered_alike}
use Rattle.sccs_crash_points.proofs.Recovering.{recovered_as, recovered_at, recovered_is, recovered_under}
use Rattle.sccs_crash_points.proofs.Recovering.{recovers_from, recovers_itself, sound_recovered}
use Rattle.sccs_crash_points.proofs.Untouched.{none_named, sound_kept}
use Rattle.sccs_group.specs.Finishing.{CanFinish, CompletesBy, Finishes, FinishesBy, Follows, IsHeld, IsSettled}
use Rattle.sccs_group.specs.Finishing.{IsTaken, MayCall, TakenBy}
use Rattle.sccs_group.proofs.Harmless.{IsHarmless, harmless_held, harmless_settled, other_harmless, p_harmless}
use Rattle.sccs_group.proofs.Harmless.{q_harmless, renamed_looks, same_less, without_looks, x_harmless, z_harmless}
use Rattle.sccs_group.proofs.Runs.{finishes_one, finishes_same}

-- ---- the view after a name operation

abbrev content_at : List File → Option ℕ → Option Content
content_at files t = option_map (λ (f : File). f.content) (file_at files t)

moved_at : (files : List File) (a b : Bool) (from here : Option ℕ) → content_at files (cond b from (cond a None here))
    ≡ cond b (content_at files from) (cond a None (content_at files here))
moved_at files a true from here = refl
moved_at files true false from here = refl
moved_at files false false from here = refl

pub view_renamed : (a b : List ℕ) (m : Model) → view_of (pended (Rename a b) m) ≡ renamed a b (view_of m)
view_renamed a b m = fun_ext (λ k. ap (λ (t : Names). content_at m.files (t k)) (names_pended (Rename a b) m)
    ∙ moved_at m.files (bytes_eq a k) (bytes_eq b k) (names m a) (names m k))

pub view_removed : (a : List ℕ) (m : Model) → view_of (pended (Remove a) m) ≡ without_name a (view_of m)
view_removed a m = fun_ext (λ k. ap (λ (t : Names). content_at m.files (t k)) (names_pended (Remove a) m)
    ∙ moved_at m.files (bytes_eq a k) false None (names m k))

-- ---- what is to be known of a name operation

pub record Goes (f : View → View) (m : Model) : Type 0 where
  pub recovers : (u : View) → Full m u → RecoversAs u (f u)
  pub looks : (u : View) → Full m u → SameLooks (f (view_of m)) (f u)
  pub guards : Guards (view_of m) (f (view_of m))
  pub held : IsHeld (f (view_of m))
  pub settled : IsSettled (f (view_of m))

-- a name operation that makes f of each view in which all operations are made
pub record Makes (op : Op) (f : View → View) (m : Model) : Type 0 where
  pub full : (w : View) → Full (pended op m) w → (u : View) × Full m u × (w ≡ f u)
  pub view : view_of (pended op m) ≡ f (view_of m)

pub renaming_makes : (a b : List ℕ) (m : Model) → Makes (Rename a b) (renamed a b) m
renaming_makes a b m = record { full = full_renamed a b m; view = view_renamed a b m }

pub removing_makes : (a : List ℕ) (m : Model) → Makes (Remove a) (without_name a) m
removing_makes a m = record { full = full_removed a m; view = view_removed a m }

-- what looks alike holds the names of its intent alike
pub held_alike : (v u : View) → SameLooks v u → IsHeld v → IsHeld u
held_alike v u looks held = λ n sfile some. (looks.looks n sfile).z
    ∙ held n sfile (subst (λ (f : Option Fate). IsSome f) (looks.looks n sfile).fate some)

op_follows : (op : Op) (f : View → View) (m : Model) → Makes op f m → Goes f m → Follows m (pended op m)
op_follows op f m makes goes = record {
  images = λ w image. ⊎_elim (λ old. (w, old, recovers_itself w))
      (λ full. let x : (u : View) × Full m u × RecoversAs u w = fulls w full in (x.0, full_image m x.0 x.1, x.2))
      (image_pended op m w image);
  fulls = fulls;
  held = λ n sfile all w image. ⊎_elim (λ old. all w old)
      (λ full.
      let x : (u : View) × Full m u × (w ≡ f u) = makes.full w full in subst (IsHeldAt n) (sym x.2)
      (held_alike (f (view_of m)) (f x.0) (goes.looks x.0 x.1) goes.held n sfile)) (image_pended op m w image);
}
  where
    fulls : (w : View) → Full (pended op m) w → (u : View) × Full m u × RecoversAs u w
    fulls w full =
        let x : (u : View) × Full m u × (w ≡ f u) = makes.full w full in
        (x.0, x.1, subst (λ (v : View). RecoversAs x.0 v) (sym x.2) (goes.recovers x.0 x.1))

op_firm : (op : Op) (f : View → View) (m : Model) → Makes op f m → Goes f m → HasFirm (pended op m)
op_firm op f m makes goes =
    looks_firm (pended op m) (λ w full.
    let x : (u : View) × Full m u × (w ≡ f u) = makes.full w full in
    subst (λ (v : View). SameLooks v w) (sym makes.view) (subst (λ (v : View). SameLooks (f (view_of m)) v) (sym x.2)
    (goes.looks x.0 x.1)))

pub op_can : (op : Op) (f : View → View) (m : Model) → Makes op f m → Goes f m → CanFinish (pended op m)
op_can op f m makes goes = record {
  firm = op_firm op f m makes goes;
  held = subst IsHeld (sym makes.view) goes.held;
  settled = subst IsSettled (sym makes.view) goes.settled;
}

pub by_goes : (op : Op) (k : List ℕ) (f : View → View) (P : View → Type 0) (a b : Told) → ((m : Model) → Makes op f m)
    → ((m : Model) → CanFinish m → P (view_of m) → IsSome (view_of m k) → Goes f m) → MayCall op k a b
    → FinishesBy P a b
by_goes op k f P a b makes goes call = λ m past is can holds.
    ⊎_elim (λ same. finishes_same m past b (same ∙ is) can)
    (λ made.
    let now : Goes f m = goes m can holds made.0 in
    finishes_one m (pended op m) past b made.1 (op_follows op f m (makes m) now)
    (subst (λ (v : View). Guards (view_of m) v) (sym (makes m).view) now.guards) (op_can op f m (makes m) now))
    (call m past is)

-- ---- harmless ones

-- from what is so of each view that looks the same
harmless_goes : (f : View → View) (m : Model) → CanFinish m → ((u : View) → Full m u → IsHarmless f u)
    → IsHarmless f (view_of m) → ((u : View) → Full m u → SameLooks (f (view_of m)) (f u)) → Goes f m
harmless_goes f m can harmless now looks = record {
  recovers = λ u full. (harmless u full).recovers;
  looks = looks;
  guards = λ n sfile. ⊎_elim (λ e. inl e)
      (λ named. inr (
        can.held n sfile named,
        subst (λ (o : Option Content). IsSome o) (sym (now.z n sfile named))
            (can.held n sfile named),
      )) (now.pairs n sfile);
  held = harmless_held f (view_of m) now can.held;
  settled = harmless_settled f (view_of m) now can.settled;
}

-- a full image looks like the view
looks_at : (m : Model) (u : View) → CanFinish m → Full m u → SameLooks (view_of m) u
looks_at m u can full = firm_looks m u can.firm full

named_at : (m : Model) (u : View) (n : List ℕ) (f : Option Fate) → CanFinish m → Full m u → fate_at (view_of m) n ≡ f
    → fate_at u n ≡ f
named_at m u n f can full is = fate_same n (view_of m) u (looks_at m u can full).intent ∙ is

there_at : (m : Model) (u : View) (k : List ℕ) → Full m u → IsSome (view_of m k) → IsSome (u k)
there_at m u k full there = full_there m u full k ∙ there

pub x_goes : (n : List ℕ) (fate : Fate) (m : Model) → IsSFileName n → CanFinish m → fate_at (view_of m) n ≡ Some fate
    → IsSome (view_of m (x_file n)) → Goes (renamed (x_file n) n) m
x_goes n fate m sfile can named there =
    harmless_goes (renamed (x_file n) n) m can (λ u full. x_harmless n fate u sfile
    (named_at m u n (Some fate) can full named) (there_at m u (x_file n) full there)) now
    (λ u full. renamed_looks (x_file n) n (view_of m) u (same_less (view_of m) (renamed (x_file n) n (view_of m))
    now.intent)
    (((looks_at m u can full).looks n sfile).x (ap is_some named)) (looks_at m u can full))
  where
    now : IsHarmless (renamed (x_file n) n) (view_of m)
    now = x_harmless n fate (view_of m) sfile named there

pub q_goes : (n : List ℕ) (m : Model) → IsSFileName n → CanFinish m → fate_at (view_of m) n ≡ Some Replaced
    → IsSome (view_of m (q_file n)) → Goes (renamed (q_file n) (p_file n)) m
q_goes n m sfile can named there =
    harmless_goes (renamed (q_file n) (p_file n)) m can (λ u full. q_harmless n u sfile
    (named_at m u n (Some Replaced) can full named) (there_at m u (q_file n) full there)) now
    (λ u full. renamed_looks (q_file n) (p_file n) (view_of m) u (same_less (view_of m) (renamed (q_file n) (p_file n)
    (view_of m)) now.intent)
    (((looks_at m u can full).looks n sfile).q named) (looks_at m u can full))
  where
    now : IsHarmless (renamed (q_file n) (p_file n)) (view_of m)
    now = q_harmless n (view_of m) sfile named there

pub p_goes : (n : List ℕ) (m : Model) → IsSFileName n → CanFinish m → fate_at (view_of m) n ≡ Some Removed
    → Goes (without_name (p_file n)) m
p_goes n m sfile can named =
    harmless_goes (without_name (p_file n)) m can (λ u full. p_harmless n u sfile
    (named_at m u n (Some Removed) can full named)) now
    (λ u full. without_looks (p_file n) (view_of m) u (same_less (view_of m) (without_name (p_file n) (view_of m))
    now.intent) (looks_at m u can full))
  where
    now : IsHarmless (without_name (p_file n)) (view_of m)
    now = p_harmless n (view_of m) sfile named

pub other_goes : (g : List ℕ) (m : Model) → is_kept g ≡ false → CanFinish m → Goes (without_name g) m
other_goes g m plain can =
    harmless_goes (without_name g) m can (λ u full. other_harmless g u plain) now
    (λ u full. without_looks g (view_of m) u (same_less (view_of m) (without_name g (view_of m)) now.intent)
    (looks_at m u can full))
  where
    now : IsHarmless (without_name g) (view_of m)
    now = other_harmless g (view_of m) plain

pub z_goes : (n : List ℕ) (m : Model) → IsSFileName n → CanFinish m → IsSound n (view_of m)
    → Goes (without_name (z_file n)) m
z_goes n m sfile can sound =
    harmless_goes (without_name (z_file n)) m can
    (λ u full. z_harmless n u sfile (sound_kept n (view_of m) u sound (looks_at m u can full).intent
    (firm_pairs m u can.firm full n sfile))) now
    (λ u full. without_looks (z_file n) (view_of m) u (same_less (view_of m) (without_name (z_file n) (view_of m))
    now.intent) (looks_at m u can full))
  where
    now : IsHarmless (without_name (z_file n)) (view_of m)
    now = z_harmless n (view_of m) sfile sound

-- ---- the intent goes, where the new files of its names are in their places

taken_pair : (fate : Fate) (n : List ℕ) (v : View) → TakenBy fate n v → recovered_as (Some fate) (v n) (v (p_file n))
    (v (x_file n)) (v (q_file n)) (is_some (v (z_file n))) ≡ pair (v n) (v (p_file n))
taken_pair Replaced n v taken =
    ap (λ (o : Option Content). recovered_as (Some Replaced) (v n) (v (p_file n)) o (v (q_file n))
    (is_some (v (z_file n)))) taken.0
    ∙ ap (λ (o : Option Content). recovered_as (Some Replaced) (v n) (v (p_file n)) None o (is_some (v (z_file n))))
    taken.1
taken_pair Removed n v taken =
    ap (λ (o : Option Content). recovered_as (Some Removed) (v n) (v (p_file n)) o (v (q_file n))
    (is_some (v (z_file n)))) taken.0
    ∙ ap (λ (o : Option Content). pair (v n) o) (sym taken.1)

-- recovery leaves the pair of a name whose new files are in their places
pub taken_recovers : (n : List ℕ) (fate : Fate) (v : View) → IsSFileName n → fate_at v n ≡ Some fate → TakenBy fate n v
    → pair_of (recover n v) n ≡ pair_of v n
taken_recovers n fate v sfile named taken = recovered_is n v sfile ∙ (recovered_under n v (Some fate) named
    ∙ taken_pair fate n v taken)

-- the pair of a taken name is settled
pub taken_settled : (n : List ℕ) (fate : Fate) (v : View) → IsSFileName n → IsSettled v → fate_at v n ≡ Some fate
    → TakenBy fate n v → IsSettledPair (pair_of v n)
taken_settled n fate v sfile settled named taken = subst IsSettledPair (taken_recovers n fate v sfile named taken)
    (settled n sfile (ap is_some named))

-- without the intent no name is named
pub none_left : (v : View) (n : List ℕ) → v intent_file ≡ None → fate_at v n ≡ None
none_left v n none = ap (λ (o : Option Content). fate_at (λ l. o) n) none

pub unnamed_left : (v : View) (n : List ℕ) → fate_at (without_name intent_file v) n ≡ None
unnamed_left v n = none_left (without_name intent_file v) n (put_same v intent_file None)

intent_other : (v : View) (l : List ℕ) → bytes_eq intent_file l ≡ false → without_name intent_file v l ≡ v l
intent_other v l apart = put_other v intent_file l None apart

own_by : (n : List ℕ) (v : View) (f : Option Fate) → IsSFileName n → fate_at v n ≡ f → IsTaken v → IsSettled v
    → recovered_at (without_name intent_file v) n ≡ recovered_at v n
own_by n v None sfile is taken settled = recovered_alike n v (without_name intent_file v) (record {
  fate = unnamed_left v n ∙ sym is;
  s = intent_other v n (intent_and_sfile n sfile);
  p = intent_other v (p_file n) refl;
  z = ap is_some (intent_other v (z_file n) refl);
  x = λ named. intent_other v (x_file n) refl;
  q = λ named. intent_other v (q_file n) refl;
})
own_by n v (Some fate) sfile is taken settled =
    recovered_under n w None (unnamed_left v n)
    ∙ (ap (λ (o : Option Content). recovered_as None o (w (p_file n)) (w (x_file n)) (w (q_file n))
    (is_some (w (z_file n)))) (intent_other v n (intent_and_sfile n sfile))
    ∙ (ap (λ (o : Option Content). recovered_as None (v n) o (w (x_file n)) (w (q_file n)) (is_some (w (z_file n))))
    (intent_other v (p_file n) refl)
    ∙ (sound_recovered (v n) (v (p_file n)) (is_some (w (z_file n))) (taken_settled n fate v sfile settled is
    (taken n sfile fate is))
    ∙ (sym (taken_pair fate n v (taken n sfile fate is)) ∙ sym (recovered_under n v (Some fate) is)))))
  where
    w : View
    w = without_name intent_file v

intent_recovers : (v : View) → IsTaken v → IsSettled v → RecoversAs v (without_name intent_file v)
intent_recovers v taken settled = recovers_from v (without_name intent_file v)
    (λ n sfile. own_by n v (fate_at v n) sfile refl taken settled)

-- a view that looks the same has the same files in their places
taken_by_looks : (fate : Fate) (n : List ℕ) (v u : View) → LooksAlike n v u → fate_at v n ≡ Some fate → TakenBy fate n v
    → TakenBy fate n u
taken_by_looks Replaced n v u looks named taken = (looks.x (ap is_some named) ∙ taken.0, looks.q named ∙ taken.1)
taken_by_looks Removed n v u looks named taken = (looks.x (ap is_some named) ∙ taken.0, looks.p ∙ taken.1)

taken_looks : (v u : View) → SameLooks v u → IsTaken v → IsTaken u
taken_looks v u same taken = λ n sfile fate named.
    let is : fate_at v n ≡ Some fate = sym (same.looks n sfile).fate ∙ named in
    taken_by_looks fate n v u (same.looks n sfile) is (taken n sfile fate is)

settled_looks : (v u : View) → SameLooks v u → IsSettled v → IsSettled u
settled_looks v u same settled = λ n sfile named.
    subst IsSettledPair (sym (recovered_is n u sfile ∙ (recovered_alike n v u (same.looks n sfile)
    ∙ sym (recovered_is n v sfile))))
    (settled n sfile (subst (λ (o : Option Fate). IsSome o) (same.looks n sfile).fate named))

pub intent_goes : (m : Model) → CanFinish m → IsTaken (view_of m) → Goes (without_name intent_file) m
intent_goes m can taken = record {
  recovers = λ u full. intent_recovers u (taken_looks (view_of m) u (looks_at m u can full) taken)
      (settled_looks (view_of m) u (looks_at m u can full) can.settled);
  looks = λ u full. without_looks intent_file (view_of m) u (λ n. inr (unnamed_left (view_of m) n))
      (looks_at m u can full);
  guards = λ n sfile. inl (pair_same _ _ _ _ (intent_other (view_of m) n (intent_and_sfile n sfile))
      (intent_other (view_of m) (p_file n) refl));
  held = λ n sfile named. absurd (none_named (fate_at (without_name intent_file (view_of m)) n)
      (unnamed_left (view_of m) n) named);
  settled = λ n sfile named. absurd (none_named (fate_at (without_name intent_file (view_of m)) n)
      (unnamed_left (view_of m) n) named);
}

-- ---- the calls

pub x_story : (n : List ℕ) (fate : Fate) (a b : Told) → IsSFileName n → MayCall (Rename (x_file n) n) (x_file n) a b
    → FinishesBy (λ v. fate_at v n ≡ Some fate) a b
x_story n fate a b sfile call =
    by_goes (Rename (x_file n) n) (x_file n) (renamed (x_file n) n) (λ v. fate_at v n ≡ Some fate) a b
    (λ m. renaming_makes (x_file n) n m) (λ m can named there. x_goes n fate m sfile can named there) call

pub q_story : (n : List ℕ) (a b : Told) → IsSFileName n → MayCall (Rename (q_file n) (p_file n)) (q_file n) a b
    → FinishesBy (λ v. fate_at v n ≡ Some Replaced) a b
q_story n a b sfile call =
    by_goes (Rename (q_file n) (p_file n)) (q_file n) (renamed (q_file n) (p_file n)) (λ v. fate_at v n ≡ Some Replaced)
    a b (λ m. renaming_makes (q_file n) (p_file n) m)
    (λ m can named there. q_goes n m sfile can named there) call

pub p_story : (n : List ℕ) (a b : Told) → IsSFileName n → MayCall (Remove (p_file n)) (p_file n) a b
    → FinishesBy (λ v. fate_at v n ≡ Some Removed) a b
p_story n a b sfile call =
    by_goes (Remove (p_file n)) (p_file n) (without_name (p_file n)) (λ v. fate_at v n ≡ Some Removed) a b
    (λ m. removing_makes (p_file n) m) (λ m can named there. p_goes n m sfile can named) call

pub other_story : (g : List ℕ) (P : View → Type 0) (a b : Told) → is_kept g ≡ false → MayCall (Remove g) g a b
    → FinishesBy P a b
other_story g P a b plain call = by_goes (Remove g) g (without_name g) P a b (λ m. removing_makes g m)
    (λ m can holds there. other_goes g m plain can) call

pub z_story : (n : List ℕ) (a b : Told) → IsSFileName n → MayCall (Remove (z_file n)) (z_file n) a b
    → FinishesBy (IsSound n) a b
z_story n a b sfile call = by_goes (Remove (z_file n)) (z_file n) (without_name (z_file n)) (IsSound n) a b
    (λ m. removing_makes (z_file n) m) (λ m can sound there. z_goes n m sfile can sound) call

pub intent_story : (a b : Told) → MayCall (Remove intent_file) intent_file a b → FinishesBy IsTaken a b
intent_story a b call = by_goes (Remove intent_file) intent_file (without_name intent_file) IsTaken a b
    (λ m. removing_makes intent_file m) (λ m can taken there. intent_goes m can taken) call

-- ---- the names are synced

settled_follows : (m : Model) → Follows m (settled m)
settled_follows m = record {
  images = λ w image. (w, full_image m w (image_settled m w image), recovers_itself w);
  fulls = λ w full. (w, full, recovers_itself w);
  held = λ n sfile all w image. all w (full_image m w (image_settled m w image));
}

pub settled_can : (m : Model) → CanFinish m → CanFinish (settled m)
settled_can m can = record {
  firm = record {
    s_files = can.firm.s_files;
    p_files = can.firm.p_files;
    intent = can.firm.intent;
    x_files =
        can.firm.x_files;
    q_files = can.firm.q_files;
  };
  held = can.held;
  settled = can.settled;
}

abbrev synced_run : (m : Model) (past : List Model) (t : Told) → t ≡ Tells (settled m) (m ∷ past) → CanFinish m
    → Finishes m past t
synced_run m past t is can = finishes_one m (settled m) past t is (settled_follows m) (λ n sfile. inl refl)
    (settled_can m can)

-- a sync of the names, however it ends
pub sync_story : (P : View → Type 0) (a b : Told) → Half syncing_names a b ⊎ Done syncing_names a b → FinishesBy P a b
sync_story P a b (inl half) = λ m past is can holds.
    ⊎_elim (λ same. finishes_same m past b (same ∙ is) can) (λ made. synced_run m past b
    (subst (λ (x : Model). b ≡ Tells x (m ∷ past)) made.2 made.1) can) (half.model m past is)
sync_story P a b (inr done) = λ m past is can holds. synced_run m past b (done.model m past is) can

pub sync_completes : (P : View → Type 0) (a b : Told) → Done syncing_names a b → CompletesBy P a b
sync_completes P a b done = λ m past is can holds. record {
  run = synced_run m past b (done.model m past is) can;
  calm = calm_settled m can.firm;
  all = λ w image. (w, image_settled m w image, recovers_itself w);
}
