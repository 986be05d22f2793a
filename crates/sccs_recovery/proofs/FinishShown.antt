-- What is told after a group was finished is what the step says, but for working files.
use Rattle.std.proofs.Common.{◌≡◌, ◌⊎◌, ℕ, suc, Bool, true, false, ◌||◌, cond, List, [], ◌∷◌, map, Option, None, Some}
use Rattle.std.proofs.Common.{Result, Ok, Err, is_some, inl, inr, refl, sym, ap, subst, ◌∙◌, ⊎_elim}
use Rattle.std.specs.List.{AllByRecursion}
use Rattle.std.specs.Result.{is_ok}
use Rattle.std.specs.Str.{bytes_eq}
use Rattle.sccs_base.specs.Name.{IsSFileName, p_file, q_file, sfile_name_decides, x_file, y_file, z_file}
use Rattle.sccs_disk.specs.Effects.{renamed}
use Rattle.sccs_disk.specs.Files.{Content, Folder, View, view_in}
use Rattle.sccs_disk.proofs.Puts.{name_cases, put_other}
use Rattle.sccs_name_files.specs.StepFiles.{Alike, Apart, is_working, moved}
use Rattle.sccs_intents.specs.Intents.{AreOthers, entries_in, fate_in, has_name, intent_file, intent_of, plan_file}
use Rattle.sccs_intents.specs.declared.intents.IntentEntry.{IntentEntry}
use Rattle.sccs_intents.specs.declared.intents.Fate.{Fate}
use Rattle.sccs_intents.specs.declared.intents.Fate.TheVariants.{Replaced, Removed}
use Rattle.sccs_crash_points.specs.Recovery.{RecoversAs, fate_at, fated, newer, without_name}
use Rattle.sccs_crash_points.proofs.FileNames.{intent_and_sfile, plan_and_sfile}
use Rattle.sccs_crash_points.proofs.Recovering.{fate_same, p_of, pair, recovered_under, recovers_to, s_of}
use Rattle.sccs_steps.specs.Actions.{AreClear, IsSeen}
use Rattle.sccs_steps.specs.ListStops.{Spares}
use Rattle.sccs_steps.specs.StepLists.{all_moved, first_moves, is_left_of, left_by, moves_of, step_in}
use Rattle.sccs_group.specs.Halfway.{first_placed, is_left_of_group, is_lock_of}
use Rattle.sccs_group.specs.Members.{completed, each_by, placed, taken, p_taken, unlocked}
use Rattle.sccs_group.specs.Recovering.{IsBad, IsWellFormed, bare, finished_by}
use Rattle.sccs_group.proofs.Closing.{fate_head, fate_tail}
use Rattle.sccs_base.proofs.SameBytes.{bytes_eq_sym, same_bytes}
use Rattle.sccs_recovery.specs.FinishStep.{finished_files, finishing_action, finishing_step, is_formed, name_moves}
use Rattle.sccs_recovery.specs.FinishStep.{name_part}
use Rattle.sccs_recovery.proofs.FinishViews.{finished, gone_files, step_by, without_at, without_intent, without_none}
use Rattle.sccs_recovery.proofs.Moved.{NotLeft, SamePairs, completed_at, first_at}
use Rattle.sccs_recovery.proofs.NameFiles.{SamePair, bare_one, count_of, pair_kept}
use Rattle.std.proofs.lemmas.Bool.{or_from}
use Rattle.sccs_base.proofs.Bools.{right_false, left_false}
use Rattle.sccs_steps.proofs.Carried.{all_view}

-- ---- the folder

pub finished_in : (folder : Folder) → view_in (step_in folder (finishing_step (view_in folder))) ≡ finished
    (view_in folder)
finished_in folder = all_view folder (moves_of (finishing_step (view_in folder)))

-- ---- names

-- the working files of each name are working files, and its other files aren't
pub are_apart : (w : List ℕ → Bool) (es : List IntentEntry) → AreOthers es → AreClear finishing_action w
    (map name_part es) → AllByRecursion (λ (e : IntentEntry). Apart w e.name) es
are_apart w [] others clear = tt
are_apart w (e ∷ es) others clear = (
  ⊎_elim (λ (reads : (false ≡ true) × IsSeen w e.name). absurd (let no : false ≡ true = reads.0 in cc))
      (λ apart. apart) (clear.0 ((sfile_name_decides e.name).1 (others.0.name, others.0.sfile))).0,
  are_apart w es others.1 clear.1,
)

not_working : (w : List ℕ → Bool) (es : List IntentEntry) (k : List ℕ) → w k ≡ false
    → AllByRecursion (λ (e : IntentEntry). Apart w e.name) es → AllByRecursion (λ (e : IntentEntry). is_working e.name k
    ≡ false) es
not_working w [] k h apart = tt
not_working w (e ∷ es) k h apart = (apart.0.own k h, not_working w es k h apart.1)

-- a working file is another than one that isn't
differ : (w : List ℕ → Bool) (l k : List ℕ) → w l ≡ true → w k ≡ false → bytes_eq l k ≡ false
differ w l k is h = ⊎_elim (λ (e : l ≡ k). absurd (let same : w l ≡ w k = ap w e in let no : true ≡ false = sym is
    ∙ (same ∙ h) in cc)) (λ apart. apart) (name_cases l k)

-- what an intent says of its own names
fates_behind : (es all : List IntentEntry) (e : IntentEntry) → has_name es e.name ≡ false
    → AllByRecursion (λ (d : IntentEntry). fate_in all d.name ≡ Some d.fate) es
    → AllByRecursion (λ (d : IntentEntry). fate_in (e ∷ all) d.name ≡ Some d.fate) es
fates_behind [] all e alone fates = tt
fates_behind (d ∷ es) all e alone fates = (
  fate_tail e all d.name (bytes_eq_sym e.name d.name ∙ left_false (bytes_eq d.name e.name) (has_name es e.name) alone)
      ∙ fates.0,
  fates_behind es all e (right_false (bytes_eq d.name e.name) (has_name es e.name) alone) fates.1,
)

pub own_fates : (es : List IntentEntry) → AreOthers es → AllByRecursion (λ (e : IntentEntry). fate_in es e.name
    ≡ Some e.fate) es
own_fates [] others = tt
own_fates (e ∷ es) others = (
  fate_head e es e.name (same_bytes e.name),
  fates_behind es es e others.0.alone
      (own_fates es others.1),
)

-- views that recover alike have the same pairs
same_pair : (e : IntentEntry) (u v : View) → IsSFileName e.name → fate_at v e.name ≡ Some e.fate
    → fate_at u e.name ≡ Some e.fate → RecoversAs v u → SamePair e u v
same_pair e u v sfile old new recovers =
    let both : pair (newer (u (x_file e.name)) (u e.name)) (fated e.fate (u (q_file e.name)) (u (p_file e.name))) ≡ pair
    (newer (v (x_file e.name)) (v e.name)) (fated e.fate (v (q_file e.name)) (v (p_file e.name))) =
    sym (recovered_under e.name u (Some e.fate) new) ∙ (recovers_to v u recovers e.name sfile ∙ recovered_under e.name v
    (Some e.fate) old) in
    record { s = ap s_of both; p = ap p_of both }

-- behind the plan and the intent
pair_now : (e : IntentEntry) (u v : View) → IsSFileName e.name → SamePair e u v → SamePair e (without_name plan_file u)
    (without_intent v)
pair_now e u v sfile same =
    pair_kept e u v (without_name plan_file u) (without_intent v) (put_other u plan_file (x_file e.name) None refl)
    (put_other u plan_file e.name None (plan_and_sfile e.name sfile))
    (put_other u plan_file (q_file e.name) None refl)
    (put_other u plan_file (p_file e.name) None refl) (without_at v (x_file e.name) refl)
    (without_at v e.name (intent_and_sfile e.name sfile)) (without_at v (q_file e.name) refl)
    (without_at v (p_file e.name) refl) same

pair_half : (e : IntentEntry) (u v : View) → IsSFileName e.name → SamePair e u v → SamePair e u (without_intent v)
pair_half e u v sfile same =
    pair_kept e u v u (without_intent v) refl refl refl refl (without_at v (x_file e.name) refl)
    (without_at v e.name (intent_and_sfile e.name sfile)) (without_at v (q_file e.name) refl)
    (without_at v (p_file e.name) refl) same

pub same_pairs : (all es : List IntentEntry) (u v : View) → AreOthers es → entries_in (v intent_file) ≡ all
    → u intent_file ≡ v intent_file → RecoversAs v u → AllByRecursion (λ (e : IntentEntry). fate_in all e.name
    ≡ Some e.fate) es → SamePairs es u v
same_pairs all [] u v others is intent recovers fates = tt
same_pairs all (e ∷ es) u v others is intent recovers fates =
    let old : fate_at v e.name ≡ Some e.fate = ap (λ (l : List IntentEntry). fate_in l e.name) is ∙ fates.0 in (
      same_pair e u v others.0.sfile old (fate_same e.name v u intent ∙ old) recovers,
      same_pairs all es u v others.1 is
          intent recovers fates.1,
    )

pairs_now : (es : List IntentEntry) (u v : View) → AreOthers es → SamePairs es u v
    → SamePairs es (without_name plan_file u) (without_intent v)
pairs_now [] u v others same = tt
pairs_now (e ∷ es) u v others same = (pair_now e u v others.0.sfile same.0, pairs_now es u v others.1 same.1)

pairs_half : (es : List IntentEntry) (u v : View) → AreOthers es → SamePairs es u v → SamePairs es u (without_intent v)
pairs_half [] u v others same = tt
pairs_half (e ∷ es) u v others same = (pair_half e u v others.0.sfile same.0, pairs_half es u v others.1 same.1)

-- ---- finished whole

-- What is known where a call begins: u is what is told, and v the folder's view.
pub record IsBegun (w : List ℕ → Bool) (u v : View) : Type 0 where
  pub spares : Spares w
  pub plan : w plan_file ≡ true
  pub alike : Alike w u v
  pub clear : AreClear finishing_action w (map name_part (entries_in (v intent_file)))

pub same_intent : (w : List ℕ → Bool) (u v : View) → IsBegun w u v → u intent_file ≡ v intent_file
same_intent w u v begun = begun.alike intent_file begun.spares.intent

apart_now : (w : List ℕ → Bool) (es : List IntentEntry) (u v : View) → IsBegun w u v → entries_in (v intent_file) ≡ es
    → AreOthers es → AllByRecursion (λ (e : IntentEntry). Apart w e.name) es
apart_now w es u v begun is others = are_apart w es others (subst (λ (l : List IntentEntry). AreClear finishing_action w
    (map name_part l)) is begun.clear)

-- the plan is gone from what is told
pub plan_alike : (w : List ℕ → Bool) (u v : View) → IsBegun w u v → Alike w (without_name plan_file u) v
plan_alike w u v begun = λ k h. put_other u plan_file k None (differ w plan_file k begun.plan h) ∙ begun.alike k h

pub formed_alike : (w : List ℕ → Bool) (es : List IntentEntry) (u v : View) → IsBegun w u v → entries_in (v intent_file)
    ≡ es → AreOthers es → RecoversAs v u
    → Alike w (completed (bare es) (without_name plan_file u)) (all_moved (without_intent v)
    (name_moves (without_intent v) es))
formed_alike w es u v begun is others recovers = λ k h.
    completed_at es (without_name plan_file u) (without_intent v) k others
    (pairs_now es u v others (same_pairs es es u v others is (same_intent w u v begun) recovers (own_fates es others)))
    (without_none v)
    (not_working w es k h (apart_now w es u v begun is others)) (λ other. plan_alike w u v begun k h
    ∙ sym (without_at v k other))

-- what finishing leaves where no intent of its form is there
good_or : (c : Content) (r : Result (List IntentEntry) ℕ) → intent_of c.bytes ≡ r → is_formed (Some c) ≡ false
    → IsWellFormed (Some c) → ⊥
good_or c (Ok es) is unformed well = let formed : is_formed (Some c) ≡ true =
    ap (λ (r : Result (List IntentEntry) ℕ). is_ok r) is in let no : true ≡ false = sym formed ∙ unformed in cc
good_or c (Err line) is unformed well = well line is

pub still_by : (o : Option Content) (x : View) → is_formed o ≡ false → IsWellFormed o → finished_by o x ≡ x
still_by None x unformed well = refl
still_by (Some c) x unformed well = absurd (good_or c (intent_of c.bytes) refl unformed well)

pub formed_by : (o : Option Content) (x : View) (es : List IntentEntry) → is_formed o ≡ true → entries_in o ≡ es
    → finished_by o x ≡ completed (bare es) x
formed_by None x es formed is = absurd (let no : false ≡ true = formed in cc)
formed_by (Some c) x es formed is = ap (λ (l : List IntentEntry). completed (bare l) x) is

bad_by : (c : Content) (r : Result (List IntentEntry) ℕ) (line : ℕ) → intent_of c.bytes ≡ r → is_formed (Some c) ≡ true
    → r ≡ Err line → ⊥
bad_by c r line is formed bad = let no : is_formed (Some c) ≡ false = ap (λ (r : Result (List IntentEntry) ℕ). is_ok r)
    (is ∙ bad) in let x : true ≡ false = sym formed ∙ no in cc

pub not_bad : (o : Option Content) (line : ℕ) → is_formed o ≡ true → IsBad o line → ⊥
not_bad None line formed bad = bad
not_bad (Some c) line formed bad = bad_by c (intent_of c.bytes) line refl formed bad

-- ---- finished in part

-- the view without the intent where that has its form
abbrev pub begun_view : View → Bool → View
begun_view v formed = moved v intent_file (cond formed (Some (gone_files v)) None)

begun_at : (formed : Bool) (v : View) (k : List ℕ) → bytes_eq intent_file k ≡ false → begun_view v formed k ≡ v k
begun_at true v k other = without_at v k other
begun_at false v k other = refl

pairs_begun : (formed : Bool) (es : List IntentEntry) (u v : View) → AreOthers es → SamePairs es u v
    → SamePairs es u (begun_view v formed)
pairs_begun true es u v others same = pairs_half es u v others same
pairs_begun false es u v others same = same

-- no further name's z-file, nor plan or intent
unlocked_of : (es : List IntentEntry) (v : View) (k : List ℕ) → is_left_of (name_moves v es) k ≡ false
    → AllByRecursion (λ (e : IntentEntry). bytes_eq (z_file e.name) k ≡ false) es
unlocked_of [] v k h = tt
unlocked_of (e ∷ es) v k h =
    let later : View = moved v e.name (Some (finished_files e v)) in (
      left_false (bytes_eq (z_file e.name) k) (bytes_eq plan_file k || bytes_eq intent_file k)
          (right_false (is_left_of (name_moves later es) k) (bytes_eq (z_file e.name) k ||
          (bytes_eq plan_file k || bytes_eq intent_file k)) h),
      unlocked_of es later k (left_false (is_left_of (name_moves later es) k) (bytes_eq (z_file e.name) k ||
          (bytes_eq plan_file k || bytes_eq intent_file k)) h),
    )

not_left : (es : List IntentEntry) (k : List ℕ) → AllByRecursion (λ (e : IntentEntry). is_working e.name k ≡ false) es
    → AllByRecursion (λ (e : IntentEntry). bytes_eq (z_file e.name) k ≡ false) es → NotLeft es k
not_left [] k working locks = tt
not_left (e ∷ es) k working locks = (
  or_from (is_working e.name k) (bytes_eq (z_file e.name) k) working.0 locks.0,
  not_left es k working.1 locks.1,
)

no_lock : (es : List IntentEntry) (k : List ℕ) → AllByRecursion (λ (e : IntentEntry). bytes_eq (z_file e.name) k
    ≡ false) es → is_lock_of (bare es) k ≡ false
no_lock [] k locks = refl
no_lock (e ∷ es) k locks = or_from (bytes_eq (z_file e.name) k) (is_lock_of (bare es) k) locks.0 (no_lock es k locks.1)

-- some first of the new files are those of the step
pub half_alike : (w : List ℕ → Bool) (formed : Bool) (es : List IntentEntry) (u v x : View) (whole some : ℕ)
    → IsBegun w u v → entries_in (v intent_file) ≡ es → AreOthers es → SamePairs es u v
    → Alike (is_left_of_group (bare es)) x (first_placed whole some (bare es) u)
    → Alike (left_by w (step_by v formed es ∷ [])) x (first_moves (suc (suc whole)) (count_of some) v
    (moves_of (step_by v formed es)))
half_alike w formed es u v x whole some begun is others same halfway = λ k h.
    let more = left_false (is_left_of (step_by v formed es).more k) (w k || bytes_eq (z_file intent_file) k) h in
    let other = right_false (is_left_of (name_moves (begun_view v formed) es) k) (bytes_eq (z_file plan_file) k ||
    (bytes_eq plan_file k || bytes_eq intent_file k)) more in
    let files = right_false (bytes_eq (z_file plan_file) k) (bytes_eq plan_file k || bytes_eq intent_file k) other in
    let no_plan = left_false (bytes_eq plan_file k) (bytes_eq intent_file k) files in
    let no_intent = right_false (bytes_eq plan_file k) (bytes_eq intent_file k) files in
    let free = left_false (w k) (bytes_eq (z_file intent_file) k) (right_false (is_left_of (step_by v formed es).more k)
    (w k || bytes_eq (z_file intent_file) k) h) in
    let locks = unlocked_of es (begun_view v formed) k (left_false (is_left_of (name_moves (begun_view v formed) es) k)
    (bytes_eq (z_file plan_file) k || (bytes_eq plan_file k || bytes_eq intent_file k)) more) in
    halfway k (or_from (bytes_eq plan_file k) (bytes_eq intent_file k || is_lock_of (bare es) k) no_plan
    (or_from (bytes_eq intent_file k) (is_lock_of (bare es) k) no_intent (no_lock es k locks)))
    ∙ first_at whole some es u (begun_view v formed) k others (pairs_begun formed es u v others same)
    (not_left es k (not_working w es k free (apart_now w es u v begun is others)) locks) (begun.alike k free
    ∙ sym (begun_at formed v k no_intent))

-- ---- working files

-- gone, or as it was
abbrev pub IsCleared : Option Content → Option Content → Type 0
IsCleared now before = (now ≡ None) ⊎ (now ≡ before)

cleared_on : (a b c : Option Content) → IsCleared b a → IsCleared c b → IsCleared c a
cleared_on a b c first (inl none) = inl none
cleared_on a b c (inl none) (inr same) = inl (same ∙ none)
cleared_on a b c (inr old) (inr same) = inr (same ∙ old)

gone_cleared : (k : List ℕ) (v : View) (l : List ℕ) → IsCleared (without_name l v k) (v k)
gone_cleared k v l = by (bytes_eq l k)
  where
    by : (b : Bool) → IsCleared (cond b None (v k)) (v k)
    by true = inl refl
    by false = inr refl

taken_cleared : (from to : List ℕ) (v : View) (k : List ℕ) → bytes_eq to k ≡ false → IsCleared (taken from to v k) (v k)
taken_cleared from to v k other = by (is_some (v from))
  where
    moved_one : (a b : Bool) → b ≡ false → IsCleared (cond b (v from) (cond a None (v k))) (v k)
    moved_one true false apart = inl refl
    moved_one false false apart = inr refl
    moved_one a true apart = absurd (cc)

    by : (there : Bool) → IsCleared (cond there (renamed from to v) v k) (v k)
    by true = moved_one (bytes_eq from k) (bytes_eq to k) other
    by false = inr refl

p_cleared : (fate : Fate) (n : List ℕ) (v : View) (k : List ℕ) → bytes_eq (p_file n) k ≡ false
    → IsCleared (p_taken fate n v k) (v k)
p_cleared Replaced n v k other = taken_cleared (q_file n) (p_file n) v k other
p_cleared Removed n v k other = gone_cleared k v (p_file n)

placed_cleared : (e : IntentEntry) (v : View) (k : List ℕ) → bytes_eq e.name k ≡ false → bytes_eq (p_file e.name) k
    ≡ false → IsCleared (placed (bare_one e) v k) (v k)
placed_cleared e v k s p =
    let one : View = taken (x_file e.name) e.name v in
    let two : View = p_taken e.fate e.name one in
    cleared_on (v k) (two k) (without_name (y_file e.name) two k) (cleared_on (v k) (one k) (two k)
    (taken_cleared (x_file e.name) e.name v k s) (p_cleared e.fate e.name one k p))
    (gone_cleared k two (y_file e.name))

all_cleared : (w : List ℕ → Bool) (es : List IntentEntry) (v : View) (k : List ℕ) → w k ≡ true
    → AllByRecursion (λ (e : IntentEntry). Apart w e.name) es → IsCleared (each_by placed (bare es) v k) (v k)
all_cleared w [] v k is apart = inr refl
all_cleared w (e ∷ es) v k is apart =
    cleared_on (v k) (placed (bare_one e) v k) (each_by placed (bare es) (placed (bare_one e) v) k)
    (placed_cleared e v k (bytes_eq_sym e.name k ∙ differ w k e.name is apart.0.s) (bytes_eq_sym (p_file e.name) k
    ∙ differ w k (p_file e.name) is apart.0.p)) (all_cleared w es (placed (bare_one e) v) k is apart.1)

unlocked_cleared : (es : List IntentEntry) (v : View) (k : List ℕ) → IsCleared (each_by unlocked (bare es) v k) (v k)
unlocked_cleared [] v k = inr refl
unlocked_cleared (e ∷ es) v k = cleared_on (v k) (without_name (z_file e.name) v k) (each_by unlocked (bare es)
    (without_name (z_file e.name) v) k) (gone_cleared k v (z_file e.name))
    (unlocked_cleared es (without_name (z_file e.name) v) k)

pub completed_cleared : (w : List ℕ → Bool) (es : List IntentEntry) (u v : View) (k : List ℕ) → IsBegun w u v
    → entries_in (v intent_file) ≡ es → AreOthers es → w k ≡ true
    → IsCleared (completed (bare es) (without_name plan_file u) k) (u k)
completed_cleared w es u v k begun is others free =
    let plan : View = without_name plan_file u in
    let new : View = each_by placed (bare es) plan in
    let gone : View = without_name intent_file new in
    cleared_on (u k) (gone k) (completed (bare es) plan k)
    (cleared_on (u k) (new k) (gone k) (cleared_on (u k) (plan k) (new k) (gone_cleared k u plan_file)
    (all_cleared w es plan k free (apart_now w es u v begun is others))) (gone_cleared k new intent_file))
    (unlocked_cleared es gone k)

pub plan_cleared : (u : View) (k : List ℕ) → IsCleared (without_name plan_file u k) (u k)
plan_cleared u k = gone_cleared k u plan_file
