-- The entries of a group that are prepared so far.
use Rattle.std.proofs.Common.{◌≡◌, ◌+◌, ℕ, zero, suc, true, false, List, [], ◌∷◌, ◌++◌, drop, take, Option, None, Some}
use Rattle.std.proofs.Common.{IsSome, Ok, Err, refl, sym, ap, subst, ◌∙◌}
use Rattle.std.proofs.lemmas.List.{map-append}
use Rattle.std.proofs.lemmas.List.Folds.{list_any-append}
use Rattle.std.specs.List.{AllByRecursion}
use Rattle.std.specs.Str.{bytes_eq}
use Rattle.sccs_base.specs.Name.{IsSFileName, is_sfile_name, p_file, q_file, x_file, y_file}
use Rattle.sccs_base.proofs.SameBytes.{bytes_eq_sym}
use Rattle.sccs_sid.specs.declared.moments.Stamp.{Stamp}
use Rattle.sccs_disk.specs.Files.{Content, View}
use Rattle.sccs_disk.specs.Told.{Shows}
use Rattle.sccs_name_files.specs.StepFiles.{Alike, Files, is_left, l_file, moved}
use Rattle.sccs_intents.specs.Intents.{intent_file}
use Rattle.sccs_pfile.specs.Recovered.{recovered_pfile}
use Rattle.sccs_steps.specs.StepLists.{NamedStep, named_step}
use Rattle.sccs_store.specs.Commits.{Needs, Plan, chosen, files_after}
use Rattle.sccs_store.specs.declared.new_files.NewFile.{NewFile}
use Rattle.sccs_store.specs.declared.new_files.NewFile.TheVariants.{Keep, Replace, Remove}
use Rattle.sccs_store.specs.Stops.{KeepsEntries, OnChange}
use Rattle.sccs_crash_points.proofs.Recovering.{pair_same}
use Rattle.sccs_crash_points.proofs.Untouched.{sound_kept}
use Rattle.sccs_changes.specs.Changes.{AreTakenOrGone, IsReady, IsTakenOrGone, plan_of}
use Rattle.sccs_changes.specs.declared.prepared.Prepared.{Prepared}
use Rattle.sccs_group_command.specs.declared.entries.GroupEntry.{GroupEntry}
use Rattle.sccs_group_command.specs.GroupStep.{EntrySteps, entry_outcome, entry_steps, names_of}
use Rattle.sccs_group_command.specs.LFiles.{AgreeButL, files_with_l, with_l}
use Rattle.sccs_group_command.specs.Preparing.{AreDifferent, ArePlain, Between, IsHeldEntry, IsPlainName}
use Rattle.sccs_group_command.specs.Preparing.{IsPreparedEntry, PreparesAll, effect_in, files_in, is_among, is_any_left}
use Rattle.sccs_group_command.specs.Preparing.{made_names, steps_in}
use Rattle.sccs_group_command.specs.declared.prepared_entries.PreparedEntry.{PreparedEntry}
use Rattle.sccs_group_command.proofs.Apart.{SameFiles, files_elsewhere, outside_any, outside_one, same_files}
use Rattle.sccs_group_command.proofs.LFilesPass.{entry_keeps_l}
use Rattle.sccs_group_command.proofs.StepsAhead.{accepted_next, put_all}
use Rattle.std.proofs.lemmas.Bool.{or_from}
use Rattle.sccs_base.proofs.Bools.{right_false, left_false}

-- ---- names at a place

among_at : (es : List GroupEntry) (i : ℕ) (e : GroupEntry) (rest : List GroupEntry) (n : List ℕ)
    → is_among (names_of es) n ≡ false → drop i es ≡ e ∷ rest → bytes_eq e.name n ≡ false
among_at [] zero e rest n apart is = absurd (cc)
among_at [] (suc i) e rest n apart is = absurd (cc)
among_at (a ∷ es) zero e rest n apart is = subst (λ (l : List GroupEntry). is_among (names_of l) n ≡ false
    → bytes_eq e.name n ≡ false) (sym is) (λ h. left_false _ _ h) apart
among_at (a ∷ es) (suc i) e rest n apart is = among_at es i e rest n (right_false _ _ apart) is

-- the name at a place is none of those before and behind it
pub different_at : (es : List GroupEntry) (i : ℕ) (e : GroupEntry) (rest : List GroupEntry) → AreDifferent (names_of es)
    → drop i es ≡ e ∷ rest → (is_among (names_of (take i es)) e.name ≡ false)
    × (is_among (names_of rest) e.name ≡ false)
different_at [] zero e rest all is = absurd (cc)
different_at [] (suc i) e rest all is = absurd (cc)
different_at (a ∷ es) zero e rest all is = (refl, (subst (λ (l : List GroupEntry). AreDifferent (names_of l)) is all).0)
different_at (a ∷ es) (suc i) e rest all is =
    let later = different_at es i e rest all.1 is in
    (or_from _ _ (bytes_eq_sym a.name e.name ∙ among_at es i e rest a.name all.0 is) later.0, later.1)

pub plain_at : (es : List GroupEntry) (i : ℕ) (e : GroupEntry) (rest : List GroupEntry) → ArePlain (names_of es)
    → drop i es ≡ e ∷ rest → IsPlainName e.name × ArePlain (names_of rest) × ArePlain (names_of (take i es))
plain_at [] zero e rest all is = absurd (cc)
plain_at [] (suc i) e rest all is = absurd (cc)
plain_at (a ∷ es) zero e rest all is =
    let now = subst (λ (l : List GroupEntry). ArePlain (names_of l)) is all in
    (now.0, now.1, tt)
plain_at (a ∷ es) (suc i) e rest all is =
    let later = plain_at es i e rest all.1 is in
    (later.0, later.1, (all.0, later.2))

-- ---- what is prepared stays so

needs_kept : (new : NewFile) (from to : List ℕ) (v w : View) → w from ≡ v from → w to ≡ v to
    → Needs new from to (Shows v) → Needs new from to (Shows w)
needs_kept Keep from to v w a b needs = tt
needs_kept Replace from to v w a b needs = subst (λ (o : Option Content). IsSome o) (sym a) needs
needs_kept Remove from to v w a b needs = subst (λ (o : Option Content). IsSome o) (sym b) needs

ready_kept : (n : List ℕ) (p : Prepared) (v w : View) → SameFiles n v w → IsReady n p (Shows v) → IsReady n p (Shows w)
ready_kept n p v w same ready = record {
  z = subst (λ (o : Option Content). IsSome o) (sym same.z) ready.z;
  s = needs_kept (plan_of p).s (x_file n) n v w same.x same.s ready.s;
  p_state = needs_kept (plan_of p).p (q_file n) (p_file n) v w same.q same.p ready.p_state;
  g = needs_kept (plan_of p).g (y_file n) (drop 2 n) v w same.y same.g ready.g;
}

taken_kept : (n : List ℕ) (c : Plan) (u v w : View) → SameFiles n v w → AreTakenOrGone n c u v → AreTakenOrGone n c u w
taken_kept n c u v w same taken = record {
  x = subst (λ (o : Option Content). IsTakenOrGone c.s (u (x_file n)) o) (sym same.x) taken.x;
  q = subst (λ (o : Option Content). IsTakenOrGone c.p (u (q_file n)) o) (sym same.q) taken.q;
  y = subst (λ (o : Option Content). IsTakenOrGone c.g (u (y_file n)) o) (sym same.y) taken.y;
}

taken_from : (n : List ℕ) (c : Plan) (u v w : View) → SameFiles n u v → AreTakenOrGone n c v w → AreTakenOrGone n c u w
taken_from n c u v w same taken = record {
  x = subst (λ (o : Option Content). IsTakenOrGone c.s o (w (x_file n))) same.x taken.x;
  q = subst (λ (o : Option Content). IsTakenOrGone c.p o (w (q_file n))) same.q taken.q;
  y = subst (λ (o : Option Content). IsTakenOrGone c.g o (w (y_file n))) same.y taken.y;
}

abbrev files_of : Option Content → Option Content → Option Content → Option Content → Files
files_of s p g l = record { s = s; p = p; z = None; g = g; l = l }

pub files_same : (n : List ℕ) (c : Plan) (v w : View) (l : Option Content) → SameFiles n v w
    → files_with_l l (files_after n c w) ≡ files_with_l l (files_after n c v)
files_same n c v w l same =
    ap (λ (o : Option Content). files_of (chosen c.s o (w n)) (chosen c.p (w (q_file n)) (w (p_file n)))
    (chosen c.g (w (y_file n)) (w (drop 2 n))) l) same.x
    ∙ (ap (λ (o : Option Content). files_of (chosen c.s (v (x_file n)) o) (chosen c.p (w (q_file n)) (w (p_file n)))
    (chosen c.g (w (y_file n)) (w (drop 2 n))) l) same.s
    ∙ (ap (λ (o : Option Content). files_of (chosen c.s (v (x_file n)) (v n)) (chosen c.p o (w (p_file n)))
    (chosen c.g (w (y_file n)) (w (drop 2 n))) l) same.q
    ∙ (ap (λ (o : Option Content). files_of (chosen c.s (v (x_file n)) (v n)) (chosen c.p (v (q_file n)) o)
    (chosen c.g (w (y_file n)) (w (drop 2 n))) l) same.p
    ∙ (ap (λ (o : Option Content). files_of (chosen c.s (v (x_file n)) (v n)) (chosen c.p (v (q_file n)) (v (p_file n)))
    (chosen c.g o (w (drop 2 n))) l) same.y
    ∙ ap (λ (o : Option Content). files_of (chosen c.s (v (x_file n)) (v n)) (chosen c.p (v (q_file n)) (v (p_file n)))
    (chosen c.g (v (y_file n)) o) l) same.g))))

keeps_kept : (n : List ℕ) (c : Plan) (v w : View) → SameFiles n v w → KeepsEntries n c v → KeepsEntries n c w
keeps_kept n c v w same keeps =
    let files : files_with_l None (files_after n c w) ≡ files_with_l None (files_after n c v) =
    files_same n c v w None same in
    record {
      leaves = subst (λ (f : Files). OnChange c.s (recovered_pfile f.s (w (p_file n)) ≡ f.p)) (sym files)
          (subst (λ (o : Option Content). OnChange c.s (recovered_pfile (files_after n c v).s o
          ≡ (files_after n c v).p)) (sym same.p) keeps.leaves);
      sound = subst (λ (f : Files). recovered_pfile f.s f.p ≡ f.p) (sym files) keeps.sound;
    }

held_kept : (u v w : View) (n : List ℕ) (p : Prepared) → SameFiles n v w → IsHeldEntry u v n p → IsHeldEntry u w n p
held_kept u v w n p same held = record {
  name = held.name;
  sfile = held.sfile;
  kind = held.kind;
  free = held.free;
  ready = ready_kept n p v w same held.ready;
  cleared = taken_kept n (plan_of p) u v w same held.cleared;
  settles = λ sound. keeps_kept n (plan_of p) v w same (held.settles sound);
}

held_from : (u v w : View) (n : List ℕ) (p : Prepared) → v intent_file ≡ u intent_file → SameFiles n u v
    → IsHeldEntry v w n p → IsHeldEntry u w n p
held_from u v w n p intent same held = record {
  name = held.name;
  sfile = held.sfile;
  kind = held.kind;
  free = sym same.z ∙ held.free;
  ready = held.ready;
  cleared = taken_from n (plan_of p) u v w same held.cleared;
  settles = λ sound. held.settles (sound_kept n u v sound intent (pair_same _ _ _ _ same.s same.p));
}

-- the intent is no left file
intent_left : (names : List (List ℕ)) → is_any_left names intent_file ≡ false
intent_left [] = refl
intent_left (n ∷ names) = intent_left names

pub files_in_same : (x : PreparedEntry) (v w t : View) → SameFiles x.name v w → files_in w t x ≡ files_in v t x
files_in_same x v w t same = files_same x.name (plan_of x.prepared) v w (t (l_file x.name)) same

-- ---- all that are prepared

abbrev pub AreHeld : View → View → List PreparedEntry → Type 0
AreHeld u v made = AllByRecursion (λ (x : PreparedEntry). IsHeldEntry u v x.name x.prepared) made

abbrev pub AreSame : View → View → List PreparedEntry → Type 0
AreSame v w made = AllByRecursion (λ (x : PreparedEntry). SameFiles x.name v w) made

pub held_sfiles : (u v : View) (made : List PreparedEntry) → AreHeld u v made → AllByRecursion IsSFileName
    (made_names made)
held_sfiles u v [] held = tt
held_sfiles u v (x ∷ made) held = (held.0.sfile, held_sfiles u v made held.1)

-- another name's left files are none of theirs
all_same : (made : List PreparedEntry) (n : List ℕ) (u v w : View) → IsSFileName n → is_among (made_names made) n
    ≡ false → ArePlain (made_names made) → AreHeld u v made → Alike (is_left n) w v → AreSame v w made
all_same [] n u v w sfile apart plain held alike = tt
all_same (x ∷ made) n u v w sfile apart plain held alike = (
  same_files (is_left n) x.name v w (outside_one n x.name sfile held.0.sfile (bytes_eq_sym n x.name
      ∙ left_false _ _ apart) plain.0) alike,
  all_same made n u v w sfile (right_false _ _ apart) plain.1 held.1
      alike,
)

pub all_held : (made : List PreparedEntry) (u v w : View) → AreSame v w made → AreHeld u v made → AreHeld u w made
all_held [] u v w same held = tt
all_held (x ∷ made) u v w same held = (
  held_kept u v w x.name x.prepared same.0 held.0,
  all_held made u v w same.1
      held.1,
)

-- the view that their steps leave
abbrev pub left_in : View → View → List PreparedEntry → View
left_in v t [] = t
left_in v t (x ∷ made) = left_in v (moved t x.name (Some (files_in v t x))) made

abbrev step_with : PreparedEntry → Files → NamedStep
step_with x f = named_step x.name
    (Ok (record { new = Some f; text = []; out = x.prepared.report; err = x.prepared.message; status = 0 }))

steps_same : (made : List PreparedEntry) (v w t : View) → AreSame v w made → steps_in w t made ≡ steps_in v t made
steps_same [] v w t same = refl
steps_same (x ∷ made) v w t same =
    ap (λ (f : Files). step_with x f ∷ steps_in w (moved t x.name (Some f)) made) (files_in_same x v w t same.0)
    ∙ ap (λ (ts : List NamedStep). step_with x (files_in v t x) ∷ ts)
    (steps_same made v w (moved t x.name (Some (files_in v t x))) same.1)

left_same : (made : List PreparedEntry) (v w t : View) → AreSame v w made → left_in w t made ≡ left_in v t made
left_same [] v w t same = refl
left_same (x ∷ made) v w t same = ap (λ (f : Files). left_in w (moved t x.name (Some f)) made)
    (files_in_same x v w t same.0) ∙ left_same made v w (moved t x.name (Some (files_in v t x))) same.1

steps_more : (made : List PreparedEntry) (x : PreparedEntry) (v t : View) → steps_in v t (made ++ x ∷ [])
    ≡ steps_in v t made ++ step_with x (files_in v (left_in v t made) x) ∷ []
steps_more [] x v t = refl
steps_more (y ∷ made) x v t = ap (λ (ts : List NamedStep). step_with y (files_in v t y) ∷ ts)
    (steps_more made x v (moved t y.name (Some (files_in v t y))))

left_behind : (made : List PreparedEntry) (x : PreparedEntry) (v t : View) → left_in v t (made ++ x ∷ []) ≡ moved
    (left_in v t made) x.name (Some (files_in v (left_in v t made) x))
left_behind [] x v t = refl
left_behind (y ∷ made) x v t = left_behind made x v (moved t y.name (Some (files_in v t y)))

-- they leave the files of another name, but for its l-file
left_agrees : (made : List PreparedEntry) (n : List ℕ) (v t : View) → IsSFileName n → is_among (made_names made) n
    ≡ false → IsPlainName n → ArePlain (made_names made) → AllByRecursion IsSFileName (made_names made)
    → AgreeButL n t (left_in v t made)
left_agrees [] n v t sfile apart plain plains sfiles = record { s = refl; p = refl; z = refl; g = refl }
left_agrees (x ∷ made) n v t sfile apart plain plains sfiles =
    let same : SameFiles n t (moved t x.name (Some (files_in v t x))) = files_elsewhere x.name n t (files_in v t x) refl
    sfiles.0 sfile (left_false _ _ apart) plains.0 plain in
    let rest : AgreeButL n (moved t x.name (Some (files_in v t x))) (left_in v t (x ∷ made)) =
    left_agrees made n v (moved t x.name (Some (files_in v t x))) sfile (right_false _ _ apart) plain plains.1
    sfiles.1 in
    record { s = rest.s ∙ same.s; p = rest.p ∙ same.p; z = rest.z ∙ same.z; g = rest.g ∙ same.g }

held_more : (made : List PreparedEntry) (x : PreparedEntry) (u v : View) → AreHeld u v made
    → IsHeldEntry u v x.name x.prepared → AreHeld u v (made ++ x ∷ [])
held_more [] x u v held one = (one, tt)
held_more (y ∷ made) x u v held one = (held.0, held_more made x u v held.1 one)

-- ---- so far

-- The entries before a place are prepared: their steps and those of the rest are all steps.
pub record SoFar (stamp : Stamp) (entries : List GroupEntry) (i : ℕ) (made : List PreparedEntry) (u v : View) : Type 0
  where
    pub steps : entry_steps stamp u entries ≡ put_all (steps_in v u made) (entry_steps stamp (left_in v u made)
        (drop i entries))
    pub names_are : made_names made ≡ names_of (take i entries)
    pub held : AreHeld u v made
    pub view : Alike (is_any_left (made_names made)) v u

put_none : (steps : EntrySteps) → steps ≡ put_all [] steps
put_none (Ok ts) = refl
put_none (Err e) = refl

pub none_yet : (stamp : Stamp) (entries : List GroupEntry) (o : Option View) → Between (SoFar stamp entries 0 []) o o
none_yet stamp entries None = tt
none_yet stamp entries (Some u) = record {
  steps = put_none (entry_steps stamp u entries);
  names_are = refl;
  held = tt;
  view = λ k h. refl;
}

-- what the next entry's step sees
pub same_next : (stamp : Stamp) (made : List PreparedEntry) (e : GroupEntry) (u v : View) → IsSFileName e.name
    → is_among (made_names made) e.name ≡ false → IsPlainName e.name → AreHeld u v made
    → Alike (is_any_left (made_names made)) v u
    → SameFiles e.name u v
same_next stamp made e u v sfile apart plain held alike = same_files (is_any_left (made_names made)) e.name u v
    (outside_any (made_names made) e.name (held_sfiles u v made held) sfile apart plain) alike

-- the next entry's step, in the view that the steps before it leave: it is that of the view in which they are
-- prepared, but for the l-file that it passes on
pub next_outcome : (stamp : Stamp) (made : List PreparedEntry) (e : GroupEntry) (u v : View)
    → (is_sfile_name e.name ≡ true → IsSFileName e.name) → is_among (made_names made) e.name ≡ false
    → IsPlainName e.name → ArePlain (made_names made) → AreHeld u v made
    → Alike (is_any_left (made_names made)) v u → entry_outcome stamp (left_in v u made) e ≡ with_l
    (left_in v u made (l_file e.name)) (entry_outcome stamp v e)
next_outcome stamp made e u v sfile apart plain plains held alike =
    entry_keeps_l stamp e v (left_in v u made)
    (λ fits. let same = same_next stamp made e u v (sfile fits) apart plain held alike in
    let left = left_agrees made e.name v u (sfile fits) apart plain plains (held_sfiles u v made held) in
    record { s = left.s ∙ sym same.s; p = left.p ∙ sym same.p; z = left.z ∙ sym same.z; g = left.g ∙ sym same.g })

left_more : (names : List (List ℕ)) (n k : List ℕ) → is_any_left (names ++ n ∷ []) k ≡ false
    → (is_any_left names k ≡ false) × (is_left n k ≡ false)
left_more names n k h =
    let both = sym (list_any-append (λ (m : List ℕ). is_left m k) names (n ∷ [])) ∙ h in
    (left_false (is_any_left names k) _ both, left_false (is_left n k) _ (right_false (is_any_left names k) _ both))

-- the steps with the next one, and those of the rest behind them
next_steps : (stamp : Stamp) (made : List PreparedEntry) (x : PreparedEntry) (rest : List GroupEntry) (u v w : View)
    → AreSame v w made
    → put_all (steps_in w u (made ++ x ∷ [])) (entry_steps stamp (left_in w u (made ++ x ∷ [])) rest)
    ≡ put_all (steps_in v u made ++ step_with x (files_in w (left_in v u made) x) ∷ [])
    (entry_steps stamp (moved (left_in v u made) x.name (Some (files_in w (left_in v u made) x))) rest)
next_steps stamp made x rest u v w same =
    ap (λ (ts : List NamedStep). put_all ts (entry_steps stamp (left_in w u (made ++ x ∷ [])) rest))
    (steps_more made x w u)
    ∙ (ap (λ (t : View). put_all (steps_in w u made ++ step_with x (files_in w (left_in w u made) x) ∷ [])
    (entry_steps stamp t rest)) (left_behind made x w u)
    ∙ (ap (λ (ts : List NamedStep). put_all (ts ++ step_with x (files_in w (left_in w u made) x) ∷ [])
    (entry_steps stamp (moved (left_in w u made) x.name (Some (files_in w (left_in w u made) x))) rest))
    (steps_same made v w u same)
    ∙ ap (λ (t : View). put_all (steps_in v u made ++ step_with x (files_in w t x) ∷ [])
    (entry_steps stamp (moved t x.name (Some (files_in w t x))) rest)) (left_same made v w u same)))

-- the next entry is prepared
pub prepared_next : (stamp : Stamp) (entries : List GroupEntry) (i : ℕ) (made : List PreparedEntry) (e : GroupEntry)
    (p : Prepared) (u v w : View) → (is_sfile_name e.name ≡ true → IsSFileName e.name) → AreDifferent (names_of entries)
    → ArePlain (names_of entries)
    → drop i entries ≡ e ∷ drop (i + 1) entries → take (i + 1) entries ≡ take i entries ++ e ∷ []
    → SoFar stamp entries i made u v → IsPreparedEntry v w e.name p (entry_outcome stamp v e)
    → SoFar stamp entries (i + 1) (made ++ record { name = e.name; prepared = p } ∷ []) u w
prepared_next stamp entries i made e p u v w fits different plain at more far one =
    let apart = different_at entries i e (drop (i + 1) entries) different at in
    let plains = plain_at entries i e (drop (i + 1) entries) plain at in
    let x : PreparedEntry = record { name = e.name; prepared = p } in
    let before : is_among (made_names made) e.name ≡ false = subst (λ (names : List (List ℕ)). is_among names e.name
    ≡ false) (sym far.names_are) apart.0 in
    let plain_made : ArePlain (made_names made) = subst ArePlain (sym far.names_are) plains.2 in
    let same : AreSame v w made = all_same made e.name u v w one.held.sfile before plain_made far.held one.view in
    let own : SameFiles e.name u v = same_next stamp made e u v one.held.sfile before plains.0 far.held far.view in
    let t : View = left_in v u made in
    let outcome : entry_outcome stamp t e ≡ Ok (effect_in w t x) = next_outcome stamp made e u v fits before plains.0
    plain_made far.held far.view ∙ ap (with_l (t (l_file e.name))) one.is in
    record {
      steps = far.steps ∙ (ap (λ (es : List GroupEntry). put_all (steps_in v u made) (entry_steps stamp t es)) at
          ∙ (accepted_next stamp (steps_in v u made) e (drop (i + 1) entries) t (effect_in w t x) outcome
          ∙ sym (next_steps stamp made x (drop (i + 1) entries) u v w same)));
      names_are = map-append (λ (y : PreparedEntry). y.name) made (x ∷ [])
          ∙ (ap (λ (names : List (List ℕ)). names ++ e.name ∷ []) far.names_are
          ∙ (sym (map-append (λ (y : GroupEntry). y.name) (take i entries) (e ∷ [])) ∙ ap names_of (sym more)));
      held = held_more made x u w (all_held made u v w same far.held) (held_from u v w e.name p
          (far.view intent_file (intent_left (made_names made))) own one.held);
      view = λ k h.
          let both = left_more (made_names made) e.name k (subst (λ (names : List (List ℕ)). is_any_left names k
          ≡ false) (map-append (λ (y : PreparedEntry). y.name) made (x ∷ [])) h) in
          one.view k both.1 ∙ far.view k both.0;
    }

-- all are prepared
all_of : (stamp : Stamp) (entries : List GroupEntry) (i : ℕ) (made : List PreparedEntry) (u v : View)
    → drop i entries ≡ [] → take i entries ≡ entries → SoFar stamp entries i made u v
    → PreparesAll (Ok made) (names_of entries) (entry_steps stamp u entries) u v
all_of stamp entries i made u v none all far =
    let names = far.names_are ∙ ap names_of all in (
      far.steps ∙ (ap (λ (es : List GroupEntry). put_all (steps_in v u made) (entry_steps stamp (left_in v u made) es))
          none ∙ ap Ok (append_none (steps_in v u made))),
      record {
        names_are = names;
        held = far.held;
        view = subst (λ (ns : List (List ℕ)). Alike (is_any_left ns) v u)
            names far.view;
      },
    )
  where
    append_none : (ts : List NamedStep) → ts ++ [] ≡ ts
    append_none [] = refl
    append_none (t ∷ ts) = ap (λ (l : List NamedStep). t ∷ l) (append_none ts)

pub all_prepared : (stamp : Stamp) (entries : List GroupEntry) (i : ℕ) (made : List PreparedEntry) (o o2 : Option View)
    → drop i entries ≡ [] → take i entries ≡ entries → Between (SoFar stamp entries i made) o o2
    → Between (λ u v. PreparesAll (Ok made) (names_of entries) (entry_steps stamp u entries) u v) o o2
all_prepared stamp entries i made None o2 none all far = tt
all_prepared stamp entries i made (Some u) None none all far = far
all_prepared stamp entries i made (Some u) (Some v) none all far = all_of stamp entries i made u v none all far
