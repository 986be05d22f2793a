-- The step of a group: the names that it has, and what it moves.
use Rattle.std.proofs.Common.{◌≡◌, ◌⊎◌, ℕ, Bool, true, false, cond, List, [], ◌∷◌, codes, flat_map, is_some, map}
use Rattle.std.proofs.Common.{Option, None, Some, Ok, Err, inl, inr, refl, sym, ap, subst, ◌∙◌}
use Rattle.std.specs.List.{AllByRecursion}
use Rattle.sccs_base.specs.Name.{is_sfile_name}
use Rattle.sccs_sid.specs.declared.moments.Stamp.{Stamp}
use Rattle.sccs_sid.specs.declared.refusals.Refusal.{Refusal}
use Rattle.sccs_sid.specs.declared.refusals.Refusal.TheVariants.{GroupPending}
use Rattle.sccs_disk.specs.Files.{Content, View}
use Rattle.sccs_name_files.specs.StepFiles.{Files, moved}
use Rattle.sccs_intents.specs.Intents.{intent_file}
use Rattle.sccs_steps.specs.StepEffects.{Outcome, StepEffect}
use Rattle.sccs_steps.specs.StepLists.{Move, NamedStep, all_moved, moves_of, named_step}
use Rattle.sccs_group_command.specs.declared.entries.GroupEntry.{GroupEntry}
use Rattle.sccs_group_command.specs.GroupStep.{EntrySteps, entry_outcome, entry_steps, go_on, group_step, joined}
use Rattle.sccs_group_command.specs.GroupStep.{joint_step, names_of, put_first, refused_step, unmoved}
use Rattle.sccs_group_command.proofs.EntryEnds.{bad_outcome}
use Rattle.sccs_group_command.specs.GroupStepLists.{group_parts, parts_by, refused_parts}

-- ---- entries that are accepted

steps_are : (r : EntrySteps) (ts us : List NamedStep) → r ≡ Ok ts → r ≡ Ok us → ts ≡ us
steps_are r ts us a b = let same : Ok ts ≡ Ok us = sym a ∙ b in cc

-- what holds of no entries and of each one before others holds of all
accepted : (P : List GroupEntry → List NamedStep → Type 0) (stamp : Stamp) → P [] []
    → ((e : GroupEntry) (es : List GroupEntry) (v : View) (effect : StepEffect) (ts : List NamedStep)
    → entry_outcome stamp v e ≡ Ok effect → P es ts → P (e ∷ es) (named_step e.name (Ok effect) ∷ ts))
    → (entries : List GroupEntry) (v : View) (ts : List NamedStep) → entry_steps stamp v entries ≡ Ok ts → P entries ts
accepted P stamp none one [] v ts is = subst (P []) (steps_are (Ok []) [] ts refl is) none
accepted P stamp none one (e ∷ es) v ts is = by (entry_outcome stamp v e) refl is
    (λ w us. accepted P stamp none one es w us)
  where
    behind : (effect : StepEffect) (r : EntrySteps) → entry_outcome stamp v e ≡ Ok effect
        → put_first (named_step e.name (Ok effect)) r ≡ Ok ts → ((us : List NamedStep) → r ≡ Ok us → P es us)
        → P (e ∷ es) ts
    behind effect (Ok us) outcome found rest =
        subst (P (e ∷ es)) (steps_are (Ok (named_step e.name (Ok effect) ∷ us)) (named_step e.name (Ok effect) ∷ us) ts
        refl found) (one e es v effect us outcome (rest us refl))
    behind effect (Err x) outcome found rest = absurd (cc)

    by : (o : Outcome) → entry_outcome stamp v e ≡ o
        → go_on e.name o (λ effect. entry_steps stamp (moved v e.name effect.new) es) ≡ Ok ts
        → ((w : View) (us : List NamedStep) → entry_steps stamp w es ≡ Ok us → P es us) → P (e ∷ es) ts
    by (Ok effect) outcome found rest = behind effect (entry_steps stamp (moved v e.name effect.new) es) outcome found
        (rest (moved v e.name effect.new))
    by (Err refusal) outcome found rest = absurd (cc)

abbrev step_names : List NamedStep → List (List ℕ)
step_names ts = map (λ (t : NamedStep). t.name) ts

abbrev pub move_names : List Move → List (List ℕ)
move_names xs = map (λ (x : Move). x.name) xs

accepted_parts : (stamp : Stamp) (entries : List GroupEntry) (v : View) (ts : List NamedStep)
    → entry_steps stamp v entries ≡ Ok ts → step_names ts ≡ names_of entries
accepted_parts stamp entries v ts is =
    accepted (λ es us. step_names us ≡ names_of es) stamp refl (λ e es w effect us outcome rest.
    ap (λ (ns : List (List ℕ)). e.name ∷ ns) rest) entries v ts is

accepted_moves : (stamp : Stamp) (entries : List GroupEntry) (v : View) (ts : List NamedStep)
    → entry_steps stamp v entries ≡ Ok ts → move_names (flat_map moves_of ts) ≡ names_of entries
accepted_moves stamp entries v ts is =
    accepted (λ es us. move_names (flat_map moves_of us) ≡ names_of es) stamp refl (λ e es w effect us outcome rest.
    ap (λ (ns : List (List ℕ)). e.name ∷ ns) rest) entries v ts is

-- only names of s-files are accepted
outcome_fits : (stamp : Stamp) (e : GroupEntry) (v : View) (effect : StepEffect) → entry_outcome stamp v e ≡ Ok effect
    → is_sfile_name e.name ≡ true
outcome_fits stamp e v effect is = by (is_sfile_name e.name) refl
  where
    by : (b : Bool) → is_sfile_name e.name ≡ b → is_sfile_name e.name ≡ true
    by true fits = fits
    by false bad = absurd (let one = bad_outcome stamp e v bad in cc)

abbrev pub Fit : List Move → Type 0
Fit xs = AllByRecursion (λ (x : Move). is_sfile_name x.name ≡ true) xs

accepted_fit : (stamp : Stamp) (entries : List GroupEntry) (v : View) (ts : List NamedStep)
    → entry_steps stamp v entries ≡ Ok ts → Fit (flat_map moves_of ts)
accepted_fit stamp entries v ts is =
    accepted (λ es us. Fit (flat_map moves_of us)) stamp tt (λ e es w effect us outcome rest.
    (outcome_fits stamp e w effect outcome, rest)) entries v ts is

-- ---- the step

-- It is refused, or its entries are accepted while no group is pending.
pub data GroupCase (stamp : Stamp) (v : View) (entries : List GroupEntry) : Type 0 where
  Refuses : (n : List ℕ) → (refusal : Refusal) → group_step stamp v entries ≡ refused_step (names_of entries) n refusal
      → group_parts stamp v entries ≡ refused_parts (names_of entries) refusal → GroupCase stamp v entries
  Accepts : (ts : List NamedStep) → v intent_file ≡ None → entry_steps stamp v entries ≡ Ok ts
      → group_step stamp v entries ≡ joint_step ts → group_parts stamp v entries ≡ ts → GroupCase stamp v entries

pub group_case : (stamp : Stamp) (v : View) (entries : List GroupEntry) → GroupCase stamp v entries
group_case stamp v entries = by (v intent_file) refl
  where
    names : List (List ℕ)
    names = names_of entries

    free : (r : EntrySteps) → v intent_file ≡ None → entry_steps stamp v entries ≡ r → GroupCase stamp v entries
    free (Ok ts) none is =
        Accepts ts none is
        (ap (λ (o : Option Content). cond (is_some o) (refused_step (names_of entries) (codes "-") GroupPending)
        (joined (names_of entries) (entry_steps stamp v entries))) none ∙ ap (joined (names_of entries)) is)
        (ap (λ (o : Option Content). cond (is_some o) (refused_parts (names_of entries) GroupPending)
        (parts_by (names_of entries) (entry_steps stamp v entries))) none ∙ ap (parts_by (names_of entries)) is)
    free (Err e) none is =
        Refuses e.name e.refusal
        (ap (λ (o : Option Content). cond (is_some o) (refused_step (names_of entries) (codes "-") GroupPending)
        (joined (names_of entries) (entry_steps stamp v entries))) none ∙ ap (joined (names_of entries)) is)
        (ap (λ (o : Option Content). cond (is_some o) (refused_parts (names_of entries) GroupPending)
        (parts_by (names_of entries) (entry_steps stamp v entries))) none ∙ ap (parts_by (names_of entries)) is)

    by : (o : Option Content) → v intent_file ≡ o → GroupCase stamp v entries
    by None none = free (entry_steps stamp v entries) none refl
    by (Some c) there =
        Refuses (codes "-") GroupPending
        (ap (λ (o : Option Content). cond (is_some o) (refused_step (names_of entries) (codes "-") GroupPending)
        (joined (names_of entries) (entry_steps stamp v entries))) there)
        (ap (λ (o : Option Content). cond (is_some o) (refused_parts (names_of entries) GroupPending)
        (parts_by (names_of entries) (entry_steps stamp v entries))) there)

-- ---- names

refused_names : (names : List (List ℕ)) (refusal : Refusal) → step_names (refused_parts names refusal) ≡ names
refused_names [] refusal = refl
refused_names (n ∷ names) refusal = ap (λ (ns : List (List ℕ)). n ∷ ns) (refused_names names refusal)

unmoved_names : (names : List (List ℕ)) → move_names (map unmoved names) ≡ names
unmoved_names [] = refl
unmoved_names (n ∷ names) = ap (λ (ns : List (List ℕ)). n ∷ ns) (unmoved_names names)

-- the parts are those of the entries
pub parts_are : (stamp : Stamp) (v : View) (entries : List GroupEntry) → map (λ (t : NamedStep). t.name)
    (group_parts stamp v entries) ≡ names_of entries
parts_are stamp v entries = by (group_case stamp v entries)
  where
    by : GroupCase stamp v entries → step_names (group_parts stamp v entries) ≡ names_of entries
    by (Refuses n refusal step parts) = ap step_names parts ∙ refused_names (names_of entries) refusal
    by (Accepts ts none is step parts) = ap step_names parts ∙ accepted_parts stamp entries v ts is

-- so are the further names
pub more_are : (stamp : Stamp) (v : View) (entries : List GroupEntry) → move_names (group_step stamp v entries).more
    ≡ names_of entries
more_are stamp v entries = by (group_case stamp v entries)
  where
    by : GroupCase stamp v entries → move_names (group_step stamp v entries).more ≡ names_of entries
    by (Refuses n refusal step parts) = ap (λ (t : NamedStep). move_names t.more) step
        ∙ unmoved_names (names_of entries)
    by (Accepts ts none is step parts) = ap (λ (t : NamedStep). move_names t.more) step
        ∙ accepted_moves stamp entries v ts is

-- nothing is printed before the commit
pub no_text : (stamp : Stamp) (v : View) (entries : List GroupEntry) → (group_step stamp v entries).effect.text ≡ []
no_text stamp v entries = by (group_case stamp v entries)
  where
    by : GroupCase stamp v entries → (group_step stamp v entries).effect.text ≡ []
    by (Refuses n refusal step parts) = ap (λ (t : NamedStep). t.effect.text) step
    by (Accepts ts none is step parts) = ap (λ (t : NamedStep). t.effect.text) step

-- ---- what it moves

pub no_new : (stamp : Stamp) (v : View) (entries : List GroupEntry) → (group_step stamp v entries).effect.new ≡ None
no_new stamp v entries = by (group_case stamp v entries)
  where
    by : GroupCase stamp v entries → (group_step stamp v entries).effect.new ≡ None
    by (Refuses n refusal step parts) = ap (λ (t : NamedStep). t.effect.new) step
    by (Accepts ts none is step parts) = ap (λ (t : NamedStep). t.effect.new) step

-- files that stay, or those of the name of an s-file
abbrev pub FitMove : Move → Type 0
FitMove x = (x.new ≡ None) ⊎ (is_sfile_name x.name ≡ true)

abbrev pub FitMoves : List Move → Type 0
FitMoves xs = AllByRecursion FitMove xs

unmoved_fit : (names : List (List ℕ)) → FitMoves (map unmoved names)
unmoved_fit [] = tt
unmoved_fit (n ∷ names) = (inl refl, unmoved_fit names)

fit_moves : (xs : List Move) → Fit xs → FitMoves xs
fit_moves [] fit = tt
fit_moves (x ∷ xs) fit = (inr fit.0, fit_moves xs fit.1)

pub more_fit : (stamp : Stamp) (v : View) (entries : List GroupEntry) → FitMoves (group_step stamp v entries).more
more_fit stamp v entries = by (group_case stamp v entries)
  where
    by : GroupCase stamp v entries → FitMoves (group_step stamp v entries).more
    by (Refuses n refusal step parts) = subst (λ (t : NamedStep). FitMoves t.more) (sym step)
        (unmoved_fit (names_of entries))
    by (Accepts ts none is step parts) = subst (λ (t : NamedStep). FitMoves t.more) (sym step)
        (fit_moves (flat_map moves_of ts) (accepted_fit stamp entries v ts is))

pub unmoved_all : (names : List (List ℕ)) (v : View) → all_moved v (map unmoved names) ≡ v
unmoved_all [] v = refl
unmoved_all (n ∷ names) v = unmoved_all names v

-- no intent is there, or nothing is moved
pub free_or_still : (stamp : Stamp) (v : View) (entries : List GroupEntry) → (v intent_file ≡ None)
    ⊎ ((w : View) → all_moved w (group_step stamp v entries).more ≡ w)
free_or_still stamp v entries = by (group_case stamp v entries)
  where
    by : GroupCase stamp v entries → (v intent_file ≡ None)
        ⊎ ((w : View) → all_moved w (group_step stamp v entries).more ≡ w)
    by (Refuses n refusal step parts) = inr (λ w. ap (λ (t : NamedStep). all_moved w t.more) step
        ∙ unmoved_all (names_of entries) w)
    by (Accepts ts none is step parts) = inl none

-- the group itself has no files
pub moves_are : (stamp : Stamp) (v w : View) (entries : List GroupEntry)
    → all_moved w (moves_of (group_step stamp v entries)) ≡ all_moved w (group_step stamp v entries).more
moves_are stamp v w entries = ap (λ (new : Option Files). all_moved (moved w (group_step stamp v entries).name new)
    (group_step stamp v entries).more) (no_new stamp v entries)
