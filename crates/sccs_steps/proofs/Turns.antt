-- Things that are done in turn, each by some steps.
use Rattle.std.proofs.Common.{◌≡◌, ℕ, ◌+◌, ◌<◌, ◌≤◌, Bool, List, [], ◌∷◌, ◌++◌, take, drop, get_or, length, Option, Ok}
use Rattle.std.proofs.Common.{Err, refl, sym, ap, subst, ◌∙◌, append_assoc, inr}
use Rattle.std.proofs.Math.ListN.{drop_of_length-le}
use Rattle.std.proofs.lemmas.List.{append-nil, drop_more, take_all, take_more, take-append-drop}
use Rattle.std.specs.List.{AllByRecursion}
use Rattle.sccs_base.specs.Stream.{GivesOk, GivesSome}
use Rattle.sccs_base.proofs.Gifts.{gives_both, gives_none, gives_then}
use Rattle.sccs_disk.specs.Files.{Folder, view_in}
use Rattle.sccs_name_files.specs.StepFiles.{Shows}
use Rattle.sccs_steps.specs.Actions.{Action, AreClear}
use Rattle.sccs_steps.specs.Calls.{World}
use Rattle.sccs_steps.specs.Speaking.{BegunInTurn, InTurn, SpeakBy}
use Rattle.sccs_steps.specs.StepLists.{NamedStep, Parts, Runs, SoFar, Stops, err_of, folder_after, in_turn, status_of}
use Rattle.sccs_steps.specs.declared.faults.Fault.{Fault}
use Rattle.sccs_steps.specs.Statuses.{idle_status, joined_status}
use Rattle.sccs_steps.specs.declared.statuses.StatusRule.{StatusRule}
use Rattle.sccs_steps.proofs.JoinedSteps.{ends, ends_early, err_more, goes_on, status_more}

-- ---- what holds of all steps holds of some of them

pub front_all : {X : Type 0} (P : X → Type 0) (xs ys : List X) → AllByRecursion P (xs ++ ys) → AllByRecursion P xs
front_all P [] ys all = tt
front_all P (x ∷ xs) ys all = (all.0, front_all P xs ys all.1)

pub rest_all : {X : Type 0} (P : X → Type 0) (xs ys : List X) → AllByRecursion P (xs ++ ys) → AllByRecursion P ys
rest_all P [] ys all = all
rest_all P (x ∷ xs) ys all = rest_all P xs ys all.1

pub part_all : {X : Type 0} (P : X → Type 0) (all made left first rest : List X) → all ≡ made ++ left
    → left ≡ first ++ rest → AllByRecursion P all → AllByRecursion P first
part_all P all made left first rest whole parts h =
    front_all P first rest (subst (AllByRecursion P) parts (rest_all P made left (subst (AllByRecursion P) whole h)))

pub each_all : {X : Type 0} (P Q : X → Type 0) (xs : List X) → ((x : X) → P x → Q x) → AllByRecursion P xs
    → AllByRecursion Q xs
each_all P Q [] as_q all = tt
each_all P Q (x ∷ xs) as_q all = (as_q x all.0, each_all P Q xs as_q all.1)

-- ---- the steps of one and of the rest

pub next_turn : (steps : Folder → List ℕ → List NamedStep) (things : List (List ℕ)) (k : ℕ) (thing : List ℕ)
    → k < length things
    → Parts (λ u. in_turn steps u (drop k things)) (λ u. steps u (get_or things k thing))
    (λ u. in_turn steps u (drop (k + 1) things))
next_turn steps things k thing below = λ u. ap (λ rest. in_turn steps u rest) (drop_more things k thing below)

-- what holds of all steps holds of those of the next
pub next_all : (rule : StatusRule) (P : NamedStep → Type 0) (w : List ℕ → Bool) (m : Folder) (steps : Folder → List ℕ
    → List NamedStep) (things : List (List ℕ)) (k status : ℕ) (item thing : List ℕ) (a b : World)
    → thing ≡ get_or things k item → k < length things
    → (so : SoFar rule w m (in_turn steps m things) (λ u. in_turn steps u (drop k things)) status a b)
    → AllByRecursion P (in_turn steps m things) → AllByRecursion P (steps (folder_after m so.made) thing)
next_all rule P w m steps things k status item thing a b is below so all =
    let u : Folder = folder_after m so.made in
    subst (λ t. AllByRecursion P (steps u t)) (sym is)
    (part_all P (in_turn steps m things) so.made (in_turn steps u (drop k things)) (steps u (get_or things k item))
    (in_turn steps (folder_after u (steps u (get_or things k item))) (drop (k + 1) things)) so.is
    (next_turn steps things k item below u) all)

-- ---- on a disk that tells its files

pub turn_stops : (x : Action) (w : List ℕ → Bool) (m : Folder) (steps : Folder → List ℕ → List NamedStep)
    (things : List (List ℕ)) (k status : ℕ) (fault : Fault) (item thing : List ℕ) (a b c : World)
    → thing ≡ get_or things k item → k < length things
    → AreClear x w (in_turn steps m things)
    → (so : SoFar x.rule w m (in_turn steps m things) (λ u. in_turn steps u (drop k things)) status a b)
    → ((u : Folder) → AreClear x w (steps u thing) → Shows w b.view (view_in u) → Runs x.rule w (Err fault) u
    (steps u thing) b c) → Stops w fault m (in_turn steps m things) a c
turn_stops x w m steps things k status fault item thing a b c is below clear so next =
    ends_early x.rule w fault m (in_turn steps m things) (λ u. in_turn steps u (drop k things))
    (λ u. steps u (get_or things k item)) (λ u. in_turn steps u (drop (k + 1) things)) status a b c
    (next_turn steps things k item below) so
    (subst (λ t. Stops w fault (folder_after m so.made) (steps (folder_after m so.made) t) b c) is
    (next (folder_after m so.made) (next_all x.rule _ w m steps things k status item thing a b is below so clear)
    so.ran.view))

pub turn_on : (x : Action) (w : List ℕ → Bool) (m : Folder) (steps : Folder → List ℕ → List NamedStep)
    (things : List (List ℕ)) (k status one : ℕ) (item thing : List ℕ) (a b c : World) → thing ≡ get_or things k item
    → k < length things
    → AreClear x w (in_turn steps m things)
    → (so : SoFar x.rule w m (in_turn steps m things) (λ u. in_turn steps u (drop k things)) status a b)
    → ((u : Folder) → AreClear x w (steps u thing) → Shows w b.view (view_in u) → Runs x.rule w (Ok one) u
    (steps u thing) b c)
    → SoFar x.rule w m (in_turn steps m things) (λ u. in_turn steps u (drop (k + 1) things))
    (joined_status x.rule status one) a c
turn_on x w m steps things k status one item thing a b c is below clear so next =
    goes_on x.rule w m (in_turn steps m things) (λ u. in_turn steps u (drop k things))
    (λ u. steps u (get_or things k item)) (λ u. in_turn steps u (drop (k + 1) things)) status one a b c
    (next_turn steps things k item below) so
    (subst (λ t. Runs x.rule w (Ok one) (folder_after m so.made) (steps (folder_after m so.made) t) b c) is
    (next (folder_after m so.made) (next_all x.rule _ w m steps things k status item thing a b is below so clear)
    so.ran.view))

pub turns_end : (rule : StatusRule) (w : List ℕ → Bool) (m : Folder) (steps : Folder → List ℕ → List NamedStep)
    (things : List (List ℕ)) (k status : ℕ) (a b : World) → length things ≤ k → SoFar rule w m (in_turn steps m things)
    (λ u. in_turn steps u (drop k things)) status a b
    → Runs rule w (Ok status) m (in_turn steps m things) a b
turns_end rule w m steps things k status a b all so =
    ends rule w m (in_turn steps m things) (λ u. in_turn steps u (drop k things)) status a b
    (λ u. ap (λ rest. in_turn steps u rest) (drop_of_length-le things all)) so

-- ---- on any disk

pub in_turn_more : (whole : List ℕ → List NamedStep → Type 0) (done : List (List ℕ)) (thing : List ℕ)
    (made ts : List NamedStep) → InTurn whole done made → whole thing ts → InTurn whole (done ++ thing ∷ [])
    (made ++ ts)
in_turn_more whole [] thing made ts is all = (ts, [], ap (λ front. front ++ ts) is ∙ sym (append-nil ts), all, refl)
in_turn_more whole (d ∷ done) thing made ts is all = (
  is.0,
  is.1 ++ ts,
  ap (λ front. front ++ ts) is.2 ∙ append_assoc is.0 is.1 ts,
  is.3,
  in_turn_more whole done thing
      is.1 ts is.4 all,
)

-- steps of the first things are made, and they explain what is written on err
pub record SpokeSoFar (rule : StatusRule) (whole : List ℕ → List NamedStep → Type 0) (things : List (List ℕ))
    (k status : ℕ) (err err2 : Option (List ℕ)) : Type 0 where
  pub made : List NamedStep
  pub are : InTurn whole (take k things) made
  pub code : status ≡ status_of rule made
  pub said : GivesOk err err2 (err_of made)

pub spoke_begins : (rule : StatusRule) (whole : List ℕ → List NamedStep → Type 0) (things : List (List ℕ)) (status : ℕ)
    (err : Option (List ℕ)) → status ≡ idle_status rule → SpokeSoFar rule whole things 0 status err err
spoke_begins rule whole things status err idle = record { made = []; are = refl; code = idle; said = gives_none err }

pub spoke_on : (rule : StatusRule) (whole begun : List ℕ → List NamedStep → Type 0) (things : List (List ℕ))
    (k status one : ℕ) (item thing : List ℕ) (a b c : Option (List ℕ)) → thing ≡ get_or things k item
    → k < length things → SpokeSoFar rule whole things k status a b
    → SpeakBy rule (whole thing) (begun thing) (Ok one) b c → SpokeSoFar rule whole things (k + 1)
    (joined_status rule status one) a c
spoke_on rule whole begun things k status one item thing a b c is below so next = record {
  made = so.made ++ next.0;
  are =
      subst (λ done. InTurn whole done (so.made ++ next.0)) (sym (take_more things k item below))
      (in_turn_more whole (take k things) (get_or things k item) so.made next.0 so.are
      (subst (λ t. whole t next.0) is next.1));
  code = ap (λ s. joined_status rule s one) so.code ∙ (ap (λ s. joined_status rule (status_of rule so.made) s) next.2.0
      ∙ sym (status_more rule so.made next.0));
  said = subst (λ text. GivesOk a c text) (sym (err_more so.made next.0)) (gives_both a b c (err_of so.made)
      (err_of next.0) so.said next.2.1);
}

pub spoke_cut : (rule : StatusRule) (whole begun : List ℕ → List NamedStep → Type 0) (things : List (List ℕ))
    (k status : ℕ) (fault : Fault) (item thing : List ℕ) (a b c : Option (List ℕ)) → thing ≡ get_or things k item
    → k < length things → SpokeSoFar rule whole things k status a b
    → SpeakBy rule (whole thing) (begun thing) (Err fault) b c → SpeakBy rule (InTurn whole things)
    (BegunInTurn whole begun things) (Err fault) a c
spoke_cut rule whole begun things k status fault item thing a b c is below so next = (
  so.made ++ next.0,
  inr (
    take k things,
    get_or things k item,
    drop (k + 1) things,
    so.made,
    next.0,
    sym (take-append-drop k things) ∙ ap (λ rest. take k things ++ rest) (drop_more things k item below),
    refl,
    so.are,
    subst (λ t. begun t next.0) is next.1,
  ),
  subst (λ text. GivesSome a c text) (sym (err_more so.made next.0)) (gives_then a b c (err_of so.made)
      (err_of next.0) so.said next.2),
)

pub spoke_ends : (rule : StatusRule) (whole begun : List ℕ → List NamedStep → Type 0) (things : List (List ℕ))
    (k status : ℕ) (a b : Option (List ℕ)) → length things ≤ k → SpokeSoFar rule whole things k status a b
    → SpeakBy rule (InTurn whole things) (BegunInTurn whole begun things) (Ok status) a b
spoke_ends rule whole begun things k status a b all so =
    (so.made, subst (λ done. InTurn whole done so.made) (take_all k things all) so.are, (so.code, so.said))
