-- What a utility does with its operands, in their order.
use Rattle.std.specs.Prelude.{◌≡◌, ℕ, ◌≤◌, nat_lt, ◌==◌, length, Bool, true, false, ◌||◌, ◌⊎◌, List, [], ◌∷◌, drop, map}
use Rattle.std.specs.Prelude.{Option, None, Some, Result, Ok, Err, IfSome, IsSome, codes, if◌then◌else◌}
use Rattle.std.specs.List.{AllByRecursion, filter, list_any}
use Rattle.std.specs.Str.{bytes_eq}
use Rattle.sccs_base.specs.Constants.{file_limit}
use Rattle.sccs_base.specs.Cut.{text_of}
use Rattle.sccs_base.specs.Name.{IsSFileName, p_file, z_file}
use Rattle.sccs_base.specs.Stream.{GivesOk, GivesSome}
use Rattle.sccs_sid.specs.Reading.{is_empty}
use Rattle.sccs_sid.specs.Refusal.{number_of}
use Rattle.sccs_sid.specs.declared.refusals.Refusal.{Refusal}
use Rattle.sccs_sid.specs.declared.refusals.Refusal.TheVariants.{BadName, TooLong}
use Rattle.sccs_sid.specs.declared.refusals.StepFault.{StepFault}
use Rattle.sccs_sid.specs.declared.refusals.StepFault.TheVariants.{Refused}
use Rattle.sccs_disk.specs.Files.{Content, Folder, View, view_in}
use Rattle.sccs_disk.specs.Told.{seen}
use Rattle.sccs_intents.specs.Intents.{intent_file}
use Rattle.sccs_operands.specs.FolderNames.{sfiles_in}
use Rattle.sccs_name_files.specs.StepFiles.{Apart, Files, l_file, look}
use Rattle.sccs_steps.specs.StepEffects.{StepEffect, Outcome, effect_of}
use Rattle.sccs_steps.specs.Calls.{Scene, Meets, shown}
use Rattle.sccs_steps.specs.Statuses.{idle_status}
use Rattle.sccs_steps.specs.StepLists.{NamedStep, in_turn, named_step}
use Rattle.sccs_steps.specs.declared.operands.OperandKind.{OperandKind}
use Rattle.sccs_steps.specs.declared.operands.OperandKind.TheVariants.{Named, Here, FromInput}
use Rattle.sccs_steps.specs.declared.statuses.StatusRule.{StatusRule}

-- what a step does with its name, the input, the files that its words name, and the files of its own name
abbrev pub Step : Type 0
Step = List ℕ → List ℕ → List (Option Content) → Files → Outcome

-- What a utility does with an operand.
pub record Action : Type 0 where
  -- the operands that it takes
  pub fits : List ℕ → Bool
  pub step : Step
  -- the files that its words name, for an operand
  pub named : List ℕ → List (List ℕ)
  -- whether its step takes the input
  pub takes : Bool
  -- whether it changes no file
  pub reads : Bool
  -- whether it locks a name before it changes its s-file or p-file
  pub locks : Bool
  -- whether it writes nothing on out
  pub silent : Bool
  -- how the statuses of its steps become one
  pub rule : StatusRule
  -- the outcomes that may come, over any disk
  pub could : Outcome → Bool

-- `.` and `-` stand for several files
abbrev pub is_several : List ℕ → Bool
is_several operand = bytes_eq operand (codes ".") || bytes_eq operand (codes "-")

-- what is done with a file in a folder: a name that isn't taken is refused
unfoldable pub outcome_at : Action → Folder → List ℕ → List ℕ → Outcome
outcome_at x m i name = if x.fits name then x.step name i (map (view_in m) (x.named name)) (look (view_in m) name)
    else Err BadName

abbrev pub step_at : Action → Folder → List ℕ → List ℕ → NamedStep
step_at x m i name = named_step name (outcome_at x m i name)

-- the steps of names, each in the folder that the one before left
abbrev pub steps_of : Action → List ℕ → Folder → List (List ℕ) → List NamedStep
steps_of x i = in_turn (λ m name. step_at x m i name ∷ [])

-- ---- operands

-- what an operand is. A utility whose step takes the input takes files by their own names alone.
unfoldable pub kind_of : Bool → List ℕ → OperandKind
kind_of takes operand =
    if takes then Named
    else if bytes_eq operand (codes ".") then Here
    else if bytes_eq operand (codes "-") then FromInput
    else Named

-- the names that an input gives: its lines, but for those that aren't taken
unfoldable pub names_given : Action → List ℕ → Result (List (List ℕ)) Refusal
names_given x i = if nat_lt file_limit (length i) then Err TooLong else Ok (filter x.fits (text_of i))

-- that names are found is a step too, of the folder itself, which does nothing
abbrev pub names_found : StatusRule → NamedStep
names_found rule = record {
  name = codes "./";
  effect =
      record { new = None; text = []; out = []; err = []; status = idle_status rule };
  more = [];
}

abbrev pub input_steps : Action → List ℕ → Folder → Result (List (List ℕ)) Refusal → List NamedStep
input_steps x i m (Ok names) = names_found x.rule ∷ steps_of x i m names
input_steps x i m (Err refusal) = named_step (codes "-") (Err refusal) ∷ []

abbrev pub kind_steps : Action → List ℕ → Folder → List ℕ → OperandKind → List NamedStep
kind_steps x i m operand Named = step_at x m i operand ∷ []
kind_steps x i m operand Here = names_found x.rule ∷ steps_of x i m (sfiles_in m)
kind_steps x i m operand FromInput = input_steps x i m (names_given x i)

-- the steps of an operand: that of its file, or those of the files that are there, or that the input names
abbrev pub operand_steps : Action → List ℕ → Folder → List ℕ → List NamedStep
operand_steps x i m operand = kind_steps x i m operand (kind_of x.takes operand)

-- the steps of operands; `.` stands for the files that are there when its turn comes
abbrev pub steps_at : Action → Folder → List ℕ → List (List ℕ) → List NamedStep
steps_at x m i operands = in_turn (operand_steps x i) m operands

-- whether the input is taken, by a step or for names
abbrev pub kind_hears : Bool → OperandKind → Bool
kind_hears takes Named = takes
kind_hears takes Here = false
kind_hears takes FromInput = true

abbrev pub hears : Action → List (List ℕ) → Bool
hears x operands = list_any (λ operand. kind_hears x.takes (kind_of x.takes operand)) operands

-- the input is this, where the step takes it
abbrev pub IsHeard : Bool → Option (List ℕ) → List ℕ → Type 0
IsHeard takes left i = (takes ≡ false) ⊎ (left ≡ Some i)

-- what the call of a step answers and leaves, where the disk tells its files; code is the status that an answer stands
-- for
abbrev pub SteppedAs : {X : Type 0} → (X → ℕ) → Action → Result X StepFault → List ℕ → Option (List ℕ) → Scene → Scene
    → Type 0
SteppedAs code x r n left a b = IfSome (seen a.told) (λ v. (i : List ℕ) → IsHeard x.takes left i
    → Meets code r n (x.step n i (map v (x.named n)) (look v n)) (shown a) (shown b))

-- the same of an ordinary utility, whose steps have the status 0
abbrev pub Stepped : Action → Result (Unit {0}) StepFault → List ℕ → Option (List ℕ) → Scene → Scene → Type 0
Stepped x r n left a b = SteppedAs (λ (done : Unit {0}). 0) x r n left a b

-- What is new of a name whose z-file is there leaves the s-file, the p-file and the z-file as they are.
pub record LeavesLocked (f g : Files) : Type 0 where
  pub s : g.s ≡ f.s
  pub p : g.p ≡ f.p
  pub z : g.z ≡ f.z

-- An action that only reads changes no file, and one that changes files takes the names of s-files alone; one that
-- locks its name leaves the files of a locked one, and one that doesn't changes nothing while an intent is there.
pub record KeepsFiles (x : Action) : Type 0 where
  pub quiet : x.reads ≡ true → (n i : List ℕ) (named : List (Option Content)) (f : Files) (d : StepEffect)
      → x.step n i named f ≡ Ok d → d.new ≡ None
  pub names : x.reads ≡ false → (n : List ℕ) → x.fits n ≡ true → IsSFileName n
  pub locked : x.reads ≡ false → x.locks ≡ true → (n i : List ℕ) (named : List (Option Content)) (f : Files)
      (d : StepEffect)
      → x.step n i named f ≡ Ok d → IsSome f.z → (g : Files) → d.new ≡ Some g → LeavesLocked f g
  pub pending : x.reads ≡ false → x.locks ≡ false → (n i : List ℕ) (v : View) (f : Files) (d : StepEffect)
      → IsSome (v intent_file) → x.step n i (map v (x.named n)) f ≡ Ok d → d.new ≡ None

-- The files that a step sees are no working files.
pub record IsSeen (w : List ℕ → Bool) (n : List ℕ) : Type 0 where
  pub s : w n ≡ false
  pub p : w (p_file n) ≡ false
  pub z : w (z_file n) ≡ false
  pub g : w (drop 2 n) ≡ false
  pub l : w (l_file n) ≡ false

-- of a command that only reads the files that it sees are no working files of others; of one that changes files the
-- working files of the name are among them too
abbrev pub IsClear : Bool → (List ℕ → Bool) → List ℕ → Type 0
IsClear reads w n = ((reads ≡ true) × IsSeen w n) ⊎ Apart w n

-- the same of a name that is taken, and no file that the words name is a working file; and of the names of steps
abbrev pub NameIsClear : Action → (List ℕ → Bool) → List ℕ → Type 0
NameIsClear x w name = x.fits name ≡ true → IsClear x.reads w name × AllByRecursion (λ k. w k ≡ false) (x.named name)

abbrev pub AreClear : Action → (List ℕ → Bool) → List NamedStep → Type 0
AreClear x w ts = AllByRecursion (λ (t : NamedStep). NameIsClear x w t.name) ts

-- only a lone operand takes the input
abbrev pub IsLone : Action → List (List ℕ) → Type 0
IsLone x operands = (hears x operands ≡ false) ⊎ (length operands ≤ 1)

-- ---- over any disk

abbrev pub has_number : List ℕ → ℕ → Bool
has_number [] n = false
has_number (check ∷ checks) n = check == n || has_number checks n

-- what is accepted writes nothing on err, and what is refused is refused by one of these checks
abbrev pub quiet_checks : List ℕ → Outcome → Bool
quiet_checks checks (Ok effect) = is_empty effect.err
quiet_checks checks (Err refusal) = has_number checks (number_of refusal)

-- the answer is no refusal but one of these checks
abbrev pub RefusesWithin : {X : Type 0} → List ℕ → Result X StepFault → Type 0
RefusesWithin checks r = (refusal : Refusal) → r ≡ Err (Refused refusal) → has_number checks (number_of refusal) ≡ true

-- what a step answers, and what it writes on err
abbrev pub SpeaksAs : {X : Type 0} → (X → ℕ) → Result X StepFault → List ℕ → Outcome → Option (List ℕ) → Option (List ℕ)
    → Type 0
SpeaksAs code (Ok x) n o err err2 = (d : StepEffect) × (o ≡ Ok d) × (d.status ≡ code x) × GivesOk err err2 d.err
SpeaksAs code (Err (Refused refusal)) n o err err2 = (o ≡ Err refusal) × (err2 ≡ err)
SpeaksAs code (Err fault) n o err err2 = GivesSome err err2 (effect_of n o).err

-- an outcome that may come explains the answer and what is written on err
abbrev pub SpeaksByAs : {X : Type 0} → (X → ℕ) → (Outcome → Bool) → Result X StepFault → List ℕ → Option (List ℕ)
    → Option (List ℕ) → Type 0
SpeaksByAs code could r n err err2 = (o : Outcome) × (could o ≡ true) × SpeaksAs code r n o err err2

abbrev pub SpeaksBy : (Outcome → Bool) → Result (Unit {0}) StepFault → List ℕ → Option (List ℕ) → Option (List ℕ)
    → Type 0
SpeaksBy could r n err err2 = SpeaksByAs (λ (done : Unit {0}). 0) could r n err err2
