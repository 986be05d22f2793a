-- What a call that makes steps answers, and what it writes on err, over any disk.
use Rattle.std.specs.Prelude.{◌≡◌, ℕ, ◌⊎◌, true, false, List, [], ◌∷◌, ◌++◌, Option, Result, Ok, Err, codes}
use Rattle.std.specs.List.{AllByRecursion}
use Rattle.sccs_base.specs.Stream.{GivesOk, GivesSome}
use Rattle.sccs_operands.specs.FolderNames.{AreSfiles}
use Rattle.sccs_sid.specs.declared.refusals.Refusal.TheVariants.{BadName, TooLong}
use Rattle.sccs_steps.specs.Actions.{Action, kind_of}
use Rattle.sccs_steps.specs.StepEffects.{Outcome}
use Rattle.sccs_steps.specs.StepLists.{NamedStep, named_step, err_of, status_of}
use Rattle.sccs_steps.specs.declared.faults.Fault.{Fault}
use Rattle.sccs_steps.specs.declared.statuses.StatusRule.{StatusRule}
use Rattle.sccs_steps.specs.declared.operands.OperandKind.{OperandKind}
use Rattle.sccs_steps.specs.declared.operands.OperandKind.TheVariants.{Named, Here, FromInput}

-- what steps answer, and what they write on err
abbrev pub SpeakAs : StatusRule → List NamedStep → Result ℕ Fault → Option (List ℕ) → Option (List ℕ) → Type 0
SpeakAs rule ts (Ok status) err err2 = (status ≡ status_of rule ts) × GivesOk err err2 (err_of ts)
SpeakAs rule ts (Err fault) err err2 = GivesSome err err2 (err_of ts)

-- some steps explain it: whole ones at Ok, and else some that were begun
abbrev pub SpeakBy : StatusRule → (whole begun : List NamedStep → Type 0) → Result ℕ Fault → Option (List ℕ)
    → Option (List ℕ) → Type 0
SpeakBy rule whole begun (Ok status) err err2 = (ts : List NamedStep) × whole ts × SpeakAs rule ts (Ok status) err err2
SpeakBy rule whole begun (Err fault) err err2 = (ts : List NamedStep) × begun ts × SpeakAs rule ts (Err fault) err err2

-- steps of each of several things, in their order
abbrev pub InTurn : (List ℕ → List NamedStep → Type 0) → List (List ℕ) → List NamedStep → Type 0
InTurn whole [] ts = ts ≡ []
InTurn whole (thing ∷ things) ts = (first : List NamedStep) × (rest : List NamedStep) × (ts ≡ first ++ rest)
    × whole thing first × InTurn whole things rest

-- steps of the first of them, and the last of these is only begun; or none is
abbrev pub BegunInTurn : (whole begun : List ℕ → List NamedStep → Type 0) → List (List ℕ) → List NamedStep → Type 0
BegunInTurn whole begun things ts = (ts ≡ []) ⊎ ((done : List (List ℕ)) × (thing : List ℕ) × (rest : List (List ℕ))
    × (first : List NamedStep) × (last : List NamedStep)
    × (things ≡ done ++ thing ∷ rest) × (ts ≡ first ++ last) × InTurn whole done first × begun thing last)

-- what may come of a name: one that isn't taken is refused, and else what may come of a step
abbrev pub CouldBe : Action → List ℕ → Outcome → Type 0
CouldBe x n o = ((x.fits n ≡ false) × (o ≡ Err BadName)) ⊎ ((x.fits n ≡ true) × (x.could o ≡ true))

-- the step of a name that may come
abbrev pub NameMakes : Action → List ℕ → List NamedStep → Type 0
NameMakes x n ts = (o : Outcome) × CouldBe x n o × (ts ≡ named_step n o ∷ [])

-- names that an operand of a kind may stand for
abbrev pub MayStandFor : Action → OperandKind → List ℕ → List (List ℕ) → Type 0
MayStandFor x Named operand names = names ≡ operand ∷ []
MayStandFor x Here operand names = AreSfiles names
MayStandFor x FromInput operand names = AllByRecursion (λ n. x.fits n ≡ true) names

-- an input that is too long is refused
abbrev pub IsTooLong : OperandKind → List NamedStep → Type 0
IsTooLong FromInput ts = ts ≡ named_step (codes "-") (Err TooLong) ∷ []
IsTooLong kind ts = ⊥

-- the steps of an operand of a kind that may come: of some names that it may stand for; and the first of them
abbrev pub KindMakes : Action → OperandKind → List ℕ → List NamedStep → Type 0
KindMakes x kind operand ts = ((names : List (List ℕ)) × MayStandFor x kind operand names
    × InTurn (NameMakes x) names ts) ⊎ IsTooLong kind ts

abbrev pub KindBegins : Action → OperandKind → List ℕ → List NamedStep → Type 0
KindBegins x kind operand ts = (ts ≡ []) ⊎ (((names : List (List ℕ)) × MayStandFor x kind operand names
    × BegunInTurn (NameMakes x) (NameMakes x) names ts) ⊎ IsTooLong kind ts)

abbrev pub OperandMakes : Action → List ℕ → List NamedStep → Type 0
OperandMakes x operand = KindMakes x (kind_of x.takes operand) operand

abbrev pub OperandBegins : Action → List ℕ → List NamedStep → Type 0
OperandBegins x operand = KindBegins x (kind_of x.takes operand) operand

-- what is said of a name, of names, of an operand, and of operands
abbrev pub SpeaksOne : Action → List ℕ → Result ℕ Fault → Option (List ℕ) → Option (List ℕ) → Type 0
SpeaksOne x name = SpeakBy x.rule (NameMakes x name) (NameMakes x name)

abbrev pub SpeakNames : Action → List (List ℕ) → Result ℕ Fault → Option (List ℕ) → Option (List ℕ) → Type 0
SpeakNames x names = SpeakBy x.rule (InTurn (NameMakes x) names) (BegunInTurn (NameMakes x) (NameMakes x) names)

abbrev pub SpeaksKind : Action → OperandKind → List ℕ → Result ℕ Fault → Option (List ℕ) → Option (List ℕ) → Type 0
SpeaksKind x kind operand = SpeakBy x.rule (KindMakes x kind operand) (KindBegins x kind operand)

abbrev pub SpeakAll : Action → List (List ℕ) → Result ℕ Fault → Option (List ℕ) → Option (List ℕ) → Type 0
SpeakAll x operands = SpeakBy x.rule (InTurn (OperandMakes x) operands) (BegunInTurn (OperandMakes x)
    (OperandBegins x) operands)
