-- Each step of operands changes no file, or is what the action makes of the files of a name that it takes.
use Rattle.std.proofs.Common.{◌≡◌, ◌⊎◌, ℕ, zero, suc, Bool, true, false, List, [], ◌∷◌, ◌++◌, map, take, None, Result}
use Rattle.std.proofs.Common.{Ok, Err, inl, inr, refl, sym, ap, ◌∙◌}
use Rattle.sccs_disk.specs.Files.{Folder, view_in}
use Rattle.sccs_sid.specs.declared.refusals.Refusal.{Refusal}
use Rattle.sccs_name_files.specs.StepFiles.{look, moved_in}
use Rattle.sccs_operands.specs.FolderNames.{sfiles_in}
use Rattle.sccs_steps.specs.Actions.{Action, input_steps, kind_of, kind_steps, names_given, operand_steps, step_at}
use Rattle.sccs_steps.specs.Actions.{steps_at}
use Rattle.sccs_steps.specs.StepEffects.{Outcome, effect_of}
use Rattle.sccs_steps.specs.StepLists.{NamedStep, all_moved_in, folder_after, in_turn, step_in}
use Rattle.sccs_steps.specs.declared.operands.OperandKind.{OperandKind}
use Rattle.sccs_steps.specs.declared.operands.OperandKind.TheVariants.{Named, Here, FromInput}
use Rattle.sccs_steps.proofs.NameLaws.{fitting, misfit}

-- What an action makes of the files of a name that it takes.
pub record IsMadeOf (x : Action) (i : List ℕ) (m : Folder) (t : NamedStep) : Type 0 where
  pub fits : x.fits t.name ≡ true
  pub made : x.step t.name i (map (view_in m) (x.named t.name)) (look (view_in m) t.name) ≡ Ok t.effect

-- A step of one name.
pub record IsStepOf (x : Action) (i : List ℕ) (m : Folder) (t : NamedStep) : Type 0 where
  pub alone : t.more ≡ []
  pub made : (t.effect.new ≡ None) ⊎ IsMadeOf x i m t

-- it changes the files of its name alone
pub alone_in : (m : Folder) (t : NamedStep) → t.more ≡ [] → step_in m t ≡ moved_in m t.name t.effect.new
alone_in m t none = ap (all_moved_in (moved_in m t.name t.effect.new)) none

-- so it is of each step, in the folder that those before left
abbrev pub AreStepsOf : Action → List ℕ → Folder → List NamedStep → Type 0
AreStepsOf x i m [] = Unit {0}
AreStepsOf x i m (t ∷ ts) = IsStepOf x i m t × AreStepsOf x i (step_in m t) ts

-- ---- one name

step_is : (x : Action) (m : Folder) (i name : List ℕ) → IsStepOf x i m (step_at x m i name)
step_is x m i name = by (x.fits name) refl
  where
    made : (o : Outcome) → x.fits name ≡ true → x.step name i (map (view_in m) (x.named name)) (look (view_in m) name)
        ≡ o → IsStepOf x i m (step_at x m i name)
    made (Ok d) fits is =
        let effect : effect_of name (Ok d) ≡ (step_at x m i name).effect =
        sym (ap (effect_of name) (fitting x m i name fits ∙ is)) in
        record { alone = refl; made = inr (record { fits = fits; made = is ∙ ap Ok effect }) }
    made (Err refusal) fits is =
        record {
          alone = refl;
          made = inl (ap (λ (o : Outcome). (effect_of name o).new) (fitting x m i name fits
              ∙ is));
        }

    by : (fits : Bool) → x.fits name ≡ fits → IsStepOf x i m (step_at x m i name)
    by true fits = made (x.step name i (map (view_in m) (x.named name)) (look (view_in m) name)) fits refl
    by false unfit = record {
      alone = refl;
      made =
          inl (ap (λ (o : Outcome). (effect_of name o).new) (misfit x m i name unfit));
    }

-- ---- lists

are_more : (x : Action) (i : List ℕ) (m : Folder) (ts us : List NamedStep) → AreStepsOf x i m ts
    → AreStepsOf x i (folder_after m ts) us → AreStepsOf x i m (ts ++ us)
are_more x i m [] us first second = second
are_more x i m (t ∷ ts) us first second = (first.0, are_more x i (step_in m t) ts us first.1 second)

are_turns : (x : Action) (i : List ℕ) (steps : Folder → List ℕ → List NamedStep) → ((m : Folder) (thing : List ℕ)
    → AreStepsOf x i m (steps m thing)) → (m : Folder) (things : List (List ℕ))
    → AreStepsOf x i m (in_turn steps m things)
are_turns x i steps each m [] = tt
are_turns x i steps each m (thing ∷ things) =
    are_more x i m (steps m thing) (in_turn steps (folder_after m (steps m thing)) things) (each m thing)
    (are_turns x i steps each (folder_after m (steps m thing)) things)

pub are_some : (x : Action) (i : List ℕ) (count : ℕ) (m : Folder) (ts : List NamedStep) → AreStepsOf x i m ts
    → AreStepsOf x i m (take count ts)
are_some x i zero m ts are = tt
are_some x i (suc count) m [] are = tt
are_some x i (suc count) m (t ∷ ts) are = (are.0, are_some x i count (step_in m t) ts are.1)

-- ---- operands

are_names : (x : Action) (i : List ℕ) (m : Folder) (names : List (List ℕ))
    → AreStepsOf x i m (in_turn (λ u name. step_at x u i name ∷ []) m names)
are_names x i m names = are_turns x i (λ u name. step_at x u i name ∷ []) (λ u name. (step_is x u i name, tt)) m names

are_given : (x : Action) (i : List ℕ) (m : Folder) (given : Result (List (List ℕ)) Refusal)
    → AreStepsOf x i m (input_steps x i m given)
are_given x i m (Ok names) = (record { alone = refl; made = inl refl }, are_names x i m names)
are_given x i m (Err refusal) = (record { alone = refl; made = inl refl }, tt)

are_of_kind : (x : Action) (i : List ℕ) (m : Folder) (operand : List ℕ) (kind : OperandKind)
    → AreStepsOf x i m (kind_steps x i m operand kind)
are_of_kind x i m operand Named = (step_is x m i operand, tt)
are_of_kind x i m operand Here = (record { alone = refl; made = inl refl }, are_names x i m (sfiles_in m))
are_of_kind x i m operand FromInput = are_given x i m (names_given x i)

pub are_steps : (x : Action) (m : Folder) (i : List ℕ) (operands : List (List ℕ))
    → AreStepsOf x i m (steps_at x m i operands)
are_steps x m i operands = are_turns x i (operand_steps x i) (λ u operand. are_of_kind x i u operand
    (kind_of x.takes operand)) m operands
