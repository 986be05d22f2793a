-- What the step of one name makes of a run.
use Rattle.std.proofs.Common.{◌≡◌, ℕ, Bool, true, false, List, [], ◌∷◌, map, Option, None, Some, IfSome, Result, Ok}
use Rattle.std.proofs.Common.{Err, inl, inr, refl, sym, ap, subst, ◌∙◌}
use Rattle.std.proofs.lemmas.List.{append-nil}
use Rattle.sccs_base.specs.Stream.{GivesOk, GivesSome}
use Rattle.sccs_sid.specs.Refusal.{refusal_line}
use Rattle.sccs_sid.specs.declared.refusals.Refusal.{Refusal}
use Rattle.sccs_sid.specs.declared.refusals.Refusal.TheVariants.{BadName}
use Rattle.sccs_sid.specs.declared.refusals.StepFault.{StepFault}
use Rattle.sccs_sid.specs.declared.refusals.StepFault.TheVariants as step
use Rattle.std.specs.List.{AllByRecursion}
use Rattle.sccs_disk.specs.Files.{Content, Folder, View, view_in}
use Rattle.sccs_disk.specs.Told.{seen}
use Rattle.sccs_name_files.specs.StepFiles.{Files, look, Shows}
use Rattle.sccs_steps.specs.StepEffects.{Outcome, effect_of}
use Rattle.sccs_steps.specs.Calls.{World, Scene, Meets, world, shown}
use Rattle.sccs_steps.specs.Messages.{SaysRefusal, Concludes}
use Rattle.sccs_steps.specs.StepLists.{NamedStep, Runs, named_step}
use Rattle.sccs_steps.specs.Speaking.{CouldBe, NameMakes, SpeakAs, SpeakBy, SpeaksOne}
use Rattle.sccs_steps.specs.Actions.{Action, IsClear, IsHeard, KeepsFiles, NameIsClear, SpeaksAs, SpeaksByAs, SteppedAs}
use Rattle.sccs_steps.specs.Actions.{outcome_at, step_at}
use Rattle.sccs_steps.specs.declared.faults.Fault.{Fault}
use Rattle.sccs_steps.specs.declared.faults.Fault.TheVariants.{Memory, ReadFault, WriteFault, DiskFault}
use Rattle.sccs_steps.specs.declared.statuses.StatusRule.{StatusRule}
use Rattle.sccs_steps.proofs.Clear.{IsKept, clear_look, named_alike}
use Rattle.sccs_steps.proofs.Cleared.{cleared_same}
use Rattle.sccs_base.proofs.Gifts.{some_none}
use Rattle.sccs_steps.proofs.OneStep.{concluded, refusal_ends}
use Rattle.sccs_steps.proofs.StatusLaws.{idle_last}

-- ---- what is done with a name

pub misfit : (x : Action) (m : Folder) (i name : List ℕ) → x.fits name ≡ false → outcome_at x m i name ≡ Err BadName
unfolding outcome_at
misfit x m i name fits = rw fits refl

pub fitting : (x : Action) (m : Folder) (i name : List ℕ) → x.fits name ≡ true → outcome_at x m i name ≡ x.step name i
    (map (view_in m) (x.named name)) (look (view_in m) name)
unfolding outcome_at
fitting x m i name fits = rw fits refl

-- ---- on a disk that tells its files

-- a refusal that is said
pub refusal_runs : (rule : StatusRule) (w : List ℕ → Bool) (m : Folder) (n : List ℕ) (refusal : Refusal)
    (r : Result ℕ Fault) (v : Option View) (out err err2 : Option (List ℕ)) → Shows w v (view_in m)
    → SaysRefusal n refusal r err err2
    → Runs rule w r m (named_step n (Err refusal) ∷ []) (world v out err) (world v out err2)
refusal_runs rule w m n refusal r v out err err2 shows says = refusal_ends rule w m n (Err refusal) refusal r
    (world v out err) (world v out err2) refl shows (cleared_same w v v refl) (some_none out []) says

-- a name that isn't taken
pub misfit_runs : (x : Action) (w : List ℕ → Bool) (m : Folder) (i n : List ℕ) (r : Result ℕ Fault) (v : Option View)
    (out err err2 : Option (List ℕ)) → x.fits n ≡ false → Shows w v (view_in m) → SaysRefusal n BadName r err err2
    → Runs x.rule w r m (step_at x m i n ∷ []) (world v out err) (world v out err2)
misfit_runs x w m i n r v out err err2 unfit shows says =
    subst (λ (o : Outcome). Runs x.rule w r m (named_step n o ∷ []) (world v out err) (world v out err2))
    (sym (misfit x m i n unfit)) (refusal_runs x.rule w m n BadName r v out err err2 shows says)

met : (x : Action) (w : List ℕ → Bool) (m : Folder) (i n : List ℕ) (made : Result ℕ StepFault) (told : Option View)
    (left : Option (List ℕ)) (a b : World) → IsClear x.reads w n → AllByRecursion (λ k. w k ≡ false) (x.named n)
    → Shows w told (view_in m) → IsHeard x.takes left i
    → IfSome told (λ v. (j : List ℕ) → IsHeard x.takes left j → Meets (λ (status : ℕ). status) made n
    (x.step n j (map v (x.named n)) (look v n)) a b) → Meets (λ (status : ℕ). status) made n
    (x.step n i (map (view_in m) (x.named n)) (look (view_in m) n)) a b
met x w m i n made None left a b clear spared shows heard steps = absurd shows
met x w m i n made (Some u) left a b clear spared shows heard steps =
    subst (λ (f : Files). Meets (λ (status : ℕ). status) made n (x.step n i (map (view_in m) (x.named n)) f) a b)
    (clear_look x.reads w n u (view_in m) clear shows)
    (subst (λ (named : List (Option Content)). Meets (λ (status : ℕ). status) made n (x.step n i named (look u n)) a b)
    (named_alike w u (view_in m) (x.named n) shows spared) (steps i heard))

pub kept : (x : Action) (m : Folder) (i operand : List ℕ) → KeepsFiles x → x.fits operand ≡ true
    → IsKept x.reads (outcome_at x m i operand)
kept x m i operand quiet fits = subst (IsKept x.reads) (sym (fitting x m i operand fits))
    (λ reads d done. quiet.quiet reads operand i (map (view_in m) (x.named operand)) (look (view_in m) operand) d done)

-- a name whose step was called
pub stepped_runs : (x : Action) (w : List ℕ → Bool) (m : Folder) (i operand n : List ℕ) (made : Result ℕ StepFault)
    (r : Result ℕ Fault) (left : Option (List ℕ)) (a b : Scene) (e : Option (List ℕ)) → KeepsFiles x
    → x.fits operand ≡ true → n ≡ operand
    → NameIsClear x w operand → (x.reads ≡ true → b.told ≡ a.told) → Shows w (seen a.told) (view_in m)
    → IsHeard x.takes left i → SteppedAs (λ (status : ℕ). status) x made n left a b
    → Concludes made operand r b.err e
    → Runs x.rule w r m (step_at x m i operand ∷ []) (shown a) (world (seen b.told) b.out e)
stepped_runs x w m i operand n made r left a b e quiet fits same clear reads shows heard steps says =
    let here : SteppedAs (λ (status : ℕ). status) x made operand left a b =
    subst (λ name. SteppedAs (λ (status : ℕ). status) x made name left a b) same steps in
    concluded x.rule x.reads w m operand (outcome_at x m i operand) made r (shown a) (shown b) e (clear fits).0
    (λ only. ap seen (reads only)) (kept x m i operand quiet fits) shows
    (subst (λ (o : Outcome). Meets (λ (status : ℕ). status) made operand o (shown a) (shown b))
    (sym (fitting x m i operand fits)) (met x w m i operand made (seen a.told) left (shown a) (shown b)
    (clear fits).0 (clear fits).1 shows heard here)) says

-- ---- on any disk

pub speak_refusal : (rule : StatusRule) (n : List ℕ) (refusal : Refusal) (r : Result ℕ Fault)
    (err err2 : Option (List ℕ)) → SaysRefusal n refusal r err err2 → SpeakAs rule (named_step n (Err refusal) ∷ []) r
    err err2
speak_refusal rule n refusal (Ok status) err err2 says = (
  says.0 ∙ sym (idle_last rule 1),
  subst (λ text. GivesOk err err2 text) (sym (append-nil (refusal_line n refusal)))
      says.1,
)
speak_refusal rule n refusal (Err WriteFault) err err2 says = subst (λ text. GivesSome err err2 text)
    (sym (append-nil (refusal_line n refusal))) says
speak_refusal rule n refusal (Err Memory) err err2 says = absurd says
speak_refusal rule n refusal (Err ReadFault) err err2 says = absurd says
speak_refusal rule n refusal (Err DiskFault) err err2 says = absurd says

-- steps that are whole
pub speak_whole : (rule : StatusRule) (whole begun : List NamedStep → Type 0) (ts : List NamedStep) (r : Result ℕ Fault)
    (err err2 : Option (List ℕ)) → whole ts → begun ts → SpeakAs rule ts r err err2
    → SpeakBy rule whole begun r err err2
speak_whole rule whole begun ts (Ok status) err err2 all some says = (ts, all, says)
speak_whole rule whole begun ts (Err fault) err err2 all some says = (ts, some, says)

speak_name : (x : Action) (n : List ℕ) (o : Outcome) (r : Result ℕ Fault) (err err2 : Option (List ℕ)) → CouldBe x n o
    → SpeakAs x.rule (named_step n o ∷ []) r err err2 → SpeaksOne x n r err err2
speak_name x n o r err err2 could says = speak_whole x.rule (NameMakes x n) (NameMakes x n) (named_step n o ∷ []) r err
    err2 (o, could, refl) (o, could, refl) says

pub misfit_speaks : (x : Action) (n : List ℕ) (r : Result ℕ Fault) (err err2 : Option (List ℕ)) → x.fits n ≡ false
    → SaysRefusal n BadName r err err2 → SpeaksOne x n r err err2
misfit_speaks x n r err err2 fits says = speak_name x n (Err BadName) r err err2 (inl (fits, refl))
    (speak_refusal x.rule n BadName r err err2 says)

cut_said : (rule : StatusRule) (n : List ℕ) (o : Outcome) (fault : Fault) (r : Result ℕ Fault)
    (err err1 err2 : Option (List ℕ)) → GivesSome err err1 (effect_of n o).err → (r ≡ Err fault) × (err2 ≡ err1)
    → SpeakAs rule (named_step n o ∷ []) r err err2
cut_said rule n o fault r err err1 err2 some says =
    subst (λ (res : Result ℕ Fault). SpeakAs rule (named_step n o ∷ []) res err err2) (sym says.0)
    (subst (λ text. GivesSome err err2 text) (sym (append-nil (effect_of n o).err))
    (subst (λ t. GivesSome err t (effect_of n o).err) (sym says.1) some))

spoken : (rule : StatusRule) (n : List ℕ) (o : Outcome) (made : Result ℕ StepFault) (r : Result ℕ Fault)
    (err err1 err2 : Option (List ℕ)) → SpeaksAs (λ (status : ℕ). status) made n o err err1
    → Concludes made n r err1 err2 → SpeakAs rule (named_step n o ∷ []) r err err2
spoken rule n o (Ok status) r err err1 err2 speaks says =
    subst (λ (res : Result ℕ Fault). SpeakAs rule (named_step n o ∷ []) res err err2) (sym says.0)
    (subst (λ (out : Outcome). SpeakAs rule (named_step n out ∷ []) (Ok status) err err2) (sym speaks.1) (
      sym speaks.2 ∙ sym (idle_last rule speaks.0.status),
      subst (λ text. GivesOk err err2 text)
          (sym (append-nil speaks.0.err)) (subst (λ t. GivesOk err t speaks.0.err) (sym says.1) speaks.3),
    ))
spoken rule n o (Err (step.Refused refusal)) r err err1 err2 speaks says =
    subst (λ (out : Outcome). SpeakAs rule (named_step n out ∷ []) r err err2) (sym speaks.0)
    (speak_refusal rule n refusal r err err2 (subst (λ t. SaysRefusal n refusal r t err2) speaks.1 says))
spoken rule n o (Err step.Memory) r err err1 err2 speaks says = cut_said rule n o Memory r err err1 err2 speaks says
spoken rule n o (Err step.ReadFault) r err err1 err2 speaks says = cut_said rule n o ReadFault r err err1 err2 speaks
    says
spoken rule n o (Err step.WriteFault) r err err1 err2 speaks says = cut_said rule n o WriteFault r err err1 err2 speaks
    says
spoken rule n o (Err step.DiskFault) r err err1 err2 speaks says = cut_said rule n o DiskFault r err err1 err2 speaks
    says

pub step_speaks : (x : Action) (operand n : List ℕ) (made : Result ℕ StepFault) (r : Result ℕ Fault)
    (err err1 err2 : Option (List ℕ)) → x.fits operand ≡ true → n ≡ operand
    → SpeaksByAs (λ (status : ℕ). status) x.could made n err err1 → Concludes made operand r err1 err2
    → SpeaksOne x operand r err err2
step_speaks x operand n made r err err1 err2 fits same by says =
    let here : SpeaksByAs (λ (status : ℕ). status) x.could made operand err err1 =
    subst (λ name. SpeaksByAs (λ (status : ℕ). status) x.could made name err err1) same by in
    speak_name x operand here.0 r err err2 (inr (fits, here.1)) (spoken x.rule operand here.0 made r err err1 err2
    here.2 says)
