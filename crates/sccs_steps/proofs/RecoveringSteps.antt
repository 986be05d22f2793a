-- Steps on a disk whose s-files and p-files are firm, calm or not.
use Rattle.std.proofs.Common.{◌≡◌, ◌≢◌, ◌⊎◌, ℕ, ◌+◌, ◌<◌, ◌≤◌, Bool, true, false, ◌||◌, List, [], ◌∷◌, ◌++◌, take, drop}
use Rattle.std.proofs.Common.{get_or, length, Option, IfSome, IsOk, is_ok, Result, Ok, Err, codes, inl, inr, refl, sym}
use Rattle.std.proofs.Common.{ap, subst, ◌∙◌, ⊎_elim, arith}
use Rattle.std.specs.Prelude.{◌==◌, ◌&&◌}
use Rattle.std.specs.List.{filter}
use Rattle.std.proofs.Math.ListN.{drop_of_length-le}
use Rattle.std.proofs.lemmas.Bool.{eqb-true, or_left, or_right, or_cases}
use Rattle.std.proofs.lemmas.List.{append-nil}
use Rattle.sccs_base.specs.Constants.{file_limit}
use Rattle.sccs_base.specs.Name.{is_sfile_name, sfile_name_decides}
use Rattle.sccs_base.specs.declared.streams.TakeFault.TheVariants as take
use Rattle.sccs_disk.specs.Files.{Folder, view_in}
use Rattle.sccs_disk.specs.Told.{Told, seen}
use Rattle.sccs_name_files.specs.StepFiles.{Shows}
use Rattle.sccs_crash_points.specs.CrashPoints.{KeepsCalm, LeavesCalm, LeavesFirm, RecoversOn}
use Rattle.sccs_crash_points.proofs.Recoveries.{calm_kept_on, calm_later, calm_same, firm_same, firm_then, keeps_then}
use Rattle.sccs_crash_points.proofs.Recoveries.{story_same, story_then}
use Rattle.sccs_operands.specs.FolderNames.{HasSfilesOf, sfiles_in}
use Rattle.sccs_operands.specs.InputNames.{GivesLines}
use Rattle.sccs_sid.specs.declared.refusals.Refusal.{Refusal}
use Rattle.sccs_sid.specs.declared.refusals.Refusal.TheVariants.{BadName, TooLong}
use Rattle.sccs_sid.specs.declared.refusals.StepFault.{StepFault}
use Rattle.sccs_sid.specs.declared.refusals.StepFault.TheVariants as step
use Rattle.sccs_steps.specs.Actions.{Action, AreClear, IsHeard, input_steps, kind_steps, names_found, names_given}
use Rattle.sccs_steps.specs.Actions.{step_at, steps_of}
use Rattle.sccs_steps.specs.Calls.{Scene, World, scene, shown}
use Rattle.sccs_steps.specs.ListStops.{Spares}
use Rattle.sccs_steps.specs.Messages.{Concludes, SaysRefusal}
use Rattle.sccs_steps.specs.Recovering.{RecoversBy, RecoversStep, RecoversSteps, has_made}
use Rattle.sccs_steps.specs.Running.{MakesBy}
use Rattle.sccs_steps.specs.StepEffects.{Outcome}
use Rattle.sccs_steps.specs.StepLists.{NamedStep, Runs, SoFar, folder_after, in_turn, named_step}
use Rattle.sccs_steps.specs.declared.faults.Fault.{Fault}
use Rattle.sccs_steps.specs.declared.faults.Fault.TheVariants as end
use Rattle.sccs_steps.specs.declared.operands.OperandKind.TheVariants.{FromInput, Here}
use Rattle.sccs_steps.specs.Statuses.{idle_status, joined_status}
use Rattle.sccs_steps.specs.declared.statuses.StatusRule.{StatusRule}
use Rattle.sccs_steps.proofs.JoinedSteps.{begins, goes_on}
use Rattle.sccs_steps.proofs.KindLaws.{here_names, input_names, long_names}
use Rattle.sccs_steps.proofs.NameLaws.{misfit}
use Rattle.sccs_steps.proofs.StatusLaws.{idle_last}
use Rattle.sccs_steps.proofs.Turns.{next_all, next_turn}

-- ---- whether a step is made

refused_by : (b : Bool) → ((b && (1 == 0)) || false) ≡ false
refused_by true = refl
refused_by false = refl

pub refused_none : (n : List ℕ) (o : Outcome) (refusal : Refusal) → o ≡ Err refusal → has_made (named_step n o ∷ [])
    ≡ false
refused_none n o refusal is = subst (λ (q : Outcome). has_made (named_step n q ∷ []) ≡ false) (sym is)
    (refused_by (is_sfile_name n))

status_by : (b : Bool) (s : ℕ) → ((b && (s == 0)) || false) ≡ true → s ≡ 0
status_by false s h = absurd (cc)
status_by true s h = eqb-true s 0 (by (s == 0) h)
  where
    by : (b : Bool) → (b || false) ≡ true → b ≡ true
    by true e = refl
    by false e = cc

-- that names are found is no step of an s-file's name
other_front : ◌≡◌ {A = List ℕ} (46 ∷ 47 ∷ []) (115 ∷ 46 ∷ []) → ⊥
other_front e = cc

no_sfile : (n : List ℕ) (b : Bool) → is_sfile_name n ≡ b → take 2 n ≡ 46 ∷ 47 ∷ [] → b ≡ false
no_sfile n false is front = refl
no_sfile n true is front = absurd (other_front (sym front ∙ ((sfile_name_decides n).0 is).1.front))

after_other : (t : NamedStep) (ts : List NamedStep) → is_sfile_name t.name ≡ false → has_made (t ∷ ts) ≡ true
    → has_made ts ≡ true
after_other t ts other is = subst (λ (b : Bool). ((b && t.effect.status == 0) || has_made ts) ≡ true) other is

after_found : (rule : StatusRule) (ts : List NamedStep) → has_made (names_found rule ∷ ts) ≡ true → has_made ts ≡ true
after_found rule ts is = after_other (names_found rule) ts (no_sfile (names_found rule).name
    (is_sfile_name (names_found rule).name) refl refl) is

made_split : (ts us : List NamedStep) → has_made (ts ++ us) ≡ true → (has_made ts ≡ true) ⊎ (has_made us ≡ true)
made_split [] us is = inr is
made_split (t ∷ ts) us is =
    ⊎_elim (λ here. inl (or_left (is_sfile_name t.name && t.effect.status == 0) (has_made ts) here))
    (λ later. ⊎_elim (λ old. inl (or_right (is_sfile_name t.name && t.effect.status == 0) (has_made ts) old))
    (λ new. inr new) (made_split ts us later))
    (or_cases (is_sfile_name t.name && t.effect.status == 0) (has_made (ts ++ us)) is)

-- ---- nothing is told anew

no_steps : (x : Action) (steps : Folder → List ℕ → List NamedStep) (given : List ℕ → Type 0) (r : Result ℕ Fault)
    (a b : Told) → b ≡ a → (IsOk r → (folder : Folder) (i : List ℕ) → given i → has_made (steps folder i) ≡ true → ⊥)
    → RecoversSteps x steps given r a b
no_steps x steps given r a b same none = record {
  story = story_same a b same;
  firm = firm_same a b same;
  calm = λ ok w folder i spares clear shows heard made. absurd (none ok folder i heard made);
  keeps = λ other. calm_same a b same;
}

pub never_recovers : (x : Action) (steps : Folder → List ℕ → List NamedStep) (given : List ℕ → Type 0) (fault : Fault)
    (a b : Told) → b ≡ a → RecoversBy x steps given (Err fault) a b
never_recovers x steps given fault a b same never = no_steps x steps given (Err fault) a b same (λ ok. absurd (cc))

-- a name that isn't taken
pub misfit_recovers : (x : Action) (n : List ℕ) (given : List ℕ → Type 0) (r : Result ℕ Fault) (a b : Told) → b ≡ a
    → x.fits n ≡ false → RecoversBy x (λ folder i. step_at x folder i n ∷ []) given r a b
misfit_recovers x n given r a b same unfit never =
    no_steps x (λ folder i. step_at x folder i n ∷ []) given r a b same (λ ok folder i heard made. let none =
    refused_none n _ BadName (misfit x folder i n unfit) in cc)

-- ---- a name whose step was called

not_ok : (r : Result ℕ Fault) (fault : Fault) → r ≡ Err fault → IsOk r → ⊥
not_ok r fault is ok = let e : false ≡ true = sym (ap is_ok is) ∙ ok in cc

-- a step that is made wasn't refused
not_refused : (rule : StatusRule) (w : List ℕ → Bool) (r : Result ℕ Fault) (m : Folder) (t : NamedStep) (n : List ℕ)
    (refusal : Refusal) (a b : World) (err e : Option (List ℕ)) → Runs rule w r m (t ∷ []) a b
    → SaysRefusal n refusal r err e → IsOk r → has_made (t ∷ []) ≡ true → ⊥
not_refused rule w (Ok status) m t n refusal a b err e runs says ok made =
    (let none = status_by (is_sfile_name t.name) t.effect.status made in let code : status ≡ t.effect.status = runs.0
    ∙ idle_last rule t.effect.status in let one = says.0 in omega (arith, none, code, one))
not_refused rule w (Err fault) m t n refusal a b err e runs says ok made = cc

made_calm : (rule : StatusRule) (made : Result ℕ StepFault) (w : List ℕ → Bool) (r : Result ℕ Fault) (m : Folder)
    (t : NamedStep) (n : List ℕ) (a b : Scene) (e : Option (List ℕ)) → RecoversStep made a.told b.told
    → Concludes made n r b.err e → Runs rule w r m (t ∷ []) (shown a) (shown (scene b.told b.out e)) → IsOk r
    → has_made (t ∷ []) ≡ true → LeavesCalm a.told b.told
made_calm rule (Ok status) w r m t n a b e recovers says runs ok made = recovers.calm
made_calm rule (Err (step.Refused refusal)) w r m t n a b e recovers says runs ok made =
    absurd (not_refused rule w r m t n refusal (shown a) (shown (scene b.told b.out e)) b.err e runs says ok made)
made_calm rule (Err step.Memory) w r m t n a b e recovers says runs ok made = absurd (not_ok r end.Memory says.0 ok)
made_calm rule (Err step.ReadFault) w r m t n a b e recovers says runs ok made =
    absurd (not_ok r end.ReadFault says.0 ok)
made_calm rule (Err step.WriteFault) w r m t n a b e recovers says runs ok made =
    absurd (not_ok r end.WriteFault says.0 ok)
made_calm rule (Err step.DiskFault) w r m t n a b e recovers says runs ok made =
    absurd (not_ok r end.DiskFault says.0 ok)

other_fault : (made : Result ℕ StepFault) (n : List ℕ) (r : Result ℕ Fault) (err e : Option (List ℕ))
    → Concludes made n r err e → r ≢ Err end.DiskFault → made ≢ Err step.DiskFault
other_fault made n r err e says other is = other (subst (λ (q : Result ℕ StepFault). Concludes q n r err e) is says).0

pub stepped_recovers : (x : Action) (operand : List ℕ) (made : Result ℕ StepFault) (r : Result ℕ Fault) (given : List ℕ
    → Type 0) (a b : Scene) (e : Option (List ℕ)) → (x.locks ≡ false → RecoversStep made a.told b.told)
    → Concludes made operand r b.err e
    → MakesBy x (λ folder i. step_at x folder i operand ∷ []) given r a (scene b.told b.out e)
    → RecoversBy x (λ folder i. step_at x folder i operand ∷ []) given r a.told b.told
stepped_recovers x operand made r given a b e recovers says makes never = record {
  story = (recovers never).story;
  firm = (recovers never).firm;
  calm = λ ok w folder i spares clear shows heard is.
      made_calm x.rule made w r folder (step_at x folder i operand) operand a b e (recovers never) says
      (makes w folder i spares clear shows heard) ok is;
  keeps = λ other. (recovers never).keeps (other_fault made operand r b.err e says other);
}

-- ---- things that are done in turn

-- The calls so far may begin on such a disk.
pub record StaysFirm (a b : Told) : Type 0 where
  pub story : RecoversOn a b
  pub firm : LeavesFirm a b
  pub keeps : KeepsCalm a b

pub firm_begins : (a : Told) → StaysFirm a a
firm_begins a = record { story = story_same a a refl; firm = firm_same a a refl; keeps = calm_same a a refl }

pub firm_on : (x : Action) (steps : Folder → List ℕ → List NamedStep) (given : List ℕ → Type 0) (one : ℕ) (a b c : Told)
    → StaysFirm a b → RecoversSteps x steps given (Ok one) b c → StaysFirm a c
firm_on x steps given one a b c first next = record {
  story = story_then a b c first.story first.firm next.story;
  firm = firm_then a b c first.story first.firm next.firm;
  keeps = keeps_then a b c first.story first.keeps (next.keeps (λ is. cc));
}

pub recovers_early : (x : Action) (all steps : Folder → List ℕ → List NamedStep) (given given2 : List ℕ → Type 0)
    (fault : Fault) (a b c : Told) → StaysFirm a b → RecoversSteps x steps given2 (Err fault) b c
    → RecoversSteps x all given (Err fault) a c
recovers_early x all steps given given2 fault a b c first next = record {
  story = story_then a b c first.story first.firm next.story;
  firm = firm_then a b c first.story first.firm next.firm;
  calm = λ ok. absurd (cc);
  keeps = λ other. keeps_then a b c first.story first.keeps (next.keeps other);
}

-- Where some of the steps so far is made the disk is calm.
pub record RecoversSoFar (rule : StatusRule) (w : List ℕ → Bool) (folder : Folder) (all : List NamedStep) (left : Folder
    → List NamedStep) (status : ℕ) (a b : Scene) : Type 0 where
  pub so : SoFar rule w folder all left status (shown a) (shown b)
  pub calm : has_made so.made ≡ true → LeavesCalm a.told b.told

pub recovers_begin : (rule : StatusRule) (w : List ℕ → Bool) (folder : Folder) (left : Folder → List NamedStep)
    (status : ℕ) (a : Scene) → status ≡ idle_status rule → Shows w (seen a.told) (view_in folder)
    → RecoversSoFar rule w folder (left folder) left status a a
recovers_begin rule w folder left status a idle shows =
    record { so = begins rule w folder left status (shown a) idle shows; calm = λ is. absurd (cc) }

pub recovers_on : (x : Action) (w : List ℕ → Bool) (folder : Folder) (steps : Folder → List ℕ → List NamedStep)
    (things : List (List ℕ)) (k status one : ℕ) (item thing : List ℕ) (a b c : Scene) → thing ≡ get_or things k item
    → k < length things
    → AreClear x w (in_turn steps folder things) → StaysFirm a.told b.told → KeepsCalm b.told c.told
    → RecoversSoFar x.rule w folder (in_turn steps folder things) (λ u. in_turn steps u (drop k things)) status a b
    → ((u : Folder) → AreClear x w (steps u thing) → Shows w (seen b.told) (view_in u) → Runs x.rule w (Ok one) u
    (steps u thing) (shown b) (shown c))
    → ((u : Folder) → AreClear x w (steps u thing) → Shows w (seen b.told) (view_in u) → has_made (steps u thing) ≡ true
    → LeavesCalm b.told c.told)
    → RecoversSoFar x.rule w folder (in_turn steps folder things) (λ u. in_turn steps u (drop (k + 1) things))
    (joined_status x.rule status one) a c
recovers_on x w folder steps things k status one item thing a b c is below clear stays keeps far runs calms =
    let u : Folder = folder_after folder far.so.made in
    let clear_now : AreClear x w (steps u thing) = next_all x.rule _ w folder steps things k status item thing (shown a)
    (shown b) is below far.so clear in
    record {
      so =
          goes_on x.rule w folder (in_turn steps folder things) (λ u. in_turn steps u (drop k things))
          (λ u. steps u (get_or things k item)) (λ u. in_turn steps u (drop (k + 1) things)) status one (shown a)
          (shown b) (shown c) (next_turn steps things k item below) far.so
          (subst (λ t. Runs x.rule w (Ok one) u (steps u t) (shown b) (shown c)) is (runs u clear_now far.so.ran.view));
      calm = λ made.
          ⊎_elim (λ old. calm_kept_on a.told b.told c.told stays.story (far.calm old) keeps)
          (λ new. calm_later a.told b.told c.told stays.story stays.firm (calms u clear_now far.so.ran.view
          (subst (λ t. has_made (steps u t) ≡ true) (sym is) new)))
          (made_split far.so.made (steps u (get_or things k item)) made);
    }

pub recovers_end : (x : Action) (steps : List ℕ → Folder → List ℕ → List NamedStep) (given : List ℕ → Type 0)
    (things : List (List ℕ)) (k status : ℕ) (a b : Scene) → length things ≤ k → StaysFirm a.told b.told
    → ((w : List ℕ → Bool) (folder : Folder) (i : List ℕ) → Spares w → AreClear x w (in_turn (steps i) folder things)
    → Shows w (seen a.told) (view_in folder) → given i → RecoversSoFar x.rule w folder
    (in_turn (steps i) folder things) (λ u. in_turn (steps i) u (drop k things)) status a b)
    → RecoversSteps x (λ folder i. in_turn (steps i) folder things) given (Ok status) a.told b.told
recovers_end x steps given things k status a b all stays far = record {
  story = stays.story;
  firm = stays.firm;
  calm = λ ok w folder i spares clear shows heard made. by w folder i (far w folder i spares clear shows heard) made;
  keeps = λ other. stays.keeps;
}
  where
    by : (w : List ℕ → Bool) (folder : Folder) (i : List ℕ)
        → (so_far : RecoversSoFar x.rule w folder (in_turn (steps i) folder things) (λ u. in_turn (steps i) u
        (drop k things)) status a b) → has_made (in_turn (steps i) folder things) ≡ true → LeavesCalm a.told b.told
    by w folder i so_far made =
        let is : so_far.so.made ≡ in_turn (steps i) folder things =
        sym (append-nil so_far.so.made) ∙ (ap (λ (ts : List NamedStep). so_far.so.made ++ ts)
        (sym (ap (λ (rest : List (List ℕ)). in_turn (steps i) (folder_after folder so_far.so.made) rest)
        (drop_of_length-le things all))) ∙ sym so_far.so.is) in
        so_far.calm (subst (λ (ts : List NamedStep). has_made ts ≡ true) (sym is) made)

-- ---- names that were found

names_calm : (x : Action) (names found : List (List ℕ)) (r : Result ℕ Fault) (left : Option (List ℕ)) (a b : Told)
    (w : List ℕ → Bool) (folder : Folder) (i : List ℕ) → x.takes ≡ false → names ≡ found
    → RecoversSteps x (λ m i. steps_of x i m names) (IsHeard x.takes left) r a b
    → IsOk r → Spares w → AreClear x w (names_found x.rule ∷ steps_of x i folder found)
    → Shows w (seen a) (view_in folder) → has_made (names_found x.rule ∷ steps_of x i folder found) ≡ true
    → LeavesCalm a b
names_calm x names found r left a b w folder i never is recovers ok spares clear shows made =
    recovers.calm ok w folder i spares (subst (λ ns. AreClear x w (steps_of x i folder ns)) (sym is) clear.1) shows
    (inl never) (subst (λ ns. has_made (steps_of x i folder ns) ≡ true) (sym is)
    (after_found x.rule (steps_of x i folder found) made))

pub here_recovers : (x : Action) (names : List (List ℕ)) (r : Result ℕ Fault) (left left2 : Option (List ℕ))
    (old now new : Told) → x.takes ≡ false → now ≡ old → IfSome (seen old) (λ v. (u : Folder) → HasSfilesOf v u
    → names ≡ sfiles_in u)
    → RecoversBy x (λ m i. steps_of x i m names) (IsHeard x.takes left) r now new
    → RecoversBy x (λ m i. kind_steps x i m [] Here) (IsHeard false left2) r old new
here_recovers x names r left left2 old now new never same each recovers unlocked =
    by (subst (λ (t : Told). RecoversSteps x (λ m i. steps_of x i m names) (IsHeard x.takes left) r t new) same
    (recovers unlocked))
  where
    by : RecoversSteps x (λ m i. steps_of x i m names) (IsHeard x.takes left) r old new
        → RecoversSteps x (λ m i. kind_steps x i m [] Here) (IsHeard false left2) r old new
    by made = record {
      story = made.story;
      firm = made.firm;
      calm = λ ok w folder i spares clear shows heard is.
          names_calm x names (sfiles_in folder) r left old new w folder i never
          (here_names w (seen old) folder names spares shows each) made ok spares clear shows is;
      keeps = made.keeps;
    }

pub lines_recover : (x : Action) (lines names : List (List ℕ)) (r : Result ℕ Fault) (left : Option (List ℕ))
    (a b : Told) → x.takes ≡ false → names ≡ filter x.fits lines → RecoversBy x (λ m i. steps_of x i m names)
    (IsHeard x.takes left) r a b
    → RecoversBy x (λ m i. input_steps x i m (Ok (filter x.fits lines))) (IsHeard x.takes left) r a b
lines_recover x lines names r left a b never is recovers unlocked = record {
  story = (recovers unlocked).story;
  firm = (recovers unlocked).firm;
  calm = λ ok w folder i spares clear shows heard made. names_calm x names (filter x.fits lines) r left a b w folder i
      never is (recovers unlocked) ok spares clear shows made;
  keeps = (recovers unlocked).keeps;
}

pub input_recovers : (x : Action) (lines : List (List ℕ)) (r : Result ℕ Fault) (left left2 : Option (List ℕ))
    (a b : Told) → x.takes ≡ false → IfSome left (λ bytes. GivesLines file_limit bytes (Ok lines))
    → RecoversBy x (λ m i. input_steps x i m (Ok (filter x.fits lines))) (IsHeard x.takes left2) r a b
    → RecoversBy x (λ m i. kind_steps x i m [] FromInput) (IsHeard true left) r a b
input_recovers x lines r left left2 a b never told recovers unlocked = record {
  story = (recovers unlocked).story;
  firm = (recovers unlocked).firm;
  calm = λ ok w folder i spares clear shows heard made.
      let is : names_given x i ≡ Ok (filter x.fits lines) = input_names x left i lines heard told in
      (recovers unlocked).calm ok w folder i spares (subst (λ (ns : Result (List (List ℕ)) Refusal). AreClear x w
      (input_steps x i folder ns)) is clear) shows (inl never)
      (subst (λ (ns : Result (List (List ℕ)) Refusal). has_made (input_steps x i folder ns) ≡ true) is made);
  keeps = (recovers unlocked).keeps;
}

pub long_recovers : (x : Action) (r : Result ℕ Fault) (left : Option (List ℕ)) (a : Told)
    → IfSome left (λ bytes. GivesLines file_limit bytes (Err take.TooLong))
    → RecoversBy x (λ m i. kind_steps x i m [] FromInput) (IsHeard true left) r a a
long_recovers x r left a told never =
    no_steps x (λ m i. kind_steps x i m [] FromInput) (IsHeard true left) r a a refl
    (λ ok folder i heard made. let none = refused_none (codes "-") (Err TooLong) TooLong refl in
    let is : has_made (input_steps x i folder (Err TooLong)) ≡ true = subst (λ (ns : Result (List (List ℕ)) Refusal).
    has_made (input_steps x i folder ns) ≡ true) (long_names x left i heard told) made in cc)
