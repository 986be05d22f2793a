-- What the steps of an operand make of a run, by what it is.
use Rattle.std.proofs.Common.{◌≡◌, ℕ, zero, suc, ◌+◌, ◌<◌, ◌≤◌, nat_lt, Bool, true, false, cond, List, [], ◌∷◌, get_or}
use Rattle.std.proofs.Common.{length, Option, None, Some, IfSome, Result, Ok, Err, codes, ◌⊎◌, inl, inr, refl, sym, ap}
use Rattle.std.proofs.Common.{subst, ◌∙◌, arith}
use Rattle.std.proofs.lemmas.Bool.Decides.{nat_tests}
use Rattle.std.proofs.lemmas.List.{append-nil}
use Rattle.std.specs.List.{AllByRecursion, filter, list_any}
use Rattle.sccs_base.specs.Constants.{file_limit}
use Rattle.sccs_base.specs.Cut.{text_of}
use Rattle.sccs_base.specs.Name.{sfile_name_decides}
use Rattle.sccs_base.proofs.Gifts.{gives_none, some_none}
use Rattle.sccs_base.specs.declared.streams.TakeFault.TheVariants as take
use Rattle.sccs_disk.specs.Files.{Folder, Model, View, view_in, view_of}
use Rattle.sccs_disk.specs.Told.{Told, Tells, seen}
use Rattle.sccs_name_files.specs.StepFiles.{Alike, Shows}
use Rattle.sccs_crash_points.proofs.CalmDisks.{calm_firm}
use Rattle.sccs_crash_points.proofs.Recovering.{recovers_then}
use Rattle.sccs_operands.specs.FolderNames.{HasSfilesOf, sfiles_in}
use Rattle.sccs_operands.specs.InputNames.{GivesLines}
use Rattle.sccs_sid.specs.declared.refusals.Refusal.{Refusal}
use Rattle.sccs_sid.specs.declared.refusals.Refusal.TheVariants.{TooLong}
use Rattle.sccs_steps.specs.Actions.{Action, AreClear, IsHeard, hears, input_steps, kind_hears, kind_of, kind_steps}
use Rattle.sccs_steps.specs.Actions.{names_found, names_given, steps_of}
use Rattle.sccs_steps.specs.Calls.{Scene, World, scene, shown}
use Rattle.sccs_steps.specs.ListStops.{AreSafe, KeepsSafe, ListCrashPoints, MayBegin, RunCrashPoints, Spares, StaySafe}
use Rattle.sccs_steps.specs.Messages.{SaysRefusal}
use Rattle.sccs_steps.specs.Running.{MakesBy, StopsBy}
use Rattle.sccs_steps.specs.Speaking.{KindBegins, KindMakes, MayStandFor, SpeakNames, SpeaksKind, SpeaksOne}
use Rattle.sccs_steps.specs.StepLists.{NamedStep, Ran, Runs, Stopped, named_step, next_text, status_of}
use Rattle.sccs_steps.specs.declared.faults.Fault.{Fault}
use Rattle.sccs_steps.specs.declared.faults.Fault.TheVariants.{Memory, ReadFault, WriteFault, DiskFault}
use Rattle.sccs_steps.specs.declared.operands.OperandKind.{OperandKind}
use Rattle.sccs_steps.specs.declared.operands.OperandKind.TheVariants.{Named, Here, FromInput}
use Rattle.sccs_steps.specs.Statuses.{idle_status}
use Rattle.sccs_steps.specs.declared.statuses.StatusRule.{StatusRule}
use Rattle.sccs_steps.proofs.Cleared.{cleared_same}
use Rattle.sccs_steps.proofs.FirstMoved.{early_none, shows_none}
use Rattle.sccs_steps.proofs.JoinedSteps.{ran_then, stops_then}
use Rattle.sccs_steps.proofs.Fronts.{view_past}
use Rattle.sccs_steps.proofs.CrashPointLists.{crash_points_never, crash_points_then, run_crash_points}
use Rattle.sccs_steps.proofs.NameLaws.{refusal_runs, speak_refusal, speak_whole}
use Rattle.sccs_steps.proofs.NameStops.{refusal_stops}
use Rattle.sccs_steps.proofs.SafeImages.{images_now, images_then}
use Rattle.sccs_steps.proofs.Safety.{keeps_same, stay_same}
use Rattle.sccs_steps.proofs.StatusLaws.{idle_first}
use Rattle.sccs_base.proofs.Bools.{right_false, left_false}

-- ---- steps that weren't begun

abbrev unbegun : (w : List ℕ → Bool) (m : Folder) (ts : List NamedStep) (a : World) → Shows w a.view (view_in m)
    → Stopped w m ts a a
unbegun w m ts a shows = record {
  made = [];
  rest = ts;
  is = refl;
  view = early_none w a.view (view_in m) ts shows;
  cleared = cleared_same w a.view a.view refl;
  out = some_none a.out (next_text ts);
  err = some_none a.err [];
}

pub never_runs : (rule : StatusRule) (w : List ℕ → Bool) (fault : Fault) (m : Folder) (ts : List NamedStep) (a : World)
    → 0 < length ts → Shows w a.view (view_in m) → Runs rule w (Err fault) m ts a a
never_runs rule w Memory m ts a some shows = (unbegun w m ts a shows, some)
never_runs rule w ReadFault m ts a some shows = (unbegun w m ts a shows, some)
never_runs rule w WriteFault m ts a some shows = unbegun w m ts a shows
never_runs rule w DiskFault m [] a some shows = absurd (omega (arith, some))
never_runs rule w DiskFault m (t ∷ ts) a some shows = record {
  made = [];
  rest = t ∷ ts;
  is = refl;
  view = shows_none w a.view (view_in m) t ts shows;
  out = some_none a.out (next_text (t ∷ ts));
  err = some_none a.err [];
}

pub never_begun : (x : Action) (steps : Folder → List ℕ → List NamedStep) (given : List ℕ → Type 0) (fault : Fault)
    (old new : Told) (out err : Option (List ℕ)) → ((m : Folder) (i : List ℕ) → 0 < length (steps m i)) → new ≡ old
    → MakesBy x steps given (Err fault) (scene old out err) (scene new out err)
never_begun x steps given fault old new out err some same = λ w m i spares clear shows heard.
    subst (λ (t : Told). Runs x.rule w (Err fault) m (steps m i) (shown (scene old out err)) (shown (scene t out err)))
    (sym same) (never_runs x.rule w fault m (steps m i) (shown (scene old out err)) (some m i) shows)

pub never_stops : (x : Action) (steps : Folder → List ℕ → List NamedStep) (given : List ℕ → Type 0) (fault : Fault)
    (old new : Told) (out err : Option (List ℕ)) → new ≡ old → StopsBy x steps given (Err fault) (scene old out err)
    (scene new out err)
never_stops x steps given fault old new out err same = λ w folder i m past spares clear shows heard is calm safe.
    subst (λ (t : Told). RunCrashPoints x w (Err fault) folder (steps folder i) (scene old out err) (scene t out err) m
    past) (sym same)
    (run_crash_points x w (Err fault) folder (steps folder i) (scene old out err) (scene old out err) m past
    (crash_points_never w fault folder (steps folder i) (scene old out err) m past is calm shows)
    (λ other. stay_same x (view_in folder)) (λ other. keeps_same (view_in folder)) (images_now m))

-- ---- names that were found, and their steps

found_ran : (rule : StatusRule) (w : List ℕ → Bool) (m : Folder) (a : World) → Shows w a.view (view_in m)
    → Ran w m (names_found rule ∷ []) a a
found_ran rule w m a shows = record {
  view = shows;
  cleared = cleared_same w a.view a.view refl;
  out = gives_none a.out;
  err = gives_none a.err;
}

pub found_runs : (rule : StatusRule) (w : List ℕ → Bool) (r : Result ℕ Fault) (m : Folder) (ts : List NamedStep)
    (a b : World) → Shows w a.view (view_in m) → Runs rule w r m ts a b → Runs rule w r m (names_found rule ∷ ts) a b
found_runs rule w (Ok status) m ts a b shows runs = (
  runs.0 ∙ sym (idle_first rule (status_of rule ts)),
  ran_then w m
      (names_found rule ∷ []) ts a a b (found_ran rule w m a shows) runs.1,
)
found_runs rule w (Err fault) m ts a b shows runs = stops_then w fault m (names_found rule ∷ []) ts a a b
    (found_ran rule w m a shows) runs

abbrev moments_found : (rule : StatusRule) (w : List ℕ → Bool) (folder : Folder) (a : Scene) (m : Model)
    (past : List Model) → a.told ≡ Tells m past → MayBegin folder m → Shows w (seen a.told) (view_in folder)
    → ListCrashPoints w (Ok (idle_status rule)) folder (names_found rule ∷ []) a a m past
moments_found rule w folder a m past is may shows = record {
  number = 1;
  most = omega arith;
  went = record {
    added = [];
    is = is;
    numbers = (
      omega arith,
      λ u image. (
        1,
        inl refl,
        omega arith,
        recovers_then (view_in folder)
            (view_of m) u may.recovers (may.calm u image).recovers,
      ),
    );
    guarded = tt;
  };
  out = some_none a.out [];
  err = some_none a.err [];
  all = λ ok. refl;
  calm = λ fault. may.calm;
  committed = λ fault. shows;
  recovers = λ fault. may.recovers;
  firm = calm_firm m may.calm;
}

pub found_crash_points : (x : Action) (w : List ℕ → Bool) (r : Result ℕ Fault) (folder : Folder) (ts : List NamedStep)
    (a b : Scene) (m : Model) (past : List Model) → a.told ≡ Tells m past → MayBegin folder m
    → Shows w (seen a.told) (view_in folder) → RunCrashPoints x w r folder ts a b m past
    → RunCrashPoints x w r folder (names_found x.rule ∷ ts) a b m past
found_crash_points x w r folder ts a b m past is may shows next =
    run_crash_points x w r folder (names_found x.rule ∷ ts) a b m past
    (crash_points_then w (idle_status x.rule) r folder (names_found x.rule ∷ []) ts a a b m past
    (found_ran x.rule w folder (shown a) shows) (moments_found x.rule w folder a m past is may shows) next.list)
    (λ other. subst (λ (v : View). StaySafe x (view_in folder) v)
    (sym (view_past folder (names_found x.rule ∷ []) ts next.list.number)) (next.safe other))
    (λ other. subst (λ (v : View). KeepsSafe (view_in folder) v)
    (sym (view_past folder (names_found x.rule ∷ []) ts next.list.number)) (next.keeps other))
    (images_then next.list.went.added [] m (images_now m) next.images)

-- what is said of the names is said of the operand
pub names_speak : (x : Action) (kind : OperandKind) (operand : List ℕ) (names : List (List ℕ)) (r : Result ℕ Fault)
    (err err2 : Option (List ℕ)) → MayStandFor x kind operand names → SpeakNames x names r err err2
    → SpeaksKind x kind operand r err err2
names_speak x kind operand names (Ok status) err err2 may says = (says.0, inl (names, may, says.1), says.2)
names_speak x kind operand names (Err fault) err err2 may says = (says.0, inr (inl (names, may, says.1)), says.2)

pub none_spoken : (x : Action) (kind : OperandKind) (operand : List ℕ) (fault : Fault) (err : Option (List ℕ))
    → SpeaksKind x kind operand (Err fault) err err
none_spoken x kind operand fault err = ([], inl refl, some_none err [])

pub name_speaks : (x : Action) (operand : List ℕ) (r : Result ℕ Fault) (err err2 : Option (List ℕ))
    → SpeaksOne x operand r err err2 → SpeaksKind x Named operand r err err2
name_speaks x operand (Ok status) err err2 says =
    (says.0, inl (operand ∷ [], refl, (says.0, [], sym (append-nil says.0), says.1, refl)), says.2)
name_speaks x operand (Err fault) err err2 says =
    (says.0, inr (inl (operand ∷ [], refl, inr ([], operand, [], [], says.0, refl, refl, refl, says.1))), says.2)

-- the steps of names that are these
found_by : (x : Action) (names found : List (List ℕ)) (r : Result ℕ Fault) (left : Option (List ℕ)) (a b : Scene)
    (w : List ℕ → Bool) (m : Folder) (i : List ℕ) → x.takes ≡ false → names ≡ found
    → MakesBy x (λ m i. steps_of x i m names) (IsHeard x.takes left) r a b
    → Spares w → AreClear x w (names_found x.rule ∷ steps_of x i m found) → Shows w (seen a.told) (view_in m)
    → Runs x.rule w r m (names_found x.rule ∷ steps_of x i m found) (shown a) (shown b)
found_by x names found r left a b w m i never is makes spares clear shows =
    found_runs x.rule w r m (steps_of x i m found) (shown a) (shown b) shows
    (subst (λ ns. Runs x.rule w r m (steps_of x i m ns) (shown a) (shown b)) is
    (makes w m i spares (subst (λ ns. AreClear x w (steps_of x i m ns)) (sym is) clear.1) shows (inl never)))

stops_by : (x : Action) (names found : List (List ℕ)) (r : Result ℕ Fault) (left : Option (List ℕ)) (a b : Scene)
    (w : List ℕ → Bool) (folder : Folder) (i : List ℕ) (m : Model) (past : List Model) → x.takes ≡ false → names ≡ found
    → StopsBy x (λ m i. steps_of x i m names) (IsHeard x.takes left) r a b
    → Spares w → AreClear x w (names_found x.rule ∷ steps_of x i folder found) → Shows w (seen a.told) (view_in folder)
    → a.told ≡ Tells m past → MayBegin folder m → AreSafe x (names_found x.rule ∷ steps_of x i folder found)
    (view_in folder)
    → RunCrashPoints x w r folder (names_found x.rule ∷ steps_of x i folder found) a b m past
stops_by x names found r left a b w folder i m past never is stops spares clear shows told calm safe =
    found_crash_points x w r folder (steps_of x i folder found) a b m past told calm shows
    (subst (λ ns. RunCrashPoints x w r folder (steps_of x i folder ns) a b m past) is
    (stops w folder i m past spares (subst (λ ns. AreClear x w (steps_of x i folder ns)) (sym is) clear.1) shows
    (inl never) told calm (subst (λ ns. AreSafe x (steps_of x i folder ns) (view_in folder)) (sym is) safe.1)))

-- ---- the files that are there

alike_sfiles : (w : List ℕ → Bool) (v : View) (m : Folder) → Spares w → Alike w v (view_in m) → HasSfilesOf v m
alike_sfiles w v m spares alike = λ n is. sym (alike n (spares.s n ((sfile_name_decides n).0 is).1))

pub here_names : (w : List ℕ → Bool) (told : Option View) (m : Folder) (names : List (List ℕ)) → Spares w
    → Shows w told (view_in m) → IfSome told (λ v. (u : Folder) → HasSfilesOf v u → names ≡ sfiles_in u)
    → names ≡ sfiles_in m
here_names w None m names spares shows each = absurd shows
here_names w (Some v) m names spares shows each = each m (alike_sfiles w v m spares shows)

pub here_makes : (x : Action) (names : List (List ℕ)) (r : Result ℕ Fault) (left left2 : Option (List ℕ))
    (old now : Told) (out err : Option (List ℕ)) (b : Scene) → x.takes ≡ false → now ≡ old
    → IfSome (seen old) (λ v. (u : Folder) → HasSfilesOf v u → names ≡ sfiles_in u)
    → MakesBy x (λ m i. steps_of x i m names) (IsHeard x.takes left) r (scene now out err) b
    → MakesBy x (λ m i. kind_steps x i m [] Here) (IsHeard false left2) r (scene old out err) b
here_makes x names r left left2 old now out err b never same each makes = λ w m i spares clear shows heard.
    found_by x names (sfiles_in m) r left (scene old out err) b w m i never
    (here_names w (seen old) m names spares shows each)
    (subst (λ (t : Told). MakesBy x (λ m i. steps_of x i m names) (IsHeard x.takes left) r (scene t out err) b) same
    makes) spares clear shows

pub here_stops : (x : Action) (names : List (List ℕ)) (r : Result ℕ Fault) (left left2 : Option (List ℕ))
    (old now : Told) (out err : Option (List ℕ)) (b : Scene) → x.takes ≡ false → now ≡ old
    → IfSome (seen old) (λ v. (u : Folder) → HasSfilesOf v u → names ≡ sfiles_in u)
    → StopsBy x (λ m i. steps_of x i m names) (IsHeard x.takes left) r (scene now out err) b
    → StopsBy x (λ m i. kind_steps x i m [] Here) (IsHeard false left2) r (scene old out err) b
here_stops x names r left left2 old now out err b never same each stops =
    λ w folder i m past spares clear shows heard is calm safe.
    stops_by x names (sfiles_in folder) r left (scene old out err) b w folder i m past never
    (here_names w (seen old) folder names spares shows each)
    (subst (λ (t : Told). StopsBy x (λ m i. steps_of x i m names) (IsHeard x.takes left) r (scene t out err) b) same
    stops) spares clear shows is calm safe

-- ---- the files that an input names

pub lines_make : (x : Action) (lines names : List (List ℕ)) (r : Result ℕ Fault) (left : Option (List ℕ)) (a b : Scene)
    → x.takes ≡ false → names ≡ filter x.fits lines → MakesBy x (λ m i. steps_of x i m names) (IsHeard x.takes left) r a
    b
    → MakesBy x (λ m i. input_steps x i m (Ok (filter x.fits lines))) (IsHeard x.takes left) r a b
lines_make x lines names r left a b never is makes = λ w m i spares clear shows heard. found_by x names
    (filter x.fits lines) r left a b w m i never is makes spares clear shows

pub lines_stop : (x : Action) (lines names : List (List ℕ)) (r : Result ℕ Fault) (left : Option (List ℕ)) (a b : Scene)
    → x.takes ≡ false → names ≡ filter x.fits lines → StopsBy x (λ m i. steps_of x i m names) (IsHeard x.takes left) r a
    b
    → StopsBy x (λ m i. input_steps x i m (Ok (filter x.fits lines))) (IsHeard x.takes left) r a b
lines_stop x lines names r left a b never is stops = λ w folder i m past spares clear shows heard told calm safe.
    stops_by x names (filter x.fits lines) r left a b w folder i m past never is stops spares clear shows told calm safe

all_taken : (p : List ℕ → Bool) (lines : List (List ℕ)) → AllByRecursion (λ n. p n ≡ true) (filter p lines)
all_taken p [] = tt
all_taken p (line ∷ lines) = by (p line) refl (all_taken p lines)
  where
    by : (b : Bool) → p line ≡ b → AllByRecursion (λ n. p n ≡ true) (filter p lines) → AllByRecursion (λ n. p n ≡ true)
        (cond b (line ∷ filter p lines) (filter p lines))
    by true is rest = (is, rest)
    by false is rest = rest

pub lines_speak : (x : Action) (lines names : List (List ℕ)) (r : Result ℕ Fault) (err err2 : Option (List ℕ))
    → names ≡ filter x.fits lines → SpeakNames x names r err err2 → SpeaksKind x FromInput [] r err err2
lines_speak x lines names r err err2 is says =
    names_speak x FromInput [] names r err err2 (subst (λ ns. AllByRecursion (λ n. x.fits n ≡ true) ns) (sym is)
    (all_taken x.fits lines)) says

-- the lines of the input
heard_input : (left : Option (List ℕ)) (i : List ℕ) → IsHeard true left i → left ≡ Some i
heard_input left i (inl never) = cc
heard_input left i (inr is) = is

not_above : (n limit : ℕ) → n ≤ limit → nat_lt limit n ≡ false
not_above n limit low = grind (arith, nat_tests)

above : (n limit : ℕ) → limit < n → nat_lt limit n ≡ true
above n limit high = grind (arith, nat_tests)

names_are : (x : Action) (i : List ℕ) (lines : List (List ℕ)) → length i ≤ file_limit → lines ≡ text_of i
    → names_given x i ≡ Ok (filter x.fits lines)
unfolding names_given
names_are x i lines short is = rw (not_above (length i) file_limit short)
    (ap (λ (ls : List (List ℕ)). Ok (filter x.fits ls)) (sym is))

names_none : (x : Action) (i : List ℕ) → file_limit < length i → names_given x i ≡ Err TooLong
unfolding names_given
names_none x i long = rw (above (length i) file_limit long) refl

pub input_names : (x : Action) (left : Option (List ℕ)) (i : List ℕ) (lines : List (List ℕ)) → IsHeard true left i
    → IfSome left (λ bytes. GivesLines file_limit bytes (Ok lines)) → names_given x i ≡ Ok (filter x.fits lines)
input_names x left i lines heard told =
    let gives : GivesLines file_limit i (Ok lines) =
    subst (λ (o : Option (List ℕ)). IfSome o (λ bytes. GivesLines file_limit bytes (Ok lines)))
    (heard_input left i heard) told in
    names_are x i lines gives.0 gives.1

pub input_makes : (x : Action) (lines : List (List ℕ)) (r : Result ℕ Fault) (left left2 : Option (List ℕ)) (a b : Scene)
    → x.takes ≡ false → IfSome left (λ bytes. GivesLines file_limit bytes (Ok lines))
    → MakesBy x (λ m i. input_steps x i m (Ok (filter x.fits lines))) (IsHeard x.takes left2) r a b
    → MakesBy x (λ m i. kind_steps x i m [] FromInput) (IsHeard true left) r a b
input_makes x lines r left left2 a b never told makes = λ w m i spares clear shows heard.
    let is : names_given x i ≡ Ok (filter x.fits lines) = input_names x left i lines heard told in
    subst (λ (found : Result (List (List ℕ)) Refusal). Runs x.rule w r m (input_steps x i m found) (shown a) (shown b))
    (sym is)
    (makes w m i spares (subst (λ (found : Result (List (List ℕ)) Refusal). AreClear x w (input_steps x i m found)) is
    clear) shows (inl never))

pub input_stops : (x : Action) (lines : List (List ℕ)) (r : Result ℕ Fault) (left left2 : Option (List ℕ)) (a b : Scene)
    → x.takes ≡ false → IfSome left (λ bytes. GivesLines file_limit bytes (Ok lines))
    → StopsBy x (λ m i. input_steps x i m (Ok (filter x.fits lines))) (IsHeard x.takes left2) r a b
    → StopsBy x (λ m i. kind_steps x i m [] FromInput) (IsHeard true left) r a b
input_stops x lines r left left2 a b never told stops = λ w folder i m past spares clear shows heard is calm safe.
    let found : names_given x i ≡ Ok (filter x.fits lines) = input_names x left i lines heard told in
    subst (λ (ns : Result (List (List ℕ)) Refusal). RunCrashPoints x w r folder (input_steps x i folder ns) a b m past)
    (sym found)
    (stops w folder i m past spares (subst (λ (ns : Result (List (List ℕ)) Refusal). AreClear x w
    (input_steps x i folder ns)) found clear) shows (inl never) is calm
    (subst (λ (ns : Result (List (List ℕ)) Refusal). AreSafe x (input_steps x i folder ns) (view_in folder)) found
    safe))

-- an input that is too long
pub long_names : (x : Action) (left : Option (List ℕ)) (i : List ℕ) → IsHeard true left i
    → IfSome left (λ bytes. GivesLines file_limit bytes (Err take.TooLong)) → names_given x i ≡ Err TooLong
long_names x left i heard told =
    names_none x i (subst (λ (o : Option (List ℕ)). IfSome o (λ bytes. GivesLines file_limit bytes (Err take.TooLong)))
    (heard_input left i heard) told)

pub long_makes : (x : Action) (r : Result ℕ Fault) (left : Option (List ℕ)) (a : Scene) (err : Option (List ℕ))
    → IfSome left (λ bytes. GivesLines file_limit bytes (Err take.TooLong))
    → SaysRefusal (codes "-") TooLong r a.err err
    → MakesBy x (λ m i. kind_steps x i m [] FromInput) (IsHeard true left) r a (scene a.told a.out err)
long_makes x r left a err told says = λ w m i spares clear shows heard.
    subst (λ (found : Result (List (List ℕ)) Refusal). Runs x.rule w r m (input_steps x i m found) (shown a)
    (shown (scene a.told a.out err))) (sym (long_names x left i heard told))
    (refusal_runs x.rule w m (codes "-") TooLong r (seen a.told) a.out a.err err shows says)

pub long_stops : (x : Action) (r : Result ℕ Fault) (left : Option (List ℕ)) (a : Scene) (err : Option (List ℕ))
    → IfSome left (λ bytes. GivesLines file_limit bytes (Err take.TooLong))
    → SaysRefusal (codes "-") TooLong r a.err err
    → StopsBy x (λ m i. kind_steps x i m [] FromInput) (IsHeard true left) r a (scene a.told a.out err)
long_stops x r left a err told says = λ w folder i m past spares clear shows heard is calm safe.
    subst (λ (found : Result (List (List ℕ)) Refusal). RunCrashPoints x w r folder (input_steps x i folder found) a
    (scene a.told a.out err) m past) (sym (long_names x left i heard told))
    (refusal_stops x w r folder (codes "-") TooLong a err m past is calm shows says)

pub long_speaks : (x : Action) (r : Result ℕ Fault) (err err2 : Option (List ℕ))
    → SaysRefusal (codes "-") TooLong r err err2 → SpeaksKind x FromInput [] r err err2
long_speaks x r err err2 says =
    speak_whole x.rule (KindMakes x FromInput []) (KindBegins x FromInput []) (named_step (codes "-") (Err TooLong)
    ∷ []) r err err2 (inr refl) (inr (inr refl)) (speak_refusal x.rule (codes "-") TooLong r err err2 says)

-- ---- what is begun at all

pub some_here : (x : Action) (m : Folder) (i : List ℕ) → 0 < length (kind_steps x i m [] Here)
some_here x m i = omega arith

pub some_given : (x : Action) (m : Folder) (i : List ℕ) → 0 < length (kind_steps x i m [] FromInput)
some_given x m i = by (names_given x i)
  where
    by : (found : Result (List (List ℕ)) Refusal) → 0 < length (input_steps x i m found)
    by (Ok names) = omega arith
    by (Err refusal) = omega arith

pub some_lines : (x : Action) (lines : List (List ℕ)) (m : Folder) (i : List ℕ)
    → 0 < length (input_steps x i m (Ok (filter x.fits lines)))
some_lines x lines m i = omega arith

-- ---- kinds

pub never_here : (takes : Bool) (operand : List ℕ) → kind_of takes operand ≡ Here → takes ≡ false
unfolding kind_of
never_here true operand is = absurd (cc)
never_here false operand is = refl

pub never_given : (takes : Bool) (operand : List ℕ) → kind_of takes operand ≡ FromInput → takes ≡ false
unfolding kind_of
never_given true operand is = absurd (cc)
never_given false operand is = refl

none_at : (p : List ℕ → Bool) (operands : List (List ℕ)) (k : ℕ) (item : List ℕ) → k < length operands
    → list_any p operands ≡ false → p (get_or operands k item) ≡ false
none_at p [] k item below none = absurd (omega (arith, below))
none_at p (n ∷ operands) zero item below none = left_false (p n) (list_any p operands) none
none_at p (n ∷ operands) (suc k) item below none = none_at p operands k item (omega (arith, below))
    (right_false (p n) (list_any p operands) none)

-- of operands none of which takes the input one doesn't
pub deaf_at : (x : Action) (operands : List (List ℕ)) (k : ℕ) (item operand : List ℕ) → operand ≡ get_or operands k item
    → k < length operands → hears x operands ≡ false → kind_hears x.takes (kind_of x.takes operand) ≡ false
deaf_at x operands k item operand is below none =
    subst (λ n. kind_hears x.takes (kind_of x.takes n) ≡ false) (sym is)
    (none_at (λ n. kind_hears x.takes (kind_of x.takes n)) operands k item below none)

pub heard_at : (x : Action) (operands : List (List ℕ)) (k : ℕ) (item operand : List ℕ) (left left2 : Option (List ℕ))
    (i : List ℕ) → operand ≡ get_or operands k item → k < length operands → IsHeard (hears x operands) left i
    → left2 ≡ left
    → IsHeard (kind_hears x.takes (kind_of x.takes operand)) left2 i
heard_at x operands k item operand left left2 i is below (inl none) same =
    inl (deaf_at x operands k item operand is below none)
heard_at x operands k item operand left left2 i is below (inr given) same = inr (same ∙ given)

-- while an operand is still to come none has taken the input
pub still_left : (x : Action) (operands : List (List ℕ)) (k : ℕ) (left left2 left3 : Option (List ℕ))
    → (hears x operands ≡ false) ⊎ (length operands ≤ 1) → k + 1 < length operands → left2 ≡ left
    → (hears x operands ≡ false → left3 ≡ left2) → left3 ≡ left
still_left x operands k left left2 left3 (inl never) below same next = next never ∙ same
still_left x operands k left left2 left3 (inr one) below same next = absurd (omega (arith, below, one))
