-- What is read of an intent, and a group that is finished.
use Rattle.std.proofs.Common.{◌≡◌, ◌≢◌, ℕ, ◌<◌, Bool, true, List, [], ◌∷◌, length, Option, None, Some, option_map}
use Rattle.std.proofs.Common.{is_some, Result, Ok, Err, IfOk, IfSome, IsErrOf, cond, inl, inr, refl, sym, ap, subst}
use Rattle.std.proofs.Common.{◌∙◌}
use Rattle.std.proofs.lemmas.Bool.Decides.{Decides-ltb}
use Rattle.std.specs.List.{AllByRecursion}
use Rattle.std.specs.Prelude.{nat_lt}
use Rattle.sccs_base.specs.Constants.{file_limit}
use Rattle.sccs_base.specs.Cut.{cut}
use Rattle.sccs_base.specs.declared.streams.Failed.{Failed}
use Rattle.sccs_disk.specs.Calls.{Changes}
use Rattle.sccs_disk.specs.Effects.{syncing_names}
use Rattle.sccs_disk.specs.Files.{Content, Model, Remove, View, view_of}
use Rattle.sccs_disk.specs.Told.{Told, Tells, seen}
use Rattle.sccs_disk.proofs.Puts.{put_other}
use Rattle.sccs_name_files.specs.WholeFiles.{AnswersWhole}
use Rattle.sccs_name_files.specs.declared.whole_files.WholeFault.TheVariants as whole
use Rattle.sccs_intents.specs.Intents.{AreOthers, begun, entries_in, intent_file, intent_of, plan_file, well_formed}
use Rattle.sccs_intents.specs.declared.intents.IntentEntry.{IntentEntry}
use Rattle.std.specs.Str.{bytes_eq}
use Rattle.sccs_name_files.specs.Touches.{TouchesOnly}
use Rattle.sccs_intents.proofs.IntentTexts.{text_read}
use Rattle.sccs_crash_points.specs.Recovery.{without_name}
use Rattle.sccs_store.specs.Commits.{Becomes}
use Rattle.sccs_group.specs.Finishing.{Always, CompletesBy, FinishesBy, MayCall}
use Rattle.sccs_group.specs.Members.{AreMembers, HasGroup, IsPlainG, completed, entries_of}
use Rattle.sccs_group.specs.Recovering.{IsBad, IsWellFormed, ReadsBytes, ReadsMembers, bare, finished_by}
use Rattle.sccs_group.specs.Recovering.{group_finished, intent_finished}
use Rattle.sccs_group.specs.declared.members.Member.{Member}
use Rattle.sccs_group.specs.declared.recovering.GroupFault.{GroupFault}
use Rattle.sccs_group.specs.declared.recovering.GroupFault.TheVariants.{BadIntent, Memory}
use Rattle.sccs_group.specs.declared.recovering.GroupFault.TheVariants as fault
use Rattle.sccs_group.proofs.Calling.{other_story, sync_story}
use Rattle.sccs_group.proofs.Runs.{by_then, completes_by}

-- ---- what is read

pub bare_entries : (es : List IntentEntry) → entries_of (bare es) ≡ es
bare_entries [] = refl
bare_entries (e ∷ es) = ap (λ (l : List IntentEntry). e ∷ l) (bare_entries es)

pub bare_plain : (es : List IntentEntry) → AllByRecursion IsPlainG (bare es)
bare_plain [] = tt
bare_plain (e ∷ es) = (λ removes. cc, bare_plain es)

-- an intent that was read
pub read_is : (bytes : List ℕ) (es : List IntentEntry) (ms : List Member) → intent_of bytes ≡ Ok es → ms ≡ bare es
    → ms ≡ bare (well_formed (intent_of bytes))
read_is bytes es ms is same = same ∙ ap (λ (r : Result (List IntentEntry) ℕ). bare (well_formed r)) (sym is)

pub read_others : (bytes : List ℕ) (es : List IntentEntry) (ms : List Member) → intent_of bytes ≡ Ok es → ms ≡ bare es
    → AreMembers ms
read_others bytes es ms is same = subst AreMembers (sym same) (subst AreOthers (sym (bare_entries es))
    (text_read bytes es is).others)

too_long : (bytes : List ℕ) → file_limit < length bytes → intent_of bytes ≡ Err 1
unfolding intent_of
too_long bytes long = ap (λ b. cond b (Err 1) (begun (cut bytes).lines (cut bytes).tail)) (long_is bytes long)
  where
    long_is : (bytes : List ℕ) → file_limit < length bytes → nat_lt file_limit (length bytes) ≡ true
    long_is bytes long = (Decides-ltb file_limit (length bytes)).1 long

pub long_bad : (o : Option Content) → AnswersWhole o (Err whole.TooLong) → IsBad o 1
long_bad None long = absurd long
long_bad (Some c) long = too_long c.bytes long

pub missing_reads : (o : Option Content) → AnswersWhole o (Err whole.Missing) → ReadsMembers o (Ok None)
missing_reads None is = tt
missing_reads (Some c) is = absurd (cc)

pub bytes_read : (o : Option Content) (bytes : List ℕ) (ms : List Member) → AnswersWhole o (Ok bytes)
    → ReadsBytes bytes (Ok ms) → ReadsMembers o (Ok (Some ms))
bytes_read None bytes ms whole_is reads = absurd whole_is
bytes_read (Some c) bytes ms whole_is reads = reads ∙ ap (λ b. bare (well_formed (intent_of b))) whole_is.0

pub bytes_fault : (o : Option Content) (bytes : List ℕ) (f : GroupFault) → AnswersWhole o (Ok bytes)
    → ReadsBytes bytes (Err f) → ReadsMembers o (Err f)
bytes_fault None bytes (BadIntent line) whole_is reads = absurd whole_is
bytes_fault (Some c) bytes (BadIntent line) whole_is reads = subst (λ b. intent_of b ≡ Err line) whole_is.0 reads
bytes_fault o bytes fault.Failed whole_is reads = tt
bytes_fault o bytes Memory whole_is reads = tt

-- what was read has its form
pub read_form : (bytes : List ℕ) (es : List IntentEntry) → intent_of bytes ≡ Ok es → (line : ℕ)
    → intent_of bytes ≡ Err line → ⊥
read_form bytes es is line bad = cc

pub bytes_form : (o : Option Content) (bytes : List ℕ) → AnswersWhole o (Ok bytes)
    → ((line : ℕ) → intent_of bytes ≡ Err line → ⊥) → IsWellFormed o
bytes_form None bytes whole_is form line bad = bad
bytes_form (Some c) bytes whole_is form line bad = form line (ap intent_of whole_is.0 ∙ bad)

pub missing_form : (o : Option Content) → AnswersWhole o (Err whole.Missing) → IsWellFormed o
missing_form None is line bad = bad
missing_form (Some c) is line bad = absurd (cc)

pub told_as : (o : Option View) (P Q : View → Type 0) → ((v : View) → P v → Q v) → IfSome o P → IfSome o Q
told_as None P Q weaker told = tt
told_as (Some v) P Q weaker told = weaker v told

-- ---- views

found_is : (o : Option Content) (ms : List Member) (w : View) → ReadsMembers o (Ok (Some ms))
    → completed ms w ≡ finished_by o w
found_is None ms w reads = absurd reads
found_is (Some c) ms w reads = ap (λ (l : List Member). completed l w) reads

none_is : (o : Option Content) (w : View) → ReadsMembers o (Ok None) → w ≡ finished_by o w
none_is None w reads = refl
none_is (Some c) w reads = absurd reads

pub found_view : (ms : List Member) (o o2 : Option View) → IfSome o (λ (v : View). ReadsMembers (v intent_file)
    (Ok (Some ms))) → Becomes (completed ms) o o2 → Becomes intent_finished o o2
found_view ms None o2 reads is = is
found_view ms (Some v) o2 reads is = is ∙ ap (λ (w : View). Some w) (found_is (v intent_file) ms v reads)

pub none_view : (o o2 : Option View) → IfSome o (λ (v : View). ReadsMembers (v intent_file) (Ok None)) → o2 ≡ o
    → Becomes intent_finished o o2
none_view None o2 reads is = is
none_view (Some v) o2 reads is = is ∙ ap (λ (w : View). Some w) (none_is (v intent_file) v reads)

-- the answer, by what was read
answer_is : (o : Option Content) (found : Option (List Member)) → ReadsMembers o (Ok found) → is_some found ≡ is_some o
answer_is None None reads = refl
answer_is None (Some ms) reads = absurd reads
answer_is (Some c) None reads = absurd reads
answer_is (Some c) (Some ms) reads = refl

pub answer_told : (o : Option View) (found : Option (List Member)) (answer : Bool) → answer ≡ is_some found
    → IfSome o (λ (v : View). ReadsMembers (v intent_file) (Ok found))
    → IfSome o (λ (v : View). answer ≡ is_some (v intent_file))
answer_told None found answer is reads = tt
answer_told (Some v) found answer is reads = is ∙ answer_is (v intent_file) found reads

-- ---- the plan is gone

intent_there : (v : View) → without_name plan_file v intent_file ≡ v intent_file
intent_there v = put_other v plan_file intent_file None refl

pub group_view : (o o2 o3 : Option View) → Becomes (without_name plan_file) o o2 → Becomes intent_finished o2 o3
    → Becomes group_finished o o3
group_view None o2 o3 first next = next ∙ ap (option_map intent_finished) first
group_view (Some v) o2 o3 first next =
    next ∙ (ap (option_map intent_finished) first
    ∙ ap (λ (x : Option Content). Some (finished_by x (without_name plan_file v))) (intent_there v))

-- what is told of the intent then was told before
pub intent_told : (Q : Option Content → Type 0) (o o2 : Option View) → Becomes (without_name plan_file) o o2
    → IfSome o2 (λ (v : View). Q (v intent_file)) → IfSome o (λ (v : View). Q (v intent_file))
intent_told Q None o2 first told = tt
intent_told Q (Some v) o2 first told =
    subst Q (intent_there v) (subst (λ (o : Option View). IfSome o (λ (w : View). Q (w intent_file))) first told)

-- ---- the story

group_by : (o : Option Content) (ms : List Member) → ReadsMembers o (Ok (Some ms)) → (entries_in o ≡ entries_of ms)
    × AllByRecursion IsPlainG ms
group_by None ms reads = absurd reads
group_by (Some c) ms reads = (
  sym (ap entries_of reads ∙ bare_entries (entries_in (Some c))),
  subst (λ (l : List Member). AllByRecursion IsPlainG l) (sym reads) (bare_plain (entries_in (Some c))),
)

has_group : (v : View) (ms : List Member) → ReadsMembers (v intent_file) (Ok (Some ms)) → HasGroup ms v
has_group v ms reads = let x = group_by (v intent_file) ms reads in record { entries = x.0; plain = x.1 }

told_group : (ms : List Member) (t : Told) (m : Model) (past : List Model) → t ≡ Tells m past
    → IfSome (seen t) (λ (v : View). ReadsMembers (v intent_file) (Ok (Some ms))) → HasGroup ms (view_of m)
told_group ms t m past is told =
    has_group (view_of m) ms (subst (λ (x : Told). IfSome (seen x) (λ (v : View). ReadsMembers (v intent_file)
    (Ok (Some ms)))) is told)

pub found_story : (ms : List Member) (a b : Told) → IfSome (seen a) (λ (v : View). ReadsMembers (v intent_file)
    (Ok (Some ms))) → FinishesBy (HasGroup ms) a b → FinishesBy Always a b
found_story ms a b told story = λ m past is can always. story m past is can (told_group ms a m past is told)

pub found_done : (ms : List Member) (a b : Told) → IfSome (seen a) (λ (v : View). ReadsMembers (v intent_file)
    (Ok (Some ms))) → CompletesBy (HasGroup ms) a b → CompletesBy Always a b
found_done ms a b told done = λ m past is can always. done m past is can (told_group ms a m past is told)

pub sync_either : (a b : Told) (f f2 : ℕ) (r : Result (Unit {0}) Failed) → Changes syncing_names a b f f2 r
    → FinishesBy Always a b
sync_either a b f f2 (Ok x) call = sync_story Always a b (inr call.done)
sync_either a b f f2 (Err e) call = sync_story Always a b (inl call.half)

pub plan_call : (k : List ℕ) (a b : Told) → k ≡ plan_file → MayCall (Remove k) k a b
    → MayCall (Remove plan_file) plan_file a b
plan_call k a b is call = subst (λ (l : List ℕ). MayCall (Remove l) l a b) is call

pub plan_view : (k : List ℕ) (a b : Told) → k ≡ plan_file → Becomes (without_name k) (seen a) (seen b)
    → Becomes (without_name plan_file) (seen a) (seen b)
plan_view k a b is becomes = subst (λ (l : List ℕ). Becomes (without_name l) (seen a) (seen b)) is becomes

pub plan_story : (k : List ℕ) (a b : Told) → k ≡ plan_file → MayCall (Remove k) k a b → FinishesBy Always a b
plan_story k a b is call = other_story plan_file Always a b refl (plan_call k a b is call)

-- but where the disk failed an answered fault leaves all but the plan
pub plan_touches : (k : List ℕ) (a b c : Told) (r : Result Bool GroupFault) → k ≡ plan_file
    → TouchesOnly (bytes_eq k) a b → ((line : ℕ) → r ≡ Err (BadIntent line) → c ≡ b) → (IsErrOf r Memory → c ≡ b)
    → (e : GroupFault) → r ≡ Err e → e ≢ fault.Failed → TouchesOnly (bytes_eq plan_file) a c
plan_touches k a b c r is touches bad memory (BadIntent line) failed other =
    subst (λ (t : Told). TouchesOnly (bytes_eq plan_file) a t) (sym (bad line failed))
    (subst (λ (l : List ℕ). TouchesOnly (bytes_eq l) a b) is touches)
plan_touches k a b c r is touches bad memory Memory failed other =
    subst (λ (t : Told). TouchesOnly (bytes_eq plan_file) a t) (sym (memory failed))
    (subst (λ (l : List ℕ). TouchesOnly (bytes_eq l) a b) is touches)
plan_touches k a b c r is touches bad memory fault.Failed failed other = absurd (other refl)

pub plan_then : (k : List ℕ) (a b c : Told) → k ≡ plan_file → Becomes (without_name k) (seen a) (seen b)
    → MayCall (Remove k) k a b → FinishesBy Always b c → FinishesBy Always a c
plan_then k a b c is becomes call next = by_then Always Always (without_name plan_file) a b c
    (plan_view k a b is becomes) (λ v always. tt) (plan_story k a b is call) next

pub plan_done : (k : List ℕ) (a b c : Told) → k ≡ plan_file → Becomes (without_name k) (seen a) (seen b)
    → MayCall (Remove k) k a b → CompletesBy Always b c → CompletesBy Always a c
plan_done k a b c is becomes call next = completes_by Always Always (without_name plan_file) a b c
    (plan_view k a b is becomes) (λ v always. tt) (plan_story k a b is call) next

-- ---- the calls' answers

pub told_found : (k : List ℕ) (a mid : Told) (r : Result (Option (List Member)) GroupFault) → k ≡ intent_file → mid ≡ a
    → IfSome (seen a) (λ (v : View). ReadsMembers (v k) r)
    → IfSome (seen mid) (λ (v : View). ReadsMembers (v intent_file) r)
told_found k a mid r is same told =
    subst (λ (t : Told). IfSome (seen t) (λ (v : View). ReadsMembers (v intent_file) r)) (sym same)
    (subst (λ (l : List ℕ). IfSome (seen a) (λ (v : View). ReadsMembers (v l) r)) is told)

pub told_by : (o : Option View) (found found2 : Option (List Member)) → found ≡ found2
    → IfSome o (λ (v : View). ReadsMembers (v intent_file) (Ok found))
    → IfSome o (λ (v : View). ReadsMembers (v intent_file) (Ok found2))
told_by o found found2 is told =
    subst (λ (x : Option (List Member)). IfSome o (λ (v : View). ReadsMembers (v intent_file) (Ok x))) is told

pub synced_view : (o : Option View) → option_map (λ (v : View). v) o ≡ o
synced_view None = refl
synced_view (Some v) = refl

fault_is : (r : Result Bool GroupFault) (f h : GroupFault) → r ≡ Err f → r ≡ Err h → f ≡ h
fault_is r f h a b = cc

pub bad_told : (k : List ℕ) (a : Told) (r : Result Bool GroupFault) (f : GroupFault) (line : ℕ) → k ≡ intent_file
    → r ≡ Err f → r ≡ Err (BadIntent line) → IfSome (seen a) (λ (v : View). ReadsMembers (v k) (Err f))
    → IfSome (seen a) (λ (v : View). IsBad (v intent_file) line)
bad_told k a r f line is first next told =
    told_found k a a (Err (BadIntent line)) is refl
    (subst (λ (h : GroupFault). IfSome (seen a) (λ (v : View). ReadsMembers (v k) (Err h)))
    (fault_is r f (BadIntent line) first next) told)

pub form_told : (r : Result Bool GroupFault) (o o2 : Option View) → Becomes (without_name plan_file) o o2
    → IfOk r (λ found. IfSome o2 (λ (v : View). IsWellFormed (v intent_file)))
    → IfOk r (λ found. IfSome o (λ (v : View). IsWellFormed (v intent_file)))
form_told (Ok found) o o2 becomes told = intent_told IsWellFormed o o2 becomes told
form_told (Err e) o o2 becomes told = tt

pub ok_told : (r : Result Bool GroupFault) (o o2 : Option View) → Becomes (without_name plan_file) o o2
    → IfOk r (λ found. IfSome o2 (λ (v : View). found ≡ is_some (v intent_file)))
    → IfOk r (λ found. IfSome o (λ (v : View). found ≡ is_some (v intent_file)))
ok_told (Ok found) o o2 becomes told = intent_told (λ (x : Option Content). found ≡ is_some x) o o2 becomes told
ok_told (Err e) o o2 becomes told = tt
