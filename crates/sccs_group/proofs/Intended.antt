-- Which files finishing a group changes, and how far it came: the members are those of the intent.
use Rattle.std.proofs.Common.{◌≡◌, ℕ, List, Option, None, Some, Result, Ok, Err, IfSome, inr, refl, sym, subst}
use Rattle.std.specs.List.{AllByRecursion}
use Rattle.sccs_base.specs.declared.streams.Failed.{Failed}
use Rattle.sccs_disk.specs.Calls.{Changes}
use Rattle.sccs_disk.specs.Effects.{syncing_names}
use Rattle.sccs_disk.specs.Files.{Content, Remove, View}
use Rattle.sccs_disk.specs.Told.{Told, seen}
use Rattle.sccs_intents.specs.Intents.{AreOthers, entries_in, intent_file, intent_of, plan_file, well_formed}
use Rattle.sccs_intents.specs.declared.intents.IntentEntry.{IntentEntry}
use Rattle.sccs_intents.proofs.IntentTexts.{text_read}
use Rattle.sccs_crash_points.specs.Recovery.{without_name}
use Rattle.sccs_crash_points.specs.Unlocked.{KeepsOthers}
use Rattle.sccs_crash_points.proofs.Unlocked.{others_same, others_then}
use Rattle.sccs_store.specs.Commits.{Becomes, MayBecome}
use Rattle.sccs_group.specs.Finishing.{MayCall}
use Rattle.sccs_group.specs.Halfway.{IsHalfway, intended, is_left_of_group, is_own_of_group}
use Rattle.sccs_group.specs.Members.{AreMembers, IsPlainG}
use Rattle.sccs_group.specs.Recovering.{ReadsMembers, bare}
use Rattle.sccs_group.specs.declared.members.Member.{Member}
use Rattle.sccs_group.proofs.Alike.{halfway_then, none_halfway}
use Rattle.sccs_group.proofs.Found.{bare_entries, bare_plain, intent_told, told_as, plan_call}
use Rattle.sccs_group.proofs.GroupFiles.{left_plan, no_plan, remove_others, sync_others}
use Rattle.sccs_group.proofs.Parts.{may_moves, still_moves, synced_seen}

-- ---- the members of an intent

-- whatever the view is
pub told_all : (o : Option View) (P : View → Type 0) → ((v : View) → P v) → IfSome o P
told_all None P all = tt
told_all (Some v) P all = all v

reads_intended : (o : Option Content) (ms : List Member) → ReadsMembers o (Ok (Some ms)) → ms ≡ bare (entries_in o)
reads_intended None ms reads = absurd reads
reads_intended (Some c) ms reads = reads

-- what is so of the members that were read
pub of_intended : (o : Option View) (ms : List Member) (P : List Member → Type 0)
    → IfSome o (λ (v : View). ReadsMembers (v intent_file) (Ok (Some ms))) → P ms
    → IfSome o (λ (v : View). P (intended v))
of_intended o ms P reads holds = told_as o (λ (v : View). ReadsMembers (v intent_file) (Ok (Some ms)))
    (λ (v : View). P (intended v)) (λ v is. subst P (reads_intended (v intent_file) ms is) holds) reads

-- they are members, and their g-files stay
entries_others : (bytes : List ℕ) (r : Result (List IntentEntry) ℕ) → intent_of bytes ≡ r → AreOthers (well_formed r)
entries_others bytes (Ok es) is = (text_read bytes es is).others
entries_others bytes (Err line) is = tt

intent_others : (o : Option Content) → AreOthers (entries_in o)
intent_others None = tt
intent_others (Some c) = entries_others c.bytes (intent_of c.bytes) refl

pub intended_members : (v : View) → AreMembers (intended v) × AllByRecursion IsPlainG (intended v)
intended_members v = (
  subst AreOthers (sym (bare_entries (entries_in (v intent_file)))) (intent_others (v intent_file)),
  bare_plain (entries_in (v intent_file)),
)

-- ---- nothing is changed

pub others_still : (a b : Told) → b ≡ a → IfSome (seen a) (λ (v : View). KeepsOthers (is_own_of_group (intended v)) a b)
others_still a b same = told_all (seen a) (λ (v : View). KeepsOthers (is_own_of_group (intended v)) a b)
    (λ v. others_same (is_own_of_group (intended v)) a b same)

pub halfway_still : (a b : Told) → seen b ≡ seen a → IfSome (seen a) (λ (v : View). IsHalfway (intended v) (seen a)
    (seen b))
halfway_still a b same =
    told_all (seen a) (λ (v : View). IsHalfway (intended v) (seen a) (seen b)) (λ v. none_halfway (intended v) (seen a)
    (seen b) (still_moves (is_left_of_group (intended v)) (seen a) (seen b) same))

pub others_synced : {T : Type 0} (a b : Told) (f f2 : ℕ) (r : Result T Failed) → Changes syncing_names a b f f2 r
    → IfSome (seen a) (λ (v : View). KeepsOthers (is_own_of_group (intended v)) a b)
others_synced a b f f2 r call = told_all (seen a) (λ (v : View). KeepsOthers (is_own_of_group (intended v)) a b)
    (λ v. sync_others (is_own_of_group (intended v)) a b f f2 r call)

pub halfway_synced : {T : Type 0} (a b : Told) (f f2 : ℕ) (r : Result T Failed) → Changes syncing_names a b f f2 r
    → IfSome (seen a) (λ (v : View). IsHalfway (intended v) (seen a) (seen b))
halfway_synced a b f f2 r call = halfway_still a b (synced_seen a b f f2 r call)

-- ---- the plan is gone

pub plan_gone_others : (k : List ℕ) (a b : Told) → k ≡ plan_file → MayCall (Remove k) k a b
    → IfSome (seen a) (λ (v : View). KeepsOthers (is_own_of_group (intended v)) a b)
plan_gone_others k a b is call =
    told_all (seen a) (λ (v : View). KeepsOthers (is_own_of_group (intended v)) a b) (λ v. remove_others plan_file
    (is_own_of_group (intended v)) a b (no_plan (intended v)) (plan_call k a b is call))

pub plan_gone_halfway : (k : List ℕ) (a b : Told) → k ≡ plan_file → MayBecome (without_name k) (seen a) (seen b)
    → IfSome (seen a) (λ (v : View). IsHalfway (intended v) (seen a) (seen b))
plan_gone_halfway k a b is may =
    told_all (seen a) (λ (v : View). IsHalfway (intended v) (seen a) (seen b))
    (λ v. none_halfway (intended v) (seen a) (seen b) (may_moves (is_left_of_group (intended v)) plan_file (seen a)
    (seen b) (left_plan (intended v)) (subst (λ (l : List ℕ). MayBecome (without_name l) (seen a) (seen b)) is
    may)))

pub finish_others : (k : List ℕ) (a b c : Told) → k ≡ plan_file → Becomes (without_name plan_file) (seen a) (seen b)
    → MayCall (Remove k) k a b → IfSome (seen b) (λ (v : View). KeepsOthers (is_own_of_group (intended v)) b c)
    → IfSome (seen a) (λ (v : View). KeepsOthers (is_own_of_group (intended v)) a c)
finish_others k a b c is becomes call next =
    told_as (seen a) (λ (v : View). KeepsOthers (is_own_of_group (intended v)) b c) (λ (v : View). KeepsOthers
    (is_own_of_group (intended v)) a c)
    (λ v later. others_then (is_own_of_group (intended v)) a b c (remove_others plan_file (is_own_of_group (intended v))
    a b (no_plan (intended v)) (plan_call k a b is call)) later)
    (intent_told (λ (x : Option Content). KeepsOthers (is_own_of_group (bare (entries_in x))) b c) (seen a)
    (seen b) becomes next)

pub finish_halfway : (a b c : Told) → Becomes (without_name plan_file) (seen a) (seen b)
    → IfSome (seen b) (λ (v : View). IsHalfway (intended v) (seen b) (seen c))
    → IfSome (seen a) (λ (v : View). IsHalfway (intended v) (seen a) (seen c))
finish_halfway a b c becomes next =
    told_as (seen a) (λ (v : View). IsHalfway (intended v) (seen b) (seen c)) (λ (v : View). IsHalfway (intended v)
    (seen a) (seen c))
    (λ v later. halfway_then (intended v) (seen a) (seen b) (seen c)
    (may_moves (is_left_of_group (intended v)) plan_file (seen a) (seen b) (left_plan (intended v)) (inr becomes))
    later)
    (intent_told (λ (x : Option Content). IsHalfway (bare (entries_in x)) (seen b) (seen c)) (seen a)
    (seen b) becomes next)
