-- The names that finishing a group frees, and what is left where they couldn't be read.
use Rattle.std.proofs.Common.{◌≡◌, ℕ, ◌+◌, ◌<◌, ◌≤◌, ◌||◌, List, get_or, length, take, [], Option, None, Some, IfOk}
use Rattle.std.proofs.Common.{IfSome, OnOk, Result, Ok, Err, sym, ap, subst, ◌∙◌, arith}
use Rattle.std.proofs.lemmas.List.{get_or-map, length-map, take-map}
use Rattle.std.specs.BTreeSet.{BTreeSet}
use Rattle.std.specs.Global.{Vec}
use Rattle.std.specs.List.{list_any}
use Rattle.std.specs.Str.{bytes_eq}
use Rattle.sccs_base.specs.declared.streams.Memory.{Memory}
use Rattle.sccs_disk.specs.Causes.{DiskCauses}
use Rattle.sccs_disk.specs.Files.{Content, Remove, View}
use Rattle.sccs_disk.specs.Told.{Told, seen}
use Rattle.sccs_name_files.specs.WholeFiles.{AnswersWhole}
use Rattle.sccs_name_files.specs.declared.whole_files.WholeFault.TheVariants.{Missing, TooLong}
use Rattle.sccs_group.specs.Ended.{IsCutOff, LosesPlan}
use Rattle.sccs_group.specs.Finishing.{Always, MayCall}
use Rattle.sccs_group.proofs.Found.{long_bad, plan_story, plan_view}
use Rattle.sccs_group.proofs.Intended.{halfway_still, others_still, plan_gone_halfway, plan_gone_others}
use Rattle.sccs_group.proofs.Runs.{by_same}
use Rattle.sccs_name_files.specs.Touches.{TouchesOnly}
use Rattle.sccs_intents.specs.Intents.{entries_in, intent_of, plan_file, well_formed}
use Rattle.sccs_intents.specs.declared.intents.IntentEntry.{IntentEntry}
use Rattle.sccs_crash_points.specs.Recovery.{without_name}
use Rattle.sccs_base.specs.NameSets.{HasNames, names_in}
use Rattle.sccs_base.proofs.Inserting.{names_more}
use Rattle.sccs_store.specs.Commits.{Becomes, MayBecome}
use Rattle.sccs_recovery.specs.FinishingEnds.{FinishOthers}
use Rattle.sccs_recovery.specs.FinishStep.{freed_in, names_of}
use Rattle.sccs_base.proofs.Rises.{rose_later}

-- ---- the names

-- with one entry more
entry_more : (es : List IntentEntry) (k : ℕ) (e : IntentEntry) (bytes : List ℕ) (old new : BTreeSet (Vec ℕ))
    → k < length es → e ≡ get_or es k e → bytes ≡ e.name → HasNames old (names_of (take k es))
    → ((n : List ℕ) → list_any (bytes_eq n) (names_in new) ≡ (bytes_eq n bytes || list_any (bytes_eq n) (names_in old)))
    → HasNames new (names_of (take (k + 1) es))
entry_more es k e bytes old new low is same has more =
    let name : IntentEntry → List ℕ = λ (x : IntentEntry). x.name in
    subst (λ (ns : List (List ℕ)). HasNames new ns) (take-map name (k + 1) es)
    (names_more (names_of es) k e.name bytes old new (subst (λ (l : ℕ). k < l) (sym (length-map es name)) low)
    (ap name is ∙ sym (get_or-map name es k e e.name low)) same
    (subst (λ (ns : List (List ℕ)). HasNames old ns) (sym (take-map name k es)) has) more)

pub entry_among : (items es : List IntentEntry) (k : ℕ) (e : IntentEntry) (bytes : List ℕ) (old new : BTreeSet (Vec ℕ))
    → items ≡ es → k < length items → e ≡ get_or items k e → bytes ≡ e.name → HasNames old (names_of (take k es))
    → ((n : List ℕ) → list_any (bytes_eq n) (names_in new) ≡ (bytes_eq n bytes || list_any (bytes_eq n) (names_in old)))
    → HasNames new (names_of (take (k + 1) es))
entry_among items es k e bytes old new all low is same has more =
    entry_more es k e bytes old new (subst (λ (l : List IntentEntry). k < length l) all low)
    (subst (λ (l : List IntentEntry). e ≡ get_or l k e) all is) same has more

-- those of a text that was read
pub read_names : (r : Result (BTreeSet (Vec ℕ)) Memory) (bytes : List ℕ) (es : List IntentEntry)
    → intent_of bytes ≡ Ok es → IfOk r (λ (set : BTreeSet (Vec ℕ)). HasNames set (names_of es))
    → IfOk r (λ (set : BTreeSet (Vec ℕ)). HasNames set (names_of (well_formed (intent_of bytes))))
read_names (Ok set) bytes es is has = subst (λ (read : Result (List IntentEntry) ℕ). HasNames set
    (names_of (well_formed read))) (sym is) has
read_names (Err fault) bytes es is has = tt

pub bad_names : (set : BTreeSet (Vec ℕ)) (bytes : List ℕ) (line : ℕ) → intent_of bytes ≡ Err line
    → HasNames set (names_of []) → HasNames set (names_of (well_formed (intent_of bytes)))
bad_names set bytes line is has = subst (λ (read : Result (List IntentEntry) ℕ). HasNames set
    (names_of (well_formed read))) (sym is) has

-- those of a file that was read whole
pub whole_names : (o : Option Content) (bytes : List ℕ) (set : BTreeSet (Vec ℕ)) → AnswersWhole o (Ok bytes)
    → HasNames set (names_of (well_formed (intent_of bytes))) → HasNames set (names_of (entries_in o))
whole_names None bytes set whole has = absurd whole
whole_names (Some c) bytes set whole has = subst (λ (b : List ℕ). HasNames set (names_of (well_formed (intent_of b))))
    whole.0 has

-- a file that isn't there names none, nor does one that is too long
pub missing_names : (o : Option Content) (set : BTreeSet (Vec ℕ)) → AnswersWhole o (Err Missing)
    → HasNames set (names_of []) → HasNames set (names_of (entries_in o))
missing_names None set missing has = has
missing_names (Some c) set missing has = absurd cc

pub long_names : (o : Option Content) (set : BTreeSet (Vec ℕ)) → AnswersWhole o (Err TooLong)
    → HasNames set (names_of []) → HasNames set (names_of (entries_in o))
long_names None set long has = absurd long
long_names (Some c) set long has = subst (λ (r : Result (List IntentEntry) ℕ). HasNames set (names_of (well_formed r)))
    (sym (long_bad (Some c) long)) has

pub told_names : (o : Option View) (set : BTreeSet (Vec ℕ)) (P : View → Type 0)
    → ((v : View) → P v → HasNames set (freed_in v)) → IfSome o P → IfSome o (λ (v : View). HasNames set (freed_in v))
told_names None set P gives told = tt
told_names (Some v) set P gives told = gives v told

-- ---- where they weren't read

-- the plan alone went
pub plan_lost : (k : List ℕ) (a b : Told) → k ≡ plan_file → TouchesOnly (bytes_eq k) a b → Becomes (without_name k)
    (seen a) (seen b) → LosesPlan a b
plan_lost k a b is touches view = record {
  touches = subst (λ (l : List ℕ). TouchesOnly (bytes_eq l) a b) is touches;
  view = plan_view k a b is view;
}

pub plan_cut : (k : List ℕ) (a b : Told) → k ≡ plan_file → MayCall (Remove k) k a b → MayBecome (without_name k)
    (seen a) (seen b) → IsCutOff a b
plan_cut k a b is call view = record { story = plan_story k a b is call; halfway = plan_gone_halfway k a b is view }

pub plan_others : (k : List ℕ) (a b : Told) → k ≡ plan_file → MayCall (Remove k) k a b → FinishOthers a b
plan_others k a b is call = plan_gone_others k a b is call

-- nothing changed
pub cut_same : (a b : Told) → b ≡ a → IsCutOff a b
cut_same a b same = record { story = by_same Always a b same; halfway = halfway_still a b (ap seen same) }

pub others_same : (a b : Told) → b ≡ a → FinishOthers a b
others_same a b same = others_still a b same

-- ---- behind the reading

pub given_ok : {X Y : Type 0} {P : Type 0} (r : Result X Y) → P → OnOk r P
given_ok (Ok x) holds = holds
given_ok (Err e) holds = tt

pub causes_after : (failed : Type 0) (d d1 d2 : ℕ) → d ≤ d1 → DiskCauses failed d1 d2 → DiskCauses failed d d2
causes_after failed d d1 d2 later causes =
    record {
      later = (let y = causes.later in omega (arith, later, y));
      cause = λ is. rose_later d d1 d2 later
          (causes.cause is);
    }
