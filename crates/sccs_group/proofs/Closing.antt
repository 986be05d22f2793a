-- A group is closed once the new files are in their places.
use Rattle.std.proofs.Common.{◌≡◌, ◌⊎◌, ℕ, Bool, true, false, cond, List, [], ◌∷◌, drop, Option, None, Some, option_map}
use Rattle.std.proofs.Common.{find, is_some, Result, Ok, Err, inl, inr, refl, sym, ap, subst, ◌∙◌, ⊎_elim}
use Rattle.std.specs.List.{AllByRecursion}
use Rattle.std.specs.Str.{bytes_eq}
use Rattle.sccs_base.specs.Name.{IsSFileName, p_file, q_file, x_file, y_file, z_file}
use Rattle.sccs_base.specs.declared.streams.Failed.{Failed}
use Rattle.sccs_base.proofs.SameBytes.{same_bytes}
use Rattle.sccs_disk.specs.Calls.{Changes, Done, Half}
use Rattle.sccs_disk.specs.Effects.{renamed, syncing_names}
use Rattle.sccs_disk.specs.Files.{Content, Remove, View}
use Rattle.sccs_disk.specs.Told.{Told, seen}
use Rattle.sccs_disk.proofs.Puts.{name_cases, put_other, put_same}
use Rattle.sccs_intents.specs.Intents.{entries_in, fate_in, has_name, intent_file}
use Rattle.sccs_intents.specs.declared.intents.IntentEntry.{IntentEntry}
use Rattle.sccs_intents.specs.declared.intents.Fate.{Fate}
use Rattle.sccs_intents.specs.declared.intents.Fate.TheVariants.{Replaced, Removed}
use Rattle.sccs_intents.proofs.Others.{differ}
use Rattle.sccs_crash_points.specs.Recovery.{IsSettledPair, IsSound, fate_at, pair_of, without_name}
use Rattle.sccs_crash_points.proofs.FileNames.{from_sfile, intent_and_sfile, kept_p, kept_q, kept_s, kept_x, kept_z}
use Rattle.sccs_crash_points.proofs.FileNames.{siblings_differ, to_sfile}
use Rattle.sccs_crash_points.proofs.Recovering.{pair_same}
use Rattle.sccs_store.specs.Commits.{Becomes}
use Rattle.sccs_group.specs.Finishing.{Always, AreUnlocked, CanClose, CompletesBy, FinishesBy, IsSettled, IsTaken}
use Rattle.sccs_group.specs.Finishing.{MayCall, TakenBy}
use Rattle.sccs_group.specs.Members.{AreMembers, AreNamed, HasGroup, IsPlainG, each_by, entries_of, g_gone, p_taken}
use Rattle.sccs_group.specs.Members.{placed, taken, unlocked}
use Rattle.sccs_group.specs.declared.members.Member.{Member}
use Rattle.sccs_group.proofs.Calling.{intent_story, sync_completes, sync_story, taken_settled, unnamed_left}
use Rattle.sccs_group.proofs.Harmless.{Same, renamed_from}
use Rattle.sccs_group.proofs.Placing.{placed_intent, taken_other}
use Rattle.sccs_group.proofs.Runs.{by_can, by_then, by_weaker, completes_by, completes_can}
use Rattle.sccs_base.proofs.Bools.{right_false, left_false}

-- ---- what the intent says of its members

pub fate_head : (e : IntentEntry) (es : List IntentEntry) (n : List ℕ) → bytes_eq e.name n ≡ true
    → fate_in (e ∷ es) n ≡ Some e.fate
fate_head e es n is = ap (λ b. option_map (λ (x : IntentEntry). x.fate)
    (cond b (Some e) (find (λ (x : IntentEntry). bytes_eq x.name n) es))) is

pub fate_tail : (e : IntentEntry) (es : List IntentEntry) (n : List ℕ) → bytes_eq e.name n ≡ false
    → fate_in (e ∷ es) n ≡ fate_in es n
fate_tail e es n apart =
    ap (λ b. option_map (λ (x : IntentEntry). x.fate)
    (cond b (Some e) (find (λ (x : IntentEntry). bytes_eq x.name n) es))) apart

tail_fates : (es : List IntentEntry) (e : IntentEntry) (ms : List Member) → has_name (entries_of ms) e.name ≡ false
    → AllByRecursion (λ (k : Member). fate_in es k.entry.name ≡ Some k.entry.fate) ms
    → AllByRecursion (λ (k : Member). fate_in (e ∷ es) k.entry.name ≡ Some k.entry.fate) ms
tail_fates es e [] none all = tt
tail_fates es e (k ∷ ms) none all = (
  fate_tail e es k.entry.name (differ k.entry.name e.name (left_false (bytes_eq k.entry.name e.name)
      (has_name (entries_of ms) e.name) none)) ∙ all.0,
  tail_fates es e ms (right_false (bytes_eq k.entry.name e.name) (has_name (entries_of ms) e.name) none) all.1,
)

pub all_fates : (ms : List Member) → AreMembers ms
    → AllByRecursion (λ (k : Member). fate_in (entries_of ms) k.entry.name ≡ Some k.entry.fate) ms
all_fates [] are = tt
all_fates (mem ∷ ms) are = (
  fate_head mem.entry (entries_of ms) mem.entry.name (same_bytes mem.entry.name),
  tail_fates
      (entries_of ms) mem.entry ms are.0.alone (all_fates ms are.1),
)

named_by : (v : View) (es : List IntentEntry) (ms : List Member) → entries_in (v intent_file) ≡ es
    → AllByRecursion (λ (k : Member). fate_in es k.entry.name ≡ Some k.entry.fate) ms → AllByRecursion IsPlainG ms
    → AreNamed ms v
named_by v es [] is fates plain = tt
named_by v es (k ∷ ms) is fates plain = (
  record { fate = ap (λ (l : List IntentEntry). fate_in l k.entry.name) is ∙ fates.0; plain = plain.0 },
  named_by v es ms is fates.1 plain.1,
)

pub group_named : (ms : List Member) (v : View) → AreMembers ms → HasGroup ms v → AreNamed ms v
group_named ms v are has = named_by v (entries_of ms) ms has.entries (all_fates ms are) has.plain

-- ---- what placing a member leaves

pub p_other : (fate : Fate) (n : List ℕ) (v : View) (l : List ℕ) → bytes_eq (q_file n) l ≡ false
    → bytes_eq (p_file n) l ≡ false → p_taken fate n v l ≡ v l
p_other Replaced n v l q p = taken_other (q_file n) (p_file n) v l q p
p_other Removed n v l q p = put_other v (p_file n) l None p

g_other : (removes : Bool) (n : List ℕ) (v : View) (l : List ℕ) → (removes ≡ true → bytes_eq (drop 2 n) l ≡ false)
    → g_gone removes n v l ≡ v l
g_other true n v l apart = put_other v (drop 2 n) l None (apart refl)
g_other false n v l apart = refl

-- behind the p-file
later_other : (mem : Member) (v : View) (l : List ℕ) → bytes_eq (y_file mem.entry.name) l ≡ false
    → (mem.removes_g ≡ true → bytes_eq (drop 2 mem.entry.name) l ≡ false)
    → g_gone mem.removes_g mem.entry.name (without_name (y_file mem.entry.name) v) l ≡ v l
later_other mem v l y g = g_other mem.removes_g mem.entry.name (without_name (y_file mem.entry.name) v) l g
    ∙ put_other v (y_file mem.entry.name) l None y

pub placed_other : (mem : Member) (v : View) (l : List ℕ) → bytes_eq (x_file mem.entry.name) l ≡ false
    → bytes_eq mem.entry.name l ≡ false → bytes_eq (q_file mem.entry.name) l ≡ false
    → bytes_eq (p_file mem.entry.name) l ≡ false
    → bytes_eq (y_file mem.entry.name) l ≡ false → (mem.removes_g ≡ true → bytes_eq (drop 2 mem.entry.name) l ≡ false)
    → placed mem v l ≡ v l
placed_other mem v l x s q p y g =
    later_other mem (p_taken mem.entry.fate mem.entry.name (taken (x_file mem.entry.name) mem.entry.name v)) l y g
    ∙ (p_other mem.entry.fate mem.entry.name (taken (x_file mem.entry.name) mem.entry.name v) l q p
    ∙ taken_other (x_file mem.entry.name) mem.entry.name v l x s)

-- the files of other names
pub placed_elsewhere : (mem : Member) (v : View) (n : List ℕ) → IsSFileName mem.entry.name → IsPlainG mem
    → IsSFileName n → bytes_eq mem.entry.name n ≡ false → Same n v (placed mem v)
placed_elsewhere mem v n own plain sfile apart =
    let m = mem.entry.name in
    record {
      s = placed_other mem v n (from_sfile 120 m n sfile refl) apart (from_sfile 113 m n sfile refl)
          (from_sfile 112 m n sfile refl) (from_sfile 121 m n sfile refl) (λ g. kept_s (drop 2 m) n (plain g) sfile);
      p = placed_other mem v (p_file n) refl (to_sfile 112 m n own refl) refl (siblings_differ 112 m n own sfile apart)
          refl (λ g. kept_p (drop 2 m) n (plain g) sfile);
      z = placed_other mem v (z_file n) refl (to_sfile 122 m n own refl) refl refl refl (λ g. kept_z (drop 2 m) n
          (plain g) sfile);
      x = placed_other mem v (x_file n) (siblings_differ 120 m n own sfile apart) (to_sfile 120 m n own refl) refl refl
          refl (λ g. kept_x (drop 2 m) n (plain g) sfile);
      q = placed_other mem v (q_file n) refl (to_sfile 113 m n own refl) (siblings_differ 113 m n own sfile apart) refl
          refl (λ g. kept_q (drop 2 m) n (plain g) sfile);
    }

-- ---- the new files are in their places

none_by : (from to : List ℕ) (v : View) (o : Option Content) → v from ≡ o → bytes_eq to from ≡ false
    → cond (is_some o) (renamed from to v) v from ≡ None
none_by from to v None is apart = is
none_by from to v (Some c) is apart = renamed_from from to v apart

pub taken_none : (from to : List ℕ) (v : View) → bytes_eq to from ≡ false → taken from to v from ≡ None
taken_none from to v apart = none_by from to v (v from) refl apart

p_none : (fate : Fate) (n : List ℕ) (v : View) → v (x_file n) ≡ None → TakenBy fate n (p_taken fate n v)
p_none Replaced n v x = (
  taken_other (q_file n) (p_file n) v (x_file n) refl refl ∙ x,
  taken_none (q_file n)
      (p_file n) v refl,
)
p_none Removed n v x = (put_other v (p_file n) (x_file n) None refl ∙ x, put_same v (p_file n) None)

taken_kept : (fate : Fate) (n : List ℕ) (v w : View) → w (x_file n) ≡ v (x_file n) → w (q_file n) ≡ v (q_file n)
    → w (p_file n) ≡ v (p_file n) → TakenBy fate n v → TakenBy fate n w
taken_kept Replaced n v w x q p taken = (x ∙ taken.0, q ∙ taken.1)
taken_kept Removed n v w x q p taken = (x ∙ taken.0, p ∙ taken.1)

pub placed_taken : (mem : Member) (v : View) → IsSFileName mem.entry.name → IsPlainG mem
    → TakenBy mem.entry.fate mem.entry.name (placed mem v)
placed_taken mem v sfile plain =
    let n = mem.entry.name in
    let u : View = p_taken mem.entry.fate n (taken (x_file n) n v) in
    taken_kept mem.entry.fate n u (placed mem v)
    (later_other mem u (x_file n) refl (λ g. kept_x (drop 2 n) n (plain g) sfile)) (later_other mem u (q_file n) refl
    (λ g. kept_q (drop 2 n) n (plain g) sfile)) (later_other mem u (p_file n) refl (λ g. kept_p (drop 2 n) n
    (plain g) sfile))
    (p_none mem.entry.fate n (taken (x_file n) n v) (taken_none (x_file n) n v (to_sfile 120 n n sfile refl)))

stays_taken : (ms : List Member) (v : View) (n : List ℕ) (fate : Fate) → IsSFileName n → AreMembers ms
    → AllByRecursion IsPlainG ms → has_name (entries_of ms) n ≡ false → TakenBy fate n v
    → TakenBy fate n (each_by placed ms v)
stays_taken [] v n fate sfile are plain none taken = taken
stays_taken (mem ∷ ms) v n fate sfile are plain none taken =
    let same : Same n v (placed mem v) = placed_elsewhere mem v n are.0.sfile plain.0 sfile
    (left_false (bytes_eq mem.entry.name n) (has_name (entries_of ms) n) none) in
    stays_taken ms (placed mem v) n fate sfile are.1 plain.1 (right_false (bytes_eq mem.entry.name n)
    (has_name (entries_of ms) n) none) (taken_kept fate n v (placed mem v) same.x same.q same.p taken)

pub no_fate : (n : List ℕ) (fate : Fate) → None ≡ Some fate → ⊥
no_fate n fate e = cc

pub same_fate : (a c : Fate) → Some a ≡ Some c → a ≡ c
same_fate a c e = cc

pub each_taken : (ms : List Member) (v : View) (n : List ℕ) (fate : Fate) → IsSFileName n → AreMembers ms
    → AllByRecursion IsPlainG ms → fate_in (entries_of ms) n ≡ Some fate → TakenBy fate n (each_by placed ms v)
each_taken [] v n fate sfile are plain is = absurd (no_fate n fate is)
each_taken (mem ∷ ms) v n fate sfile are plain is =
    ⊎_elim
    (λ e.
    let here : mem.entry.fate ≡ fate = same_fate mem.entry.fate fate
    (sym (fate_head mem.entry (entries_of ms) n (subst (λ l. bytes_eq mem.entry.name l ≡ true) e
    (same_bytes mem.entry.name))) ∙ is) in
    stays_taken ms (placed mem v) n fate sfile are.1 plain.1 (subst (λ l. has_name (entries_of ms) l ≡ false) e
    are.0.alone)
    (subst (λ l. TakenBy fate l (placed mem v)) e (subst (λ (f : Fate). TakenBy f mem.entry.name (placed mem v)) here
    (placed_taken mem v are.0.sfile plain.0))))
    (λ apart. each_taken ms (placed mem v) n fate sfile are.1 plain.1 (sym (fate_tail mem.entry (entries_of ms) n apart)
    ∙ is))
    (name_cases mem.entry.name n)

pub each_intent : (ms : List Member) (v : View) → AreMembers ms → AllByRecursion IsPlainG ms
    → each_by placed ms v intent_file ≡ v intent_file
each_intent [] v are plain = refl
each_intent (mem ∷ ms) v are plain = each_intent ms (placed mem v) are.1 plain.1
    ∙ placed_intent mem v are.0.sfile plain.0

-- ---- so the group may be closed

still_has : (ms : List Member) (v : View) → AreMembers ms → HasGroup ms v → HasGroup ms (each_by placed ms v)
still_has ms v are has = record {
  entries = ap entries_in (each_intent ms v are has.plain) ∙ has.entries;
  plain =
      has.plain;
}

pub can_close : (ms : List Member) (v : View) → AreMembers ms → HasGroup ms v → CanClose ms (each_by placed ms v)
can_close ms v are has = record {
  taken = λ n sfile fate named. each_taken ms v n fate sfile are has.plain
      (sym (ap (λ (l : List IntentEntry). fate_in l n) (still_has ms v are has).entries) ∙ named);
  named = group_named ms (each_by placed ms v) are (still_has ms v are has);
}

-- ---- behind the intent

unlocked_by : (n : List ℕ) (fate : Fate) (v : View) → IsSFileName n → IsSettled v → IsTaken v → fate_at v n ≡ Some fate
    → IsSound n (without_name intent_file v)
unlocked_by n fate v sfile settled taken named = record {
  entries = subst IsSettledPair (sym pair) (taken_settled n fate v sfile settled named (taken n sfile fate named));
  unnamed = unnamed_left v n;
}
  where
    pair : pair_of (without_name intent_file v) n ≡ pair_of v n
    pair = pair_same _ _ _ _ (put_other v intent_file n None (intent_and_sfile n sfile))
        (put_other v intent_file (p_file n) None refl)

all_unlocked : (ms : List Member) (v : View) → AreMembers ms → IsSettled v → IsTaken v → AreNamed ms v
    → AreUnlocked ms (without_name intent_file v)
all_unlocked [] v are settled taken named = tt
all_unlocked (mem ∷ ms) v are settled taken named = (
  unlocked_by mem.entry.name mem.entry.fate v are.0.sfile settled taken named.0.fate,
  all_unlocked ms v are.1 settled
      taken named.1,
)

-- ---- the calls of closing

pub intent_call : (k : List ℕ) (a b : Told) → k ≡ intent_file → MayCall (Remove k) k a b
    → MayCall (Remove intent_file) intent_file a b
intent_call k a b is call = subst (λ (l : List ℕ). MayCall (Remove l) l a b) is call

intent_becomes : (k : List ℕ) (a b : Told) → k ≡ intent_file → Becomes (without_name k) (seen a) (seen b)
    → Becomes (without_name intent_file) (seen a) (seen b)
intent_becomes k a b is becomes = subst (λ (l : List ℕ). Becomes (without_name l) (seen a) (seen b)) is becomes

pub close_first : (ms : List Member) (k : List ℕ) (a b : Told) → k ≡ intent_file → MayCall (Remove k) k a b
    → FinishesBy (CanClose ms) a b
close_first ms k a b is call = by_weaker IsTaken (CanClose ms) a b (λ v can. can.taken)
    (intent_story a b (intent_call k a b is call))

pub close_then : (ms : List Member) (k : List ℕ) (a b c : Told) → k ≡ intent_file → AreMembers ms
    → Becomes (without_name k) (seen a) (seen b) → MayCall (Remove k) k a b → FinishesBy (AreUnlocked ms) b c
    → FinishesBy (CanClose ms) a c
close_then ms k a b c is are becomes call next =
    by_can (CanClose ms) (AreUnlocked ms) (without_name intent_file) a b c (intent_becomes k a b is becomes)
    (λ v settled can. all_unlocked ms v are settled can.taken can.named) (close_first ms k a b is call) next

pub close_done : (ms : List Member) (k : List ℕ) (a b c : Told) → k ≡ intent_file → AreMembers ms
    → Becomes (without_name k) (seen a) (seen b) → MayCall (Remove k) k a b → CompletesBy (AreUnlocked ms) b c
    → CompletesBy (CanClose ms) a c
close_done ms k a b c is are becomes call next =
    completes_can (CanClose ms) (AreUnlocked ms) (without_name intent_file) a b c (intent_becomes k a b is becomes)
    (λ v settled can. all_unlocked ms v are settled can.taken can.named) (close_first ms k a b is call) next

either : (a b : Told) (f f2 : ℕ) (r : Result (Unit {0}) Failed) → Changes syncing_names a b f f2 r
    → Half syncing_names a b ⊎ Done syncing_names a b
either a b f f2 (Ok x) call = inr call.done
either a b f f2 (Err e) call = inl call.half

pub unlock_synced : (ms : List Member) (a b c : Told) (f f2 : ℕ) (r : Result (Unit {0}) Failed)
    → Becomes (each_by unlocked ms) (seen a) (seen b) → FinishesBy (AreUnlocked ms) a b
    → Changes syncing_names b c f f2 r → FinishesBy (AreUnlocked ms) a c
unlock_synced ms a b c f f2 r becomes first call = by_then (AreUnlocked ms) Always (each_by unlocked ms) a b c becomes
    (λ v all. tt) first (sync_story Always b c (either b c f f2 r call))

pub unlock_done : (ms : List Member) (a b c : Told) → Becomes (each_by unlocked ms) (seen a) (seen b)
    → FinishesBy (AreUnlocked ms) a b → Done syncing_names b c → CompletesBy (AreUnlocked ms) a c
unlock_done ms a b c becomes first done = completes_by (AreUnlocked ms) Always (each_by unlocked ms) a b c becomes
    (λ v all. tt) first (sync_completes Always b c done)

-- ---- the whole

pub placed_first : (ms : List Member) (a b : Told) → AreMembers ms → FinishesBy (AreNamed ms) a b
    → FinishesBy (HasGroup ms) a b
placed_first ms a b are story = by_weaker (AreNamed ms) (HasGroup ms) a b (λ v has. group_named ms v are has) story

pub complete_then : (ms : List Member) (a b c : Told) → AreMembers ms → Becomes (each_by placed ms) (seen a) (seen b)
    → FinishesBy (AreNamed ms) a b → FinishesBy (CanClose ms) b c → FinishesBy (HasGroup ms) a c
complete_then ms a b c are becomes first next = by_then (HasGroup ms) (CanClose ms) (each_by placed ms) a b c becomes
    (λ v has. can_close ms v are has) (placed_first ms a b are first) next

pub complete_done : (ms : List Member) (a b c : Told) → AreMembers ms → Becomes (each_by placed ms) (seen a) (seen b)
    → FinishesBy (AreNamed ms) a b → CompletesBy (CanClose ms) b c → CompletesBy (HasGroup ms) a c
complete_done ms a b c are becomes first next = completes_by (HasGroup ms) (CanClose ms) (each_by placed ms) a b c
    becomes (λ v has. can_close ms v are has) (placed_first ms a b are first) next
