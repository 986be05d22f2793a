-- Loops over the members of a group.
use Rattle.std.proofs.Common.{◌≡◌, ℕ, zero, suc, ◌+◌, ◌<◌, ◌≤◌, List, [], ◌∷◌, drop, length, get_or, Option, None, Some}
use Rattle.std.proofs.Common.{refl, sym, ap, subst, ◌∙◌}
use Rattle.std.proofs.lemmas.List.{drop_all, drop_more}
use Rattle.std.specs.List.{AllByRecursion}
use Rattle.sccs_base.specs.Name.{IsSFileName, p_file, z_file}
use Rattle.sccs_disk.specs.Files.{Remove, View}
use Rattle.sccs_disk.specs.Told.{Told, seen}
use Rattle.sccs_disk.proofs.Puts.{put_other}
use Rattle.sccs_intents.specs.Intents.{intent_file}
use Rattle.sccs_crash_points.specs.Recovery.{IsSound}
use Rattle.sccs_crash_points.proofs.FileNames.{from_sfile}
use Rattle.sccs_crash_points.proofs.Recovering.{pair_same}
use Rattle.sccs_crash_points.proofs.Untouched.{sound_kept}
use Rattle.sccs_store.specs.Commits.{Becomes}
use Rattle.sccs_store.proofs.Working.{becomes_both}
use Rattle.sccs_group.specs.Finishing.{AreUnlocked, FinishesBy, MayCall}
use Rattle.sccs_group.specs.Members.{AreMembers, AreNamed, IsNamed, each_by, placed, unlocked}
use Rattle.sccs_group.specs.declared.members.Member.{Member}
use Rattle.sccs_group.proofs.Calling.{z_story}
use Rattle.sccs_group.proofs.Placing.{named_kept, placed_intent}
use Rattle.sccs_group.proofs.Runs.{by_same, by_then, by_weaker}

-- ---- members from a place on

pub members_from : (ms : List Member) (i : ℕ) → AreMembers ms → AreMembers (drop i ms)
members_from [] zero are = are
members_from [] (suc i) are = are
members_from (mem ∷ ms) zero are = are
members_from (mem ∷ ms) (suc i) are = members_from ms i are.1

pub member_sfile : (ms rest : List Member) (i : ℕ) (mem : Member) → AreMembers ms → drop i ms ≡ mem ∷ rest
    → IsSFileName mem.entry.name
member_sfile ms rest i mem are is = (subst AreMembers is (members_from ms i are)).0.sfile

rest_members : (ms rest : List Member) (i : ℕ) (mem : Member) → AreMembers ms → drop i ms ≡ mem ∷ rest → AreMembers rest
rest_members ms rest i mem are is = (subst AreMembers is (members_from ms i are)).1

-- what is so of each name is so in another view
pub all_kept : (Q : View → Member → Type 0) (v w : View) (ms : List Member) → AreMembers ms
    → ((k : Member) → IsSFileName k.entry.name → Q v k → Q w k) → AllByRecursion (Q v) ms → AllByRecursion (Q w) ms
all_kept Q v w [] are kept all = tt
all_kept Q v w (k ∷ ms) are kept all = (kept k are.0.sfile all.0, all_kept Q v w ms are.1 kept all.1)

-- ---- a turn

view_turn : (f : Member → View → View) (mem : Member) (rest : List Member) (a b c : Option View) → Becomes (f mem) a b
    → Becomes (each_by f rest) b c → Becomes (each_by f (mem ∷ rest)) a c
view_turn f mem rest a b c first next = becomes_both (f mem) (each_by f rest) a b c first next

pub view_on : (f : Member → View → View) (ms rest : List Member) (i : ℕ) (mem : Member) (a b : Option View)
    (Z : Option View → Type 0) → drop i ms ≡ mem ∷ rest → Becomes (f mem) a b
    → ((o : Option View) → Becomes (each_by f (drop i ms)) a o → Z o) → (o : Option View) → Becomes (each_by f rest) b o
    → Z o
view_on f ms rest i mem a b Z is first all = λ o next. all o (subst (λ (l : List Member). Becomes (each_by f l) a o)
    (sym is) (view_turn f mem rest a b o first next))

-- a call for a member, and those of the rest
turn : (Q : View → Member → Type 0) (f : Member → View → View) (mem : Member) (rest : List Member) (a b c : Told)
    → AreMembers rest → ((v : View) → Q v mem → (k : Member) → IsSFileName k.entry.name → Q v k → Q (f mem v) k)
    → Becomes (f mem) (seen a) (seen b) → FinishesBy (λ v. Q v mem) a b → FinishesBy (λ v. AllByRecursion (Q v) rest) b
    c → FinishesBy (λ v. AllByRecursion (Q v) (mem ∷ rest)) a c
turn Q f mem rest a b c are keeps becomes first next =
    by_then (λ v. AllByRecursion (Q v) (mem ∷ rest)) (λ v. AllByRecursion (Q v) rest) (f mem) a b c becomes
    (λ v all. all_kept Q v (f mem v) rest are (λ k sfile is. keeps v all.0 k sfile is) all.1) (by_weaker (λ v. Q v mem)
    (λ v. AllByRecursion (Q v) (mem ∷ rest)) a b (λ v all. all.0) first) next

cut : (Q : View → Member → Type 0) (mem : Member) (rest : List Member) (a b : Told) → FinishesBy (λ v. Q v mem) a b
    → FinishesBy (λ v. AllByRecursion (Q v) (mem ∷ rest)) a b
cut Q mem rest a b first = by_weaker (λ v. Q v mem) (λ v. AllByRecursion (Q v) (mem ∷ rest)) a b (λ v all. all.0) first

-- ---- new files in their places

named_on : (mem : Member) (v : View) → IsSFileName mem.entry.name → IsNamed v mem → (k : Member)
    → IsSFileName k.entry.name → IsNamed v k → IsNamed (placed mem v) k
named_on mem v own named k sfile is = named_kept k v (placed mem v) (placed_intent mem v own named.plain) is

pub placed_on : (ms rest : List Member) (i : ℕ) (mem : Member) (start a b : Told) → AreMembers ms
    → drop i ms ≡ mem ∷ rest → Becomes (placed mem) (seen a) (seen b) → FinishesBy (λ v. IsNamed v mem) a b
    → ((t : Told) → FinishesBy (AreNamed (drop i ms)) a t → FinishesBy (AreNamed ms) start t) → (t : Told)
    → FinishesBy (AreNamed rest) b t → FinishesBy (AreNamed ms) start t
placed_on ms rest i mem start a b are is becomes first all = λ t next.
    all t (subst (λ (l : List Member). FinishesBy (AreNamed l) a t) (sym is)
    (turn IsNamed placed mem rest a b t (rest_members ms rest i mem are is) (λ v named. named_on mem v
    (member_sfile ms rest i mem are is) named) becomes first next))

pub placed_cut : (ms rest : List Member) (i : ℕ) (mem : Member) (start a b : Told) → drop i ms ≡ mem ∷ rest
    → FinishesBy (λ v. IsNamed v mem) a b
    → ((t : Told) → FinishesBy (AreNamed (drop i ms)) a t → FinishesBy (AreNamed ms) start t)
    → FinishesBy (AreNamed ms) start b
placed_cut ms rest i mem start a b is first all = all b (subst (λ (l : List Member). FinishesBy (AreNamed l) a b)
    (sym is) (cut IsNamed mem rest a b first))

pub placed_all : (ms : List Member) (i : ℕ) (start a : Told) → ((t : Told) → FinishesBy (AreNamed (drop i ms)) a t
    → FinishesBy (AreNamed ms) start t) → FinishesBy (AreNamed ms) start a
placed_all ms i start a all = all a (by_same (AreNamed (drop i ms)) a a refl)

-- ---- z-files

abbrev IsUnlocked : View → Member → Type 0
IsUnlocked v mem = IsSound mem.entry.name v

sound_on : (mem : Member) (v : View) (k : Member) → IsSFileName k.entry.name → IsSound k.entry.name v
    → IsSound k.entry.name (unlocked mem v)
sound_on mem v k sfile sound =
    sound_kept k.entry.name v (unlocked mem v) sound (put_other v (z_file mem.entry.name) intent_file None refl)
    (pair_same _ _ _ _ (put_other v (z_file mem.entry.name) k.entry.name None
    (from_sfile 122 mem.entry.name k.entry.name sfile refl)) (put_other v (z_file mem.entry.name)
    (p_file k.entry.name) None refl))

pub unlocked_on : (ms rest : List Member) (i : ℕ) (mem : Member) (start a b : Told) → AreMembers ms
    → drop i ms ≡ mem ∷ rest → Becomes (unlocked mem) (seen a) (seen b)
    → MayCall (Remove (z_file mem.entry.name)) (z_file mem.entry.name) a b
    → ((t : Told) → FinishesBy (AreUnlocked (drop i ms)) a t → FinishesBy (AreUnlocked ms) start t) → (t : Told)
    → FinishesBy (AreUnlocked rest) b t → FinishesBy (AreUnlocked ms) start t
unlocked_on ms rest i mem start a b are is becomes call all = λ t next.
    all t (subst (λ (l : List Member). FinishesBy (AreUnlocked l) a t) (sym is)
    (turn IsUnlocked unlocked mem rest a b t (rest_members ms rest i mem are is) (λ v sound k sfile is2.
    sound_on mem v k sfile is2) becomes (z_story mem.entry.name a b (member_sfile ms rest i mem are is) call) next))

pub unlocked_cut : (ms rest : List Member) (i : ℕ) (mem : Member) (start a b : Told) → AreMembers ms
    → drop i ms ≡ mem ∷ rest → MayCall (Remove (z_file mem.entry.name)) (z_file mem.entry.name) a b
    → ((t : Told) → FinishesBy (AreUnlocked (drop i ms)) a t → FinishesBy (AreUnlocked ms) start t)
    → FinishesBy (AreUnlocked ms) start b
unlocked_cut ms rest i mem start a b are is call all =
    all b (subst (λ (l : List Member). FinishesBy (AreUnlocked l) a b) (sym is) (cut IsUnlocked mem rest a b
    (z_story mem.entry.name a b (member_sfile ms rest i mem are is) call)))

pub unlocked_all : (ms : List Member) (i : ℕ) (start a : Told) → ((t : Told) → FinishesBy (AreUnlocked (drop i ms)) a t
    → FinishesBy (AreUnlocked ms) start t) → FinishesBy (AreUnlocked ms) start a
unlocked_all ms i start a all = all a (by_same (AreUnlocked (drop i ms)) a a refl)

-- ---- where a loop stands

pub item_at : (ms : List Member) (i : ℕ) (mem : Member) → i < length ms → mem ≡ get_or ms i mem
    → drop i ms ≡ mem ∷ drop (i + 1) ms
item_at ms i mem low is = drop_more ms i mem low ∙ ap (λ (x : Member). x ∷ drop (i + 1) ms) (sym is)

each_none : (f : Member → View → View) (o : Option View) → Becomes (each_by f []) o o
each_none f None = refl
each_none f (Some v) = refl

-- nothing is left
pub all_done : (f : Member → View → View) (ms : List Member) (i : ℕ) (o : Option View) → length ms ≤ i
    → Becomes (each_by f (drop i ms)) o o
all_done f ms i o high = subst (λ (l : List Member). Becomes (each_by f l) o o) (sym (drop_all i ms high))
    (each_none f o)
