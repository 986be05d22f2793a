-- The new files of members put in their places.
use Rattle.std.proofs.Common.{◌≡◌, ℕ, Bool, true, false, cond, List, drop, None, Some, is_some, refl, ◌∙◌}
use Rattle.std.specs.Str.{bytes_eq}
use Rattle.sccs_base.specs.Name.{IsSFileName, p_file, q_file, x_file, y_file}
use Rattle.sccs_disk.specs.Effects.{renamed}
use Rattle.sccs_disk.specs.Files.{Remove, Rename, View}
use Rattle.sccs_disk.specs.Told.{Told, seen}
use Rattle.sccs_disk.proofs.Puts.{put_other}
use Rattle.sccs_intents.specs.Intents.{intent_file}
use Rattle.sccs_intents.specs.declared.intents.Fate.{Fate}
use Rattle.sccs_intents.specs.declared.intents.Fate.TheVariants.{Replaced, Removed}
use Rattle.sccs_crash_points.specs.Recovery.{fate_at, is_kept, without_name}
use Rattle.sccs_crash_points.proofs.FileNames.{kept_intent, sfile_and_intent}
use Rattle.sccs_crash_points.proofs.Recovering.{fate_same}
use Rattle.sccs_store.specs.Commits.{Becomes}
use Rattle.sccs_group.specs.Finishing.{FinishesBy, MayCall}
use Rattle.sccs_group.specs.Members.{IsNamed, IsPlainG, g_gone, p_taken, placed, taken}
use Rattle.sccs_group.specs.declared.members.Member.{Member}
use Rattle.sccs_group.proofs.Calling.{other_story, x_story}
use Rattle.sccs_group.proofs.Harmless.{renamed_other}
use Rattle.sccs_group.proofs.Runs.{by_then, by_weaker}

-- ---- what one change leaves

taken_by : (from to : List ℕ) (v : View) (l : List ℕ) (b : Bool) → bytes_eq from l ≡ false → bytes_eq to l ≡ false
    → cond b (renamed from to v) v l ≡ v l
taken_by from to v l true a b = renamed_other from to v l a b
taken_by from to v l false a b = refl

pub taken_other : (from to : List ℕ) (v : View) (l : List ℕ) → bytes_eq from l ≡ false → bytes_eq to l ≡ false
    → taken from to v l ≡ v l
taken_other from to v l a b = taken_by from to v l (is_some (v from)) a b

pub s_intent : (n : List ℕ) (v : View) → IsSFileName n → taken (x_file n) n v intent_file ≡ v intent_file
s_intent n v sfile = taken_other (x_file n) n v intent_file refl (sfile_and_intent n sfile)

pub p_intent : (fate : Fate) (n : List ℕ) (v : View) → p_taken fate n v intent_file ≡ v intent_file
p_intent Replaced n v = taken_other (q_file n) (p_file n) v intent_file refl refl
p_intent Removed n v = put_other v (p_file n) intent_file None refl

pub y_intent : (n : List ℕ) (v : View) → without_name (y_file n) v intent_file ≡ v intent_file
y_intent n v = put_other v (y_file n) intent_file None refl

g_intent : (removes : Bool) (n : List ℕ) (v : View) → (removes ≡ true → is_kept (drop 2 n) ≡ false)
    → g_gone removes n v intent_file ≡ v intent_file
g_intent true n v plain = put_other v (drop 2 n) intent_file None (kept_intent (drop 2 n) (plain refl))
g_intent false n v plain = refl

pub placed_intent : (mem : Member) (v : View) → IsSFileName mem.entry.name → IsPlainG mem → placed mem v intent_file
    ≡ v intent_file
placed_intent mem v sfile plain =
    g_intent mem.removes_g mem.entry.name (without_name (y_file mem.entry.name) (p_taken mem.entry.fate mem.entry.name
    (taken (x_file mem.entry.name) mem.entry.name v))) plain
    ∙ (y_intent mem.entry.name (p_taken mem.entry.fate mem.entry.name (taken (x_file mem.entry.name) mem.entry.name v))
    ∙ (p_intent mem.entry.fate mem.entry.name (taken (x_file mem.entry.name) mem.entry.name v)
    ∙ s_intent mem.entry.name v sfile))

-- ---- one member

pub named_kept : (mem : Member) (v w : View) → w intent_file ≡ v intent_file → IsNamed v mem → IsNamed w mem
named_kept mem v w same named = record { fate = fate_same mem.entry.name v w same ∙ named.fate; plain = named.plain }

-- two calls for a member, of which the first makes f of the view
pub named_then : (mem : Member) (f : View → View) (a b c : Told) → ((v : View) → f v intent_file ≡ v intent_file)
    → Becomes f (seen a) (seen b)
    → FinishesBy (λ v. IsNamed v mem) a b → FinishesBy (λ v. IsNamed v mem) b c → FinishesBy (λ v. IsNamed v mem) a c
named_then mem f a b c keeps becomes first next =
    by_then (λ v. IsNamed v mem) (λ v. IsNamed v mem) f a b c becomes (λ v named. named_kept mem v (f v)
    (keeps v) named) first next

pub s_named : (mem : Member) (a b : Told) → IsSFileName mem.entry.name
    → MayCall (Rename (x_file mem.entry.name) mem.entry.name) (x_file mem.entry.name) a b
    → FinishesBy (λ v. IsNamed v mem) a b
s_named mem a b sfile call =
    by_weaker (λ v. fate_at v mem.entry.name ≡ Some mem.entry.fate) (λ v. IsNamed v mem) a b (λ v named. named.fate)
    (x_story mem.entry.name mem.entry.fate a b sfile call)

pub p_named : (mem : Member) (a b : Told) → FinishesBy (λ v. fate_at v mem.entry.name ≡ Some mem.entry.fate) a b
    → FinishesBy (λ v. IsNamed v mem) a b
p_named mem a b story = by_weaker (λ v. fate_at v mem.entry.name ≡ Some mem.entry.fate) (λ v. IsNamed v mem) a b
    (λ v named. named.fate) story

pub y_named : (mem : Member) (a b : Told) → MayCall (Remove (y_file mem.entry.name)) (y_file mem.entry.name) a b
    → FinishesBy (λ v. IsNamed v mem) a b
y_named mem a b call = other_story (y_file mem.entry.name) (λ v. IsNamed v mem) a b refl call

-- up to each of the calls
pub two_named : (mem : Member) (a b c : Told) → IsSFileName mem.entry.name
    → Becomes (taken (x_file mem.entry.name) mem.entry.name) (seen a) (seen b)
    → MayCall (Rename (x_file mem.entry.name) mem.entry.name) (x_file mem.entry.name) a b
    → FinishesBy (λ v. IsNamed v mem) b c → FinishesBy (λ v. IsNamed v mem) a c
two_named mem a b c sfile becomes call rest =
    named_then mem (taken (x_file mem.entry.name) mem.entry.name) a b c (λ v. s_intent mem.entry.name v sfile) becomes
    (s_named mem a b sfile call) rest

pub three_named : (mem : Member) (b c d : Told) → Becomes (p_taken mem.entry.fate mem.entry.name) (seen b) (seen c)
    → FinishesBy (λ v. fate_at v mem.entry.name ≡ Some mem.entry.fate) b c → FinishesBy (λ v. IsNamed v mem) c d
    → FinishesBy (λ v. IsNamed v mem) b d
three_named mem b c d becomes story rest =
    named_then mem (p_taken mem.entry.fate mem.entry.name) b c d (λ v. p_intent mem.entry.fate mem.entry.name v) becomes
    (p_named mem b c story) rest

pub four_named : (mem : Member) (c d e : Told) → Becomes (without_name (y_file mem.entry.name)) (seen c) (seen d)
    → MayCall (Remove (y_file mem.entry.name)) (y_file mem.entry.name) c d → FinishesBy (λ v. IsNamed v mem) d e
    → FinishesBy (λ v. IsNamed v mem) c e
four_named mem c d e becomes call rest = named_then mem (without_name (y_file mem.entry.name)) c d e
    (λ v. y_intent mem.entry.name v) becomes (y_named mem c d call) rest

-- the g-file goes
pub g_named : (mem : Member) (a b : Told) → mem.removes_g ≡ true → MayCall (Remove (drop 2 mem.entry.name))
    (drop 2 mem.entry.name) a b → FinishesBy (λ v. IsNamed v mem) a b
g_named mem a b removes call = λ m past is can named. other_story (drop 2 mem.entry.name) (λ v. IsNamed v mem) a b
    (named.plain removes) call m past is can named
