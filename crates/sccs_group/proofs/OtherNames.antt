-- The files of a group are none of those of other names.
use Rattle.std.proofs.Common.{◌≡◌, ◌⊎◌, ◌||◌, ◌&&◌, ℕ, Bool, true, false, List, [], ◌∷◌, drop, None, IfSome, inl, inr}
use Rattle.std.proofs.Common.{refl, subst, ⊎_elim}
use Rattle.std.specs.List.{AllByRecursion}
use Rattle.std.specs.Str.{bytes_eq}
use Rattle.sccs_base.specs.Name.{IsSFileName, p_file, z_file}
use Rattle.sccs_disk.specs.Files.{Model, View, view_of}
use Rattle.sccs_disk.specs.Told.{Told, Tells, seen}
use Rattle.sccs_disk.proofs.Puts.{name_cases}
use Rattle.sccs_name_files.specs.StepFiles.{is_left}
use Rattle.sccs_intents.specs.Intents.{has_name, intent_file, plan_file}
use Rattle.sccs_crash_points.specs.Unlocked.{BeganUnlockedBut, BeginsUnlocked, BeginsUnlockedBut, KeepsOthers}
use Rattle.sccs_crash_points.specs.Unlocked.{KeptOthers}
use Rattle.sccs_crash_points.proofs.Unlocked.{each_now, unlocked_by}
use Rattle.sccs_crash_points.proofs.FileNames.{from_sfile, intent_and_sfile, kept_p, kept_s, kept_z, left_s, left_z}
use Rattle.sccs_crash_points.proofs.FileNames.{siblings_differ, to_sfile, plan_and_sfile}
use Rattle.sccs_group.specs.Halfway.{NoneLocked, is_own_but_g, is_own_of, is_own_of_group, is_own_of_member}
use Rattle.sccs_group.specs.Members.{AreMembers, IsPlainG, entries_of}
use Rattle.sccs_group.specs.declared.members.Member.{Member}
use Rattle.std.proofs.lemmas.Bool.{or_from}
use Rattle.sccs_base.proofs.Bools.{right_false, left_false}
use Rattle.sccs_crash_points.proofs.UnlockedBut.{kept_but}

-- ---- one member

no_g_of : (mem : Member) (k : List ℕ) → (mem.removes_g ≡ true → bytes_eq (drop 2 mem.entry.name) k ≡ false)
    → (mem.removes_g && bytes_eq (drop 2 mem.entry.name) k) ≡ false
no_g_of mem k off = by mem.removes_g off
  where
    by : (removes : Bool) → (removes ≡ true → bytes_eq (drop 2 mem.entry.name) k ≡ false)
        → (removes && bytes_eq (drop 2 mem.entry.name) k) ≡ false
    by true off = off refl
    by false off = refl

member_misses : (mem : Member) (k : List ℕ) → (mem.removes_g ≡ true → bytes_eq (drop 2 mem.entry.name) k ≡ false)
    → bytes_eq mem.entry.name k ≡ false → bytes_eq (p_file mem.entry.name) k ≡ false → is_left mem.entry.name k ≡ false
    → is_own_of_member mem k ≡ false
member_misses mem k g s p left =
    or_from (mem.removes_g && bytes_eq (drop 2 mem.entry.name) k) (is_own_but_g mem.entry.name k) (no_g_of mem k g)
    (or_from (bytes_eq mem.entry.name k) (bytes_eq (p_file mem.entry.name) k || is_left mem.entry.name k) s
    (or_from (bytes_eq (p_file mem.entry.name) k) (is_left mem.entry.name k) p left))

member_s : (mem : Member) (n : List ℕ) → IsSFileName mem.entry.name → IsPlainG mem → IsSFileName n
    → bytes_eq mem.entry.name n ≡ false → is_own_of_member mem n ≡ false
member_s mem n own plain sfile apart =
    member_misses mem n (λ removes. kept_s (drop 2 mem.entry.name) n (plain removes) sfile) apart
    (from_sfile 112 mem.entry.name n sfile refl) (left_s mem.entry.name n sfile)

member_p : (mem : Member) (n : List ℕ) → IsSFileName mem.entry.name → IsPlainG mem → IsSFileName n
    → bytes_eq mem.entry.name n ≡ false → is_own_of_member mem (p_file n) ≡ false
member_p mem n own plain sfile apart =
    member_misses mem (p_file n) (λ removes. kept_p (drop 2 mem.entry.name) n (plain removes) sfile)
    (to_sfile 112 mem.entry.name n own refl) (siblings_differ 112 mem.entry.name n own sfile apart) refl

member_z : (mem : Member) (n : List ℕ) → IsSFileName mem.entry.name → IsPlainG mem → IsSFileName n
    → bytes_eq mem.entry.name n ≡ false → is_own_of_member mem (z_file n) ≡ false
member_z mem n own plain sfile apart =
    member_misses mem (z_file n) (λ removes. kept_z (drop 2 mem.entry.name) n (plain removes) sfile)
    (to_sfile 122 mem.entry.name n own refl) refl (left_z mem.entry.name n own sfile apart)

-- ---- all members

all_miss : (ms : List Member) (n k : List ℕ) → AreMembers ms → AllByRecursion IsPlainG ms → has_name (entries_of ms) n
    ≡ false
    → ((mem : Member) → IsSFileName mem.entry.name → IsPlainG mem → bytes_eq mem.entry.name n ≡ false
    → is_own_of_member mem k ≡ false) → is_own_of ms k ≡ false
all_miss [] n k are plain none each = refl
all_miss (mem ∷ ms) n k are plain none each =
    or_from (is_own_of_member mem k) (is_own_of ms k) (each mem are.0.sfile plain.0
    (left_false (bytes_eq mem.entry.name n) (has_name (entries_of ms) n) none))
    (all_miss ms n k are.1 plain.1 (right_false (bytes_eq mem.entry.name n) (has_name (entries_of ms) n) none) each)

group_misses : (ms : List Member) (k : List ℕ) → bytes_eq plan_file k ≡ false → bytes_eq intent_file k ≡ false
    → is_own_of ms k ≡ false → is_own_of_group ms k ≡ false
group_misses ms k plan intent own = or_from (bytes_eq plan_file k) (bytes_eq intent_file k || is_own_of ms k) plan
    (or_from (bytes_eq intent_file k) (is_own_of ms k) intent own)

pub others_left : (ms : List Member) (n : List ℕ) → AreMembers ms → AllByRecursion IsPlainG ms → IsSFileName n
    → has_name (entries_of ms) n ≡ false
    → (is_own_of_group ms n ≡ false) × (is_own_of_group ms (p_file n) ≡ false) × (is_own_of_group ms (z_file n) ≡ false)
others_left ms n are plain sfile none = (
  group_misses ms n (plan_and_sfile n sfile) (intent_and_sfile n sfile) (all_miss ms n n are plain none
      (λ mem own is apart. member_s mem n own is sfile apart)),
  group_misses ms (p_file n) refl refl (all_miss ms n (p_file n) are plain none (λ mem own is apart.
      member_p mem n own is sfile apart)),
  group_misses ms (z_file n) refl refl (all_miss ms n (z_file n) are plain none (λ mem own is apart.
      member_z mem n own is sfile apart)),
)

-- ---- z-files that aren't there

free_or_other : (ms : List Member) (v : View) (k : List ℕ) → NoneLocked ms v → (has_name (entries_of ms) k ≡ false)
    ⊎ (v (z_file k) ≡ None)
free_or_other [] v k none = inl refl
free_or_other (mem ∷ ms) v k none =
    ⊎_elim (λ e. inr (subst (λ (l : List ℕ). v (z_file l) ≡ None) e none.0))
    (λ apart. ⊎_elim (λ rest. inl (or_from (bytes_eq mem.entry.name k) (has_name (entries_of ms) k) apart rest))
    (λ free. inr free) (free_or_other ms v k none.1)) (name_cases mem.entry.name k)

none_at : (ms : List Member) (a : Told) (m : Model) (past : List Model) → IfSome (seen a) (NoneLocked ms)
    → a ≡ Tells m past → NoneLocked ms (view_of m)
none_at ms a m past none is = subst (λ (t : Told). IfSome (seen t) (NoneLocked ms)) is none

pub begin_unlocked : (ms : List Member) (a b : Told) → AreMembers ms → AllByRecursion IsPlainG ms
    → IfSome (seen a) (NoneLocked ms) → KeepsOthers (is_own_of_group ms) a b → BeginsUnlocked a b
begin_unlocked ms a b are plain none keeps =
    unlocked_by (is_own_of_group ms) a b
    (λ m past is k sfile. ⊎_elim (λ other. let left = others_left ms k are plain sfile other in inl (left.0, left.1))
    (λ free. inr free) (free_or_other ms (view_of m) k (none_at ms a m past none is))) keeps

-- ---- names that are exempt

pub begin_but : (exempt : List ℕ → Bool) (ms : List Member) (a b : Told) → AreMembers ms → AllByRecursion IsPlainG ms
    → ((n : List ℕ) → exempt n ≡ false → has_name (entries_of ms) n ≡ false) → KeepsOthers (is_own_of_group ms) a b
    → BeginsUnlockedBut exempt a b
begin_but exempt ms a b are plain within keeps m past is = by (keeps m past is)
  where
    by : KeptOthers (is_own_of_group ms) m past b → BeganUnlockedBut exempt m past b
    by kept = record {
      added = kept.added;
      is = kept.is;
      changes = kept_but exempt (is_own_of_group ms) m kept.added (λ k sfile asked. let left =
          others_left ms k are plain sfile (within k asked) in (left.0, left.1))
          (each_now (is_own_of_group ms) m kept.added kept.each);
    }
