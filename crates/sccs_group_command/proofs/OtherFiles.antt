-- A group leaves the files of other names, and changes those of names that weren't locked.
use Rattle.std.proofs.Common.{◌≡◌, ◌&&◌, ℕ, false, List, [], ◌∷◌, drop, map, Option, None, Some, IfSome, Ok, inl, refl}
use Rattle.std.proofs.Common.{sym, subst}
use Rattle.std.specs.List.{AllByRecursion, list_any}
use Rattle.std.specs.Str.{bytes_eq}
use Rattle.sccs_base.specs.Name.{IsSFileName, p_file}
use Rattle.sccs_sid.specs.declared.moments.Stamp.{Stamp}
use Rattle.sccs_disk.specs.Files.{View}
use Rattle.sccs_disk.specs.Told.{Told, seen}
use Rattle.sccs_name_files.specs.Touches.{TouchesOnly}
use Rattle.sccs_intents.specs.Intents.{intent_file, plan_file}
use Rattle.sccs_crash_points.specs.Unlocked.{BeginsUnlocked, KeepsOthers, is_own}
use Rattle.sccs_crash_points.proofs.FileNames.{early_left, left_s}
use Rattle.sccs_crash_points.proofs.Unlocked.{others_then, others_touched, others_wider, own_left, unlocked_by}
use Rattle.sccs_group.specs.Halfway.{NoneLocked, is_own_of, is_own_of_group, is_own_of_member}
use Rattle.sccs_group.specs.Members.{IsPlainG}
use Rattle.sccs_group.specs.declared.members.Member.{Member}
use Rattle.sccs_group.proofs.OtherNames.{begin_unlocked}
use Rattle.sccs_group_command.specs.declared.entries.GroupEntry.{GroupEntry}
use Rattle.sccs_group_command.specs.GroupStep.{entry_steps, names_of}
use Rattle.sccs_group_command.specs.Making.{is_own_of_names, member_of, removes}
use Rattle.sccs_group_command.specs.Preparing.{AreDifferent, ArePlain, Between, PreparesAll, is_any_left, made_names}
use Rattle.sccs_group_command.specs.declared.prepared_entries.PreparedEntry.{PreparedEntry}
use Rattle.sccs_group_command.proofs.GroupNames.{are_members}
use Rattle.sccs_group_command.proofs.SoFars.{AreHeld}
use Rattle.sccs_group_command.proofs.Wholes.{ArePreparedAll}
use Rattle.std.proofs.lemmas.Bool.{and_right, or_from}
use Rattle.sccs_base.proofs.Bools.{right_false, left_false}

-- ---- names

any_left : (names : List (List ℕ)) (k : List ℕ) → list_any (λ (n : List ℕ). is_own n k) names ≡ false
    → is_any_left names k ≡ false
any_left [] k h = refl
any_left (n ∷ names) k h = or_from _ _ (own_left n k (left_false (is_own n k) _ h))
    (any_left names k (right_false (is_own n k) _ h))

names_left : (names : List (List ℕ)) (k : List ℕ) → is_own_of_names names k ≡ false → is_any_left names k ≡ false
names_left names k h = any_left names k (right_false (bytes_eq intent_file k) _
    (right_false (bytes_eq plan_file k) _ h))

members_left : (made : List PreparedEntry) (k : List ℕ) → is_own_of (map member_of made) k ≡ false
    → is_any_left (made_names made) k ≡ false
members_left [] k h = refl
members_left (x ∷ made) k h =
    let own = right_false (removes x.prepared.new_g && bytes_eq (drop 2 x.name) k) _
    (left_false (is_own_of_member (member_of x) k) _ h) in
    or_from _ _ (right_false (bytes_eq (p_file x.name) k) _ (right_false (bytes_eq x.name k) _ own))
    (members_left made k (right_false (is_own_of_member (member_of x) k) _ h))

group_left : (made : List PreparedEntry) (k : List ℕ) → is_own_of_group (map member_of made) k ≡ false
    → is_any_left (made_names made) k ≡ false
group_left made k h = members_left made k (right_false (bytes_eq intent_file k) _
    (right_false (bytes_eq plan_file k) _ h))

names_own : (made : List PreparedEntry) (k : List ℕ) → list_any (λ (n : List ℕ). is_own n k) (made_names made) ≡ false
    → is_own_of (map member_of made) k ≡ false
names_own [] k h = refl
names_own (x ∷ made) k h =
    let own : is_own x.name k ≡ false = left_false (is_own x.name k) _ h in
    let behind_s = right_false (bytes_eq x.name k) _ own in
    let behind_p = right_false (bytes_eq (p_file x.name) k) _ behind_s in
    or_from _ _
    (or_from _ _ (and_right (removes x.prepared.new_g) _ (left_false (bytes_eq (drop 2 x.name) k) _ behind_p))
    (or_from _ _ (left_false (bytes_eq x.name k) _ own)
    (or_from _ _ (left_false (bytes_eq (p_file x.name) k) _ behind_s)
    (early_left x.name k (right_false (bytes_eq (drop 2 x.name) k) _ behind_p)))))
    (names_own made k (right_false (is_own x.name k) _ h))

names_group : (made : List PreparedEntry) (k : List ℕ) → is_own_of_names (made_names made) k ≡ false
    → is_own_of_group (map member_of made) k ≡ false
names_group made k h =
    let files = right_false (bytes_eq plan_file k) _ h in
    or_from _ _ (left_false (bytes_eq plan_file k) _ h) (or_from _ _ (left_false (bytes_eq intent_file k) _ files)
    (names_own made k (right_false (bytes_eq intent_file k) _ files)))

-- ---- the commit

pub members_others : (made : List PreparedEntry) (ms : List Member) (a b : Told) → ms ≡ map member_of made
    → KeepsOthers (is_own_of_group ms) a b → KeepsOthers (is_own_of_group (map member_of made)) a b
members_others made ms a b is kept = subst (λ (l : List Member). KeepsOthers (is_own_of_group l) a b) is kept

pub back_others : (made : List PreparedEntry) (a b : Told) → TouchesOnly (is_any_left (made_names made)) a b
    → KeepsOthers (is_own_of_group (map member_of made)) a b
back_others made a b touches = others_wider (is_any_left (made_names made)) (is_own_of_group (map member_of made)) a b
    (group_left made) (others_touched (is_any_left (made_names made)) a b touches)

pub memory_others : (made : List PreparedEntry) (ms : List Member) (a b d : Told) → ms ≡ map member_of made
    → KeepsOthers (is_own_of_group ms) a b → TouchesOnly (is_any_left (made_names made)) b d
    → KeepsOthers (is_own_of_group (map member_of made)) a d
memory_others made ms a b d is kept touches = others_then (is_own_of_group (map member_of made)) a b d
    (members_others made ms a b is kept) (back_others made b d touches)

-- ---- the whole

pub left_others : (names : List (List ℕ)) (a b : Told) → TouchesOnly (is_any_left names) a b
    → KeepsOthers (is_own_of_names names) a b
left_others names a b touches = others_wider (is_any_left names) (is_own_of_names names) a b (names_left names)
    (others_touched (is_any_left names) a b touches)

whole_others : (made items : List PreparedEntry) (names : List (List ℕ)) (a b d : Told) → items ≡ made
    → made_names made ≡ names → TouchesOnly (is_any_left names) a b
    → KeepsOthers (is_own_of_group (map member_of items)) b d
    → KeepsOthers (is_own_of_group (map member_of made)) a d
whole_others made items names a b d same are touches kept =
    others_then (is_own_of_group (map member_of made)) a b d
    (back_others made a b (subst (λ (ns : List (List ℕ)). TouchesOnly (is_any_left ns) a b) (sym are) touches))
    (subst (λ (l : List PreparedEntry). KeepsOthers (is_own_of_group (map member_of l)) b d) same kept)

pub free_others : (made items : List PreparedEntry) (names : List (List ℕ)) (a b d : Told) → items ≡ made
    → made_names made ≡ names → TouchesOnly (is_any_left names) a b
    → KeepsOthers (is_own_of_group (map member_of items)) b d
    → KeepsOthers (is_own_of_names names) a d
free_others made items names a b d same are touches kept =
    subst (λ (ns : List (List ℕ)). KeepsOthers (is_own_of_names ns) a d) are
    (others_wider (is_own_of_group (map member_of made)) (is_own_of_names (made_names made)) a d (names_group made)
    (whole_others made items names a b d same are touches kept))

-- ---- locks

any_left_s : (names : List (List ℕ)) (k : List ℕ) → IsSFileName k → is_any_left names k ≡ false
any_left_s [] k sfile = refl
any_left_s (n ∷ names) k sfile = or_from _ _ (left_s n k sfile) (any_left_s names k sfile)

any_left_p : (names : List (List ℕ)) (k : List ℕ) → is_any_left names (p_file k) ≡ false
any_left_p [] k = refl
any_left_p (n ∷ names) k = any_left_p names k

-- nothing was committed
pub left_unlocked : (names : List (List ℕ)) (a b : Told) → TouchesOnly (is_any_left names) a b → BeginsUnlocked a b
left_unlocked names a b touches = unlocked_by (is_any_left names) a b (λ m past is k sfile.
    inl (any_left_s names k sfile, any_left_p names k)) (others_touched (is_any_left names) a b touches)

held_free : (made : List PreparedEntry) (u v : View) → AreHeld u v made → NoneLocked (map member_of made) u
held_free [] u v held = tt
held_free (x ∷ made) u v held = (held.0.free, held_free made u v held.1)

told_free : (stamp : Stamp) (entries : List GroupEntry) (made : List PreparedEntry) (o o2 : Option View)
    → Between (λ u v. PreparesAll (Ok made) (names_of entries) (entry_steps stamp u entries) u v) o o2
    → IfSome o (NoneLocked (map member_of made))
told_free stamp entries made None o2 all = tt
told_free stamp entries made (Some u) None all = absurd all
told_free stamp entries made (Some u) (Some v) all = held_free made u v all.1.held

are_plain : (made : List PreparedEntry) → ArePlain (made_names made) → AllByRecursion IsPlainG (map member_of made)
are_plain [] plain = tt
are_plain (x ∷ made) plain = (λ goes. plain.0.kept, are_plain made plain.1)

pub free_unlocked : (stamp : Stamp) (entries : List GroupEntry) (made items : List PreparedEntry) (a b d : Told)
    → ArePreparedAll stamp entries made a b → items ≡ made → TouchesOnly (is_any_left (names_of entries)) a b
    → KeepsOthers (is_own_of_group (map member_of items)) b d → BeginsUnlocked a d
free_unlocked stamp entries made items a b d x same touches kept =
    begin_unlocked (map member_of made) a d (are_members made x.made_are.named
    (subst AreDifferent (sym x.made_are.names_are) x.grouped.different))
    (are_plain made (subst ArePlain (sym x.made_are.names_are) x.plain))
    (told_free stamp entries made (seen a) (seen b) x.told) (whole_others made items (names_of entries) a b d same
    x.made_are.names_are touches kept)
