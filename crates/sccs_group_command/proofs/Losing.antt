-- What a stop leaves while entries are prepared.
use Rattle.std.proofs.Common.{◌≡◌, ◌+◌, ℕ, zero, suc, false, List, [], ◌∷◌, drop, take, Option, None, Some, IfSome}
use Rattle.std.proofs.Common.{refl, sym, ap, subst, ◌∙◌}
use Rattle.std.specs.Prelude.{is_some}
use Rattle.std.specs.List.{AllByRecursion}
use Rattle.std.specs.Str.{bytes_eq}
use Rattle.sccs_base.specs.Name.{IsSFileName, z_file}
use Rattle.sccs_sid.specs.declared.moments.Stamp.{Stamp}
use Rattle.sccs_disk.specs.Files.{Content, Model, View, view_of}
use Rattle.sccs_disk.specs.Images.{Allows}
use Rattle.sccs_disk.specs.Told.{Told, Tells, seen}
use Rattle.sccs_name_files.specs.Touches.{TouchesOnly, earlier, newest}
use Rattle.sccs_name_files.proofs.Images.{view_image}
use Rattle.sccs_name_files.proofs.Touched.{only_wider}
use Rattle.sccs_name_files.specs.StepFiles.{is_early, is_left}
use Rattle.sccs_crash_points.specs.Calm.{IsCalm, KeepsPairs}
use Rattle.sccs_crash_points.specs.CrashPoints.{EndsBefore}
use Rattle.sccs_crash_points.specs.Recovery.{IsSound}
use Rattle.sccs_crash_points.specs.Unlocked.{KeepsOthers}
use Rattle.sccs_crash_points.proofs.FileNames.{early_left, no_z}
use Rattle.sccs_crash_points.proofs.Unlocked.{others_touched, others_wider}
use Rattle.sccs_crash_points.proofs.Joined.{numbered_now}
use Rattle.sccs_crash_points.proofs.Untouched.{same_before, sound_kept}
use Rattle.sccs_store.specs.Stops.{KeepsHeld}
use Rattle.sccs_store.proofs.WholeSteps.{ends_before}
use Rattle.sccs_group.proofs.Groups.{before_then}
use Rattle.sccs_group_command.specs.declared.entries.GroupEntry.{GroupEntry}
use Rattle.sccs_group_command.specs.GroupStep.{names_of}
use Rattle.sccs_group_command.specs.Preparing.{AreDifferent, ArePlain, Between, IsFreeSound, IsNamed, LosesNothing}
use Rattle.sccs_group_command.specs.Preparing.{LosesOfSound, is_among, made_names}
use Rattle.sccs_group_command.specs.declared.prepared_entries.PreparedEntry.{PreparedEntry}
use Rattle.sccs_group_command.proofs.Apart.{outside_any}
use Rattle.sccs_group_command.proofs.SoFars.{AreHeld, SoFar, different_at, held_sfiles, plain_at}

-- ---- the view at the end of calls that lose nothing

keeps_now : (v : View) (m : Model) (past : List Model) (b : Told) → (ends : EndsBefore v m past b)
    → KeepsPairs v (view_of (newest ends.0.added m))
keeps_now v m past b ends = numbered_now (λ i m2. Allows (KeepsPairs v) m2) 0 ends.0.added m 0 ends.0.numbers
    (view_of (newest ends.0.added m)) (view_image (newest ends.0.added m))

pub one_model : (t : Told) (m m2 : Model) (past past2 : List Model) → t ≡ Tells m past → t ≡ Tells m2 past2 → m ≡ m2
one_model t m m2 past past2 a b = let same : Tells m past ≡ Tells m2 past2 = sym a ∙ b in cc

pub keeps_at : (v : View) (m m1 : Model) (past past1 : List Model) (b : Told) → EndsBefore v m past b
    → b ≡ Tells m1 past1 → KeepsPairs v (view_of m1)
keeps_at v m m1 past past1 b ends is = subst (λ (x : Model). KeepsPairs v (view_of x))
    (one_model b (newest ends.0.added m) m1 (earlier ends.0.added m past) past1 ends.0.is is)
    (keeps_now v m past b ends)

sound_at : (n : List ℕ) (v : View) (m m1 : Model) (past past1 : List Model) (b : Told) → IsSFileName n
    → EndsBefore v m past b → b ≡ Tells m1 past1 → IsSound n v → IsSound n (view_of m1)
sound_at n v m m1 past past1 b sfile ends is sound = let keeps = keeps_at v m m1 past past1 b ends is in
    sound_kept n v (view_of m1) sound keeps.intent (keeps.pairs n sfile)

-- ---- one name

pub same_loses : (names : List (List ℕ)) (a b : Told) → b ≡ a → LosesNothing names a b
same_loses names a b same = λ m past is calm sound. same_before m past b calm (same ∙ is)

-- left files are among those that a step changes before its commit
left_early : (n : List ℕ) (a b : Told) → TouchesOnly (is_left n) a b → KeepsOthers (is_early n) a b
left_early n a b touches = others_wider (is_left n) (is_early n) a b (early_left n)
    (others_touched (is_left n) a b touches)

failed_before : (n : List ℕ) (a b : Told) (m : Model) (past : List Model) (z : Option Content)
    → view_of m (z_file n) ≡ z → IsSFileName n → TouchesOnly (bytes_eq (z_file n)) a b → KeepsHeld n a b
    → a ≡ Tells m past → IsCalm m → (view_of m (z_file n) ≡ None → IsSound n (view_of m))
    → EndsBefore (view_of m) m past b
failed_before n a b m past None z sfile touches held is calm sound = ends_before n a b m past sfile is calm (sound z)
    (left_early n a b (only_wider (bytes_eq (z_file n)) (is_left n) a b (no_z n) touches))
failed_before n a b m past (Some c) z sfile touches held is calm sound = held m past is calm (ap is_some z)

pub failed_loses : (n : List ℕ) (a b : Told) → IsNamed n → TouchesOnly (bytes_eq (z_file n)) a b → KeepsHeld n a b
    → LosesNothing (n ∷ []) a b
failed_loses n a b named touches held = λ m past is calm sound. failed_before n a b m past (view_of m (z_file n)) refl
    named.1 touches held is calm (sound.0 named)

-- a name that wasn't locked
pub free_loses : (n : List ℕ) (a b : Told) → IsNamed n → IfSome (seen a) (λ (v : View). v (z_file n) ≡ None)
    → TouchesOnly (is_left n) a b → LosesNothing (n ∷ []) a b
free_loses n a b named free touches = λ m past is calm sound.
    ends_before n a b m past named.1 is calm
    (sound.0 named (subst (λ (t : Told). IfSome (seen t) (λ (v : View). v (z_file n) ≡ None)) is free))
    (left_early n a b touches)

-- ---- names that are given up

abbrev pub ArePicked : List PreparedEntry → List ℕ → Type 0
ArePicked made n = (v : View) → AllByRecursion (λ (k : List ℕ). IsSound k v) (made_names made) → IsSound n v

pub picked_at : (made : List PreparedEntry) (i : ℕ) (x : PreparedEntry) (rest : List PreparedEntry)
    → drop i made ≡ x ∷ rest → ArePicked made x.name
picked_at [] zero x rest is = absurd (cc)
picked_at [] (suc i) x rest is = absurd (cc)
picked_at (a ∷ made) zero x rest is =
    λ v all. (subst (λ (l : List PreparedEntry). AllByRecursion (λ (k : List ℕ). IsSound k v) (made_names l)) is all).0
picked_at (a ∷ made) (suc i) x rest is = λ v all. picked_at made i x rest is v all.1

pub none_loses : (names : List (List ℕ)) (a : Told) → LosesOfSound names a a
none_loses names a = λ m past is calm sound. same_before m past a calm is

pub sound_next : (made : List PreparedEntry) (n : List ℕ) (a b d : Told) → ArePicked made n → IsSFileName n
    → LosesOfSound (made_names made) a b → TouchesOnly (is_left n) b d → LosesOfSound (made_names made) a d
sound_next made n a b d pick sfile first touches = λ m past is calm sound.
    let ends = first m past is calm sound in
    before_then b d m past ends (λ m1 past1 is1 calm1. ends_before n b d m1 past1 sfile is1 calm1
    (sound_at n (view_of m) m m1 past past1 b sfile ends is1 (pick (view_of m) sound)) (left_early n b d touches))

-- ---- entries in turn

abbrev pub IsFreeAt : View → List (List ℕ) → Type 0
IsFreeAt v names = AllByRecursion (IsFreeSound v) names

free_at : (es : List GroupEntry) (i : ℕ) (e : GroupEntry) (rest : List GroupEntry) (v : View) → drop i es ≡ e ∷ rest
    → IsFreeAt v (names_of es) → IsFreeSound v e.name
free_at [] zero e rest v is all = absurd (cc)
free_at [] (suc i) e rest v is all = absurd (cc)
free_at (a ∷ es) zero e rest v is all = (subst (λ (l : List GroupEntry). IsFreeAt v (names_of l)) is all).0
free_at (a ∷ es) (suc i) e rest v is all = free_at es i e rest v is all.1

-- what is told of a model
far_of : (stamp : Stamp) (entries : List GroupEntry) (i : ℕ) (made : List PreparedEntry) (a b : Told) (m m1 : Model)
    (past past1 : List Model) → a ≡ Tells m past → b ≡ Tells m1 past1 → Between (SoFar stamp entries i made) (seen a)
    (seen b)
    → SoFar stamp entries i made (view_of m) (view_of m1)
far_of stamp entries i made a b m m1 past past1 is is1 far =
    subst (λ (t : Told). Between (SoFar stamp entries i made) (Some (view_of m)) (seen t)) is1
    (subst (λ (t : Told). Between (SoFar stamp entries i made) (seen t) (seen b)) is far)

-- the next entry
pub loses_next : (stamp : Stamp) (entries : List GroupEntry) (i : ℕ) (made : List PreparedEntry) (e : GroupEntry)
    (a b d : Told) → AreDifferent (names_of entries) → ArePlain (names_of entries) → drop i entries ≡ e ∷ drop
    (i + 1) entries
    → Between (SoFar stamp entries i made) (seen a) (seen b) → LosesNothing (names_of entries) a b
    → LosesNothing (e.name ∷ []) b d → LosesNothing (names_of entries) a d
loses_next stamp entries i made e a b d different plain at far first next = λ m past is calm sound.
    let ends = first m past is calm sound in
    before_then b d m past ends (λ m1 past1 is1 calm1. next m1 past1 is1 calm1 (
      one m m1 past past1 is is1 ends sound,
      tt,
    ))
  where
    one : (m m1 : Model) (past past1 : List Model) → a ≡ Tells m past → b ≡ Tells m1 past1
        → EndsBefore (view_of m) m past b → IsFreeAt (view_of m) (names_of entries) → IsFreeSound (view_of m1) e.name
    one m m1 past past1 is is1 ends sound = λ named free.
        let so_far = far_of stamp entries i made a b m m1 past past1 is is1 far in
        let apart : is_among (made_names made) e.name ≡ false = subst (λ (names : List (List ℕ)). is_among names e.name
        ≡ false) (sym so_far.names_are) (different_at entries i e (drop (i + 1) entries) different at).0 in
        let z = so_far.view (z_file e.name) (outside_any (made_names made) e.name
        (held_sfiles (view_of m) (view_of m1) made so_far.held) named.1 apart
        (plain_at entries i e (drop (i + 1) entries) plain at).0).z in
        sound_at e.name (view_of m) m m1 past past1 b named.1 ends is1 (free_at entries i e (drop (i + 1) entries)
        (view_of m) at sound named (sym z ∙ free))

-- the names that are prepared were sound
pub held_sound : (made : List PreparedEntry) (u v : View) → AreHeld u v made → IsFreeAt u (made_names made)
    → AllByRecursion (λ (k : List ℕ). IsSound k u) (made_names made)
held_sound [] u v held free = tt
held_sound (x ∷ made) u v held free = (
  free.0 (held.0.name, held.0.sfile) held.0.free,
  held_sound made u v held.1
      free.1,
)

front_free : (es : List GroupEntry) (i : ℕ) (v : View) → IsFreeAt v (names_of es) → IsFreeAt v (names_of (take i es))
front_free [] zero v all = tt
front_free [] (suc i) v all = tt
front_free (a ∷ es) zero v all = tt
front_free (a ∷ es) (suc i) v all = (all.0, front_free es i v all.1)

pub all_sound_at : (names : List (List ℕ)) (v : View) (m m1 : Model) (past past1 : List Model) (b : Told)
    → AllByRecursion IsSFileName names → EndsBefore v m past b → b ≡ Tells m1 past1
    → AllByRecursion (λ (k : List ℕ). IsSound k v) names
    → AllByRecursion (λ (k : List ℕ). IsSound k (view_of m1)) names
all_sound_at [] v m m1 past past1 b sfiles ends is sound = tt
all_sound_at (n ∷ names) v m m1 past past1 b sfiles ends is sound = (
  sound_at n v m m1 past past1 b sfiles.0 ends is sound.0,
  all_sound_at names v m m1 past past1 b sfiles.1 ends is
      sound.1,
)

-- the entry failed, and those before it are given up
pub loses_back : (stamp : Stamp) (entries : List GroupEntry) (i : ℕ) (made : List PreparedEntry) (e : GroupEntry)
    (a b d f : Told) → AreDifferent (names_of entries) → ArePlain (names_of entries) → drop i entries ≡ e ∷ drop
    (i + 1) entries
    → Between (SoFar stamp entries i made) (seen a) (seen b) → LosesNothing (names_of entries) a b
    → LosesNothing (e.name ∷ []) b d → LosesOfSound (made_names made) d f → LosesNothing (names_of entries) a f
loses_back stamp entries i made e a b d f different plain at far first next last = λ m past is calm sound.
    let before = first m past is calm sound in
    let ends = loses_next stamp entries i made e a b d different plain at far first next m past is calm sound in
    let so_far = far_of stamp entries i made a b m (newest before.0.added m) past (earlier before.0.added m past) is
    before.0.is far in
    let sounds = held_sound made (view_of m) (view_of (newest before.0.added m)) so_far.held
    (subst (λ (names : List (List ℕ)). IsFreeAt (view_of m) names) (sym so_far.names_are)
    (front_free entries i (view_of m) sound)) in
    before_then d f m past ends (λ m1 past1 is1 calm1. last m1 past1 is1 calm1
    (all_sound_at (made_names made) (view_of m) m m1 past past1 d
    (held_sfiles (view_of m) (view_of (newest before.0.added m)) made so_far.held) ends is1 sounds))
