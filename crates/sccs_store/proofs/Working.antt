-- Calls that change working files, one after the other.
use Rattle.std.proofs.Common.{◌≡◌, ℕ, Bool, false, List, Option, None, Some, option_map, IfSome, IsSome, Result, Ok}
use Rattle.std.proofs.Common.{Err, OnOk, OnErr, refl, sym, ap, subst, ◌∙◌}
use Rattle.std.specs.Str.{bytes_eq}
use Rattle.sccs_disk.specs.Files.{Content, Model, View, put}
use Rattle.sccs_disk.specs.Effects.{KeepsMark, altered, empty_file, overwriting, overwritten, protected, syncing}
use Rattle.sccs_disk.specs.Told.{Told, seen}
use Rattle.sccs_disk.proofs.Puts.{put_again, put_other, put_same}
use Rattle.sccs_base.specs.declared.streams.Failed.{Failed}
use Rattle.sccs_disk.specs.Calls.{Changes, HasBytes, HasRange, IsThere, Writes}
use Rattle.sccs_disk.specs.Images.{IsFirm, IsOwn}
use Rattle.sccs_disk.specs.declared.disks.DiskRefusal.{DiskRefusal}
use Rattle.sccs_disk.specs.declared.disks.DiskRefusal.TheVariants as fault
use Rattle.sccs_writers.specs.OneFile.{OnlyWrites}
use Rattle.sccs_writers.proofs.OneFile.{only_done, only_half, only_same, only_sync_half, only_synced}
use Rattle.sccs_name_files.specs.StepFiles.{Moves, is_working}
use Rattle.sccs_name_files.specs.Touches.{Grew, Leaves, TellsSane, Touching, TouchesOnly, earlier, newest}
use Rattle.sccs_name_files.proofs.Touched.{grew_touching, only_then, only_wider, same_touching}
use Rattle.sccs_tokens.specs.Written.{five}
use Rattle.sccs_crash_points.proofs.Recovering.{cleared_other}
use Rattle.sccs_store.specs.Commits.{Becomes, with_sum_line}
use Rattle.sccs_crash_points.specs.Recovery.{cleared, without_name}

-- ---- results

pub ok_map : {T E P Q : Type 0} (r : Result T E) → (P → Q) → OnOk r P → OnOk r Q
ok_map (Ok x) f p = f p
ok_map (Err e) f p = tt

pub err_map : {T E P Q : Type 0} (r : Result T E) → (P → Q) → OnErr r P → OnErr r Q
err_map (Ok x) f p = tt
err_map (Err e) f p = f p

pub err_of : {T E P : Type 0} (r : Result T E) → P → OnErr r P
err_of (Ok x) p = tt
err_of (Err e) p = p

-- ---- stories

-- what a model has that is told in the end holds wherever it began
pub leaves_from : (P : Model → Type 0) (mine : List ℕ → Bool) (a b c : Told) → TouchesOnly mine a b → Leaves P b c
    → Leaves P a c
leaves_from P mine a b c touches leaves = λ m past is.
    let t : Touching mine m past b = touches m past is in
    leaves (newest t.added m) (earlier t.added m past) t.is

pub same_touches : (mine : List ℕ → Bool) (a b : Told) → b ≡ a → TouchesOnly mine a b
same_touches mine a b same = λ m past is. same_touching mine m past a b is same

pub touches_from : (mine : List ℕ → Bool) (a b c : Told) → b ≡ a → TouchesOnly mine b c → TouchesOnly mine a c
touches_from mine a b c same touches = subst (λ t. TouchesOnly mine t c) same touches

-- a file that is its name's own is written, and nothing else is touched
pub written_touches : (n : List ℕ) (mine : List ℕ → Bool) (a b d : Told) → TellsSane b → ((k : List ℕ) → mine k ≡ false
    → bytes_eq n k ≡ false) → TouchesOnly mine a b → Leaves (IsOwn n) a b → OnlyWrites n b d → TouchesOnly mine a d
written_touches n mine a b d sane within touches own only = λ m past is.
    only_then mine a b d touches
    (λ m2 past2 is2. only_wider (bytes_eq n) mine b d within (λ m3 past3 is3. grew_touching n m3 past3 d
    (sane m3 past3 is3) (own m past is m3 past3 is3) (only.story m3 past3 is3)) m2 past2 is2) m past is

-- ---- views

pub moves_same : (mine : List ℕ → Bool) (o : Option View) → Moves mine (λ v. v) o o
moves_same mine None = refl
moves_same mine (Some v) = λ k h. refl

pub moves_wider : (mine more : List ℕ → Bool) (o o2 : Option View) → ((k : List ℕ) → more k ≡ false → mine k ≡ false)
    → Moves mine (λ v. v) o o2 → Moves more (λ v. v) o o2
moves_wider mine more None o2 wider moves = moves
moves_wider mine more (Some v) None wider moves = moves
moves_wider mine more (Some v) (Some w) wider moves = λ k h. moves k (wider k h)

pub moves_then : (mine : List ℕ → Bool) (o o2 o3 : Option View) → Moves mine (λ v. v) o o2 → Moves mine (λ v. v) o2 o3
    → Moves mine (λ v. v) o o3
moves_then mine None None o3 first second = second
moves_then mine None (Some v) o3 first second = cc
moves_then mine (Some u) None o3 first second = absurd first
moves_then mine (Some u) (Some v) None first second = absurd second
moves_then mine (Some u) (Some v) (Some w) first second = λ k h. second k h ∙ first k h

-- a change of one's own files alone
pub becomes_moves : (mine : List ℕ → Bool) (f : View → View) (o o2 : Option View) → ((v : View) (k : List ℕ)
    → mine k ≡ false → f v k ≡ v k) → Becomes f o o2 → Moves mine (λ v. v) o o2
becomes_moves mine f None o2 own is = is
becomes_moves mine f (Some v) o2 own is = subst (λ (o : Option View). Moves mine (λ u. u) (Some v) o) (sym is)
    (λ k h. own v k h)

pub without_moves : (n : List ℕ) (o o2 : Option View) → Becomes (without_name n) o o2 → Moves (bytes_eq n) (λ v. v) o o2
without_moves n o o2 is = becomes_moves (bytes_eq n) (without_name n) o o2 (λ v k h. put_other v n k None h) is

pub cleared_moves : (n : List ℕ) (o o2 : Option View) → Becomes (cleared n) o o2 → Moves (is_working n) (λ v. v) o o2
cleared_moves n o o2 is = becomes_moves (is_working n) (cleared n) o o2 (cleared_other n) is

-- one change after another
pub becomes_both : (f g : View → View) (o o2 o3 : Option View) → Becomes f o o2 → Becomes g o2 o3
    → Becomes (λ v. g (f v)) o o3
becomes_both f g None o2 o3 first second = second ∙ ap (option_map g) first
becomes_both f g (Some v) o2 o3 first second = second ∙ ap (option_map g) first

pub becomes_as : (f g : View → View) (o o2 : Option View) → ((v : View) → f v ≡ g v) → Becomes f o o2 → Becomes g o o2
becomes_as f g None o2 same is = is
becomes_as f g (Some v) o2 same is = is ∙ ap (λ (u : View). Some u) (same v)

-- a file that is removed and made again
pub made_again : (n : List ℕ) (o o2 o3 : Option View) → Becomes (without_name n) o o2
    → Becomes (λ v. put v n (Some empty_file)) o2 o3 → Becomes (λ v. put v n (Some empty_file)) o o3
made_again n o o2 o3 first second =
    becomes_as (λ v. put (without_name n v) n (Some empty_file)) (λ v. put v n (Some empty_file)) o o3
    (λ v. put_again v n None (Some empty_file)) (becomes_both (without_name n) (λ v. put v n (Some empty_file)) o o2
    o3 first second)

-- ---- a file that is made

pub made_there : (n : List ℕ) (x : Content) (a b : Told) → Becomes (λ v. put v n (Some x)) (seen a) (seen b)
    → IsThere n b
made_there n x a b is = there (seen a) (seen b) is
  where
    there : (o o2 : Option View) → Becomes (λ v. put v n (Some x)) o o2 → IfSome o2 (λ (v : View). IsSome (v n))
    there None o2 is = subst (λ (o : Option View). IfSome o (λ (v : View). IsSome (v n))) (sym is) tt
    there (Some v) o2 is = subst (λ (o : Option View). IfSome o (λ (u : View). IsSome (u n))) (sym is)
        (subst IsSome (sym (put_same v n (Some x))) refl)

pub made_moves : (n : List ℕ) (x : Content) (o o2 : Option View) → Becomes (λ v. put v n (Some x)) o o2
    → Moves (bytes_eq n) (λ v. v) o o2
made_moves n x o o2 is = becomes_moves (bytes_eq n) (λ v. put v n (Some x)) o o2 (λ v k h. put_other v n k (Some x) h)
    is

-- ---- a file that is changed twice

two_changes : (f g : Content → Content) (o : Option Content) → option_map g (option_map f o) ≡ option_map
    (λ c. g (f c)) o
two_changes f g None = refl
two_changes f g (Some c) = refl

altered_twice : (n : List ℕ) (f g : Content → Content) (v : View) → altered n g (altered n f v) ≡ altered n
    (λ c. g (f c)) v
altered_twice n f g v =
    ap (λ (o : Option Content). put (altered n f v) n (option_map g o)) (put_same v n (option_map f (v n)))
    ∙ (put_again v n (option_map f (v n)) (option_map g (option_map f (v n))) ∙ ap (λ (o : Option Content). put v n o)
    (two_changes f g (v n)))

pub altered_both : (n : List ℕ) (f g : Content → Content) (o o2 o3 : Option View) → Becomes (altered n f) o o2
    → Becomes (altered n g) o2 o3 → Becomes (altered n (λ c. g (f c))) o o3
altered_both n f g o o2 o3 first second =
    becomes_as (λ v. altered n g (altered n f v)) (altered n (λ c. g (f c))) o o3 (altered_twice n f g)
    (becomes_both (altered n f) (altered n g) o o2 o3 first second)

-- a file that is made and then changed
pub altered_put : (n : List ℕ) (g : Content → Content) (c : Content) (v : View) → altered n g (put v n (Some c))
    ≡ put v n (Some (g c))
altered_put n g c v = ap (λ (o : Option Content). put (put v n (Some c)) n (option_map g o)) (put_same v n (Some c))
    ∙ put_again v n (Some c) (Some (g c))

pub made_and_changed : (n : List ℕ) (g : Content → Content) (c : Content) (o o2 o3 : Option View)
    → Becomes (λ v. put v n (Some c)) o o2 → Becomes (altered n g) o2 o3 → Becomes (λ v. put v n (Some (g c))) o o3
made_and_changed n g c o o2 o3 first second =
    becomes_as (λ v. altered n g (put v n (Some c))) (λ v. put v n (Some (g c))) o o3 (altered_put n g c)
    (becomes_both (λ v. put v n (Some c)) (altered n g) o o2 o3 first second)

-- the digits of a sum are written, and the file is protected
pub sum_written : (n digits : List ℕ) (sum : ℕ) (o o2 o3 : Option View) → digits ≡ five sum
    → Becomes (altered n (overwritten 2 digits)) o o2 → Becomes (altered n protected) o2 o3
    → Becomes (altered n (with_sum_line sum)) o o3
sum_written n digits sum o o2 o3 is first second =
    altered_both n (overwritten 2 (five sum)) protected o o2 o3 (subst (λ d. Becomes (altered n (overwritten 2 d)) o o2)
    is first) second

-- ---- calls that write one file

-- a sync, however it ends
pub sync_only : {T : Type 0} (n : List ℕ) (a b : Told) (f g : ℕ) (r : Result T Failed) → Changes (syncing n) a b f g r
    → OnlyWrites n a b
sync_only n a b f g (Ok done) changes = only_synced n a b changes.done
sync_only n a b f g (Err fault) changes = only_sync_half n a b changes.half

pub firm_after : (n : List ℕ) (a b c : Told) → OnlyWrites n a b → Leaves (IsFirm n) b c → Leaves (IsFirm n) a c
firm_after n a b c only leaves = λ m past is.
    let t : Grew n m past b = only.story m past is in
    leaves (newest t.added m) (earlier t.added m past) t.is

-- a write over bytes that are there, however it ends
pub write_only : {T : Type 0} (n : List ℕ) (from : ℕ) (bytes : List ℕ) (a b : Told) (f g : ℕ) (r : Result T DiskRefusal)
    → Writes (overwriting n from bytes) a b f g r → OnlyWrites n a b
write_only n from bytes a b f g (Ok done) writes = only_done n (overwritten from bytes) KeepsMark a b writes.done
write_only n from bytes a b f g (Err fault.Failed) writes = only_half n (overwritten from bytes) KeepsMark a b
    (writes.half refl)
write_only n from bytes a b f g (Err fault.Memory) writes = only_same n a b (writes.memory refl)

pub range_there : (n : List ℕ) (from count : ℕ) (t : Told) → HasRange n from count t → IsThere n t
range_there n from count t has = ranged (seen t) has
  where
    some : (o : Option Content) → HasBytes o from count → IsSome o
    some None h = absurd h
    some (Some c) h = refl

    ranged : (o : Option View) → IfSome o (λ (v : View). HasBytes (v n) from count)
        → IfSome o (λ (v : View). IsSome (v n))
    ranged None h = tt
    ranged (Some v) h = some (v n) h
