-- How far the new files have come where the disk failed.
use Rattle.std.proofs.Common.{◌≡◌, ℕ, suc, Bool, false, List, [], ◌∷◌, drop, length, Option, None, Some, option_map}
use Rattle.std.proofs.Common.{Result, Ok, Err, inl, inr, refl, sym, ap, subst, ◌∙◌, ⊎_elim}
use Rattle.std.specs.Str.{bytes_eq}
use Rattle.sccs_base.specs.Name.{x_file, y_file, z_file}
use Rattle.sccs_base.specs.declared.streams.Failed.{Failed}
use Rattle.sccs_disk.specs.Calls.{Changes}
use Rattle.sccs_disk.specs.Effects.{syncing_names}
use Rattle.sccs_disk.specs.Files.{View}
use Rattle.sccs_disk.specs.Told.{Told, seen}
use Rattle.sccs_name_files.specs.StepFiles.{Moves}
use Rattle.sccs_intents.specs.Intents.{intent_file}
use Rattle.sccs_crash_points.specs.Recovery.{without_name}
use Rattle.sccs_store.specs.Commits.{Becomes, MayBecome}
use Rattle.sccs_store.proofs.Working.{becomes_as, becomes_both, moves_same, moves_then, moves_wider, without_moves}
use Rattle.sccs_group.specs.Halfway.{IsHalfway, PlacesFirst, PlacesPart, first_placed, is_left_of_group, is_lock_of}
use Rattle.sccs_group.specs.Halfway.{part_placed}
use Rattle.sccs_group.specs.Members.{each_by, g_gone, p_taken, placed, taken}
use Rattle.sccs_group.specs.declared.members.Member.{Member}
use Rattle.sccs_group.proofs.GroupFiles.{left_intent, left_lock, member_lock}
use Rattle.sccs_group.proofs.Found.{synced_view}

-- ---- one member

none_placed : (mem : Member) (a : Option View) → a ≡ option_map (part_placed 0 mem) a
none_placed mem None = refl
none_placed mem (Some v) = refl

two_placed : (mem : Member) (a b c : Option View) → Becomes (taken (x_file mem.entry.name) mem.entry.name) a b
    → Becomes (p_taken mem.entry.fate mem.entry.name) b c → Becomes (part_placed 2 mem) a c
two_placed mem a b c s p = becomes_both (taken (x_file mem.entry.name) mem.entry.name)
    (p_taken mem.entry.fate mem.entry.name) a b c s p

three_placed : (mem : Member) (a b c d : Option View) → Becomes (taken (x_file mem.entry.name) mem.entry.name) a b
    → Becomes (p_taken mem.entry.fate mem.entry.name) b c → Becomes (without_name (y_file mem.entry.name)) c d
    → Becomes (part_placed 3 mem) a d
three_placed mem a b c d s p y = becomes_both (part_placed 2 mem) (without_name (y_file mem.entry.name)) a c d
    (two_placed mem a b c s p) y

pub s_part : (mem : Member) (a b : Option View) → MayBecome (taken (x_file mem.entry.name) mem.entry.name) a b
    → PlacesPart mem a b
s_part mem a b (inl same) = (0, same ∙ none_placed mem a)
s_part mem a b (inr done) = (1, done)

pub p_part : (mem : Member) (a b c : Option View) → Becomes (taken (x_file mem.entry.name) mem.entry.name) a b
    → MayBecome (p_taken mem.entry.fate mem.entry.name) b c → PlacesPart mem a c
p_part mem a b c s (inl same) = (1, same ∙ s)
p_part mem a b c s (inr done) = (2, two_placed mem a b c s done)

pub y_part : (mem : Member) (a b c d : Option View) → Becomes (taken (x_file mem.entry.name) mem.entry.name) a b
    → Becomes (p_taken mem.entry.fate mem.entry.name) b c
    → MayBecome (without_name (y_file mem.entry.name)) c d → PlacesPart mem a d
y_part mem a b c d s p (inl same) = (2, same ∙ two_placed mem a b c s p)
y_part mem a b c d s p (inr done) = (3, three_placed mem a b c d s p done)

pub g_part : (mem : Member) (a b c d e : Option View) → Becomes (taken (x_file mem.entry.name) mem.entry.name) a b
    → Becomes (p_taken mem.entry.fate mem.entry.name) b c
    → Becomes (without_name (y_file mem.entry.name)) c d → MayBecome (g_gone mem.removes_g mem.entry.name) d e
    → PlacesPart mem a e
g_part mem a b c d e s p y (inl same) = (3, same ∙ three_placed mem a b c d s p y)
g_part mem a b c d e s p y (inr done) = (
  4,
  becomes_both (part_placed 3 mem) (g_gone mem.removes_g mem.entry.name) a d e
      (three_placed mem a b c d s p y) done,
)

-- ---- members, one after the other

part_first : (mem : Member) (rest : List Member) (a b : Option View) → PlacesPart mem a b → PlacesFirst (mem ∷ rest) a b
part_first mem rest a b (some, is) = (0, some, is)

turn_first : (mem : Member) (rest : List Member) (a b c : Option View) → Becomes (placed mem) a b → PlacesFirst rest b c
    → PlacesFirst (mem ∷ rest) a c
turn_first mem rest a b c first (whole, some, is) =
    (suc whole, some, becomes_both (placed mem) (first_placed whole some rest) a b c first is)

pub first_cut : (ms rest : List Member) (i : ℕ) (mem : Member) (start a b : Option View) → drop i ms ≡ mem ∷ rest
    → PlacesPart mem a b → ((o : Option View) → PlacesFirst (drop i ms) a o → PlacesFirst ms start o)
    → PlacesFirst ms start b
first_cut ms rest i mem start a b is part all = all b (subst (λ (l : List Member). PlacesFirst l a b) (sym is)
    (part_first mem rest a b part))

pub first_on : (ms rest : List Member) (i : ℕ) (mem : Member) (start a b : Option View) → drop i ms ≡ mem ∷ rest
    → Becomes (placed mem) a b → ((o : Option View) → PlacesFirst (drop i ms) a o → PlacesFirst ms start o)
    → (o : Option View) → PlacesFirst rest b o → PlacesFirst ms start o
first_on ms rest i mem start a b is becomes all = λ o next. all o (subst (λ (l : List Member). PlacesFirst l a o)
    (sym is) (turn_first mem rest a b o becomes next))

-- ---- but for some files

pub as_moves : (mine : List ℕ → Bool) (f : View → View) (a b : Option View) → Becomes f a b → Moves mine f a b
as_moves mine f None b is = is
as_moves mine f (Some v) b is = subst (λ (o : Option View). Moves mine f (Some v) o) (sym is) (λ k h. refl)

pub moves_on : (mine : List ℕ → Bool) (f : View → View) (a b c : Option View) → Moves mine f a b
    → Moves mine (λ v. v) b c → Moves mine f a c
moves_on mine f None None c first second = second
moves_on mine f None (Some v) c first second = cc
moves_on mine f (Some u) None c first second = absurd first
moves_on mine f (Some u) (Some v) None first second = absurd second
moves_on mine f (Some u) (Some v) (Some w) first second = λ k h. second k h ∙ first k h

pub still_moves : (mine : List ℕ → Bool) (a b : Option View) → b ≡ a → Moves mine (λ v. v) a b
still_moves mine a b same = subst (λ (o : Option View). Moves mine (λ v. v) a o) (sym same) (moves_same mine a)

pub may_moves : (mine : List ℕ → Bool) (n : List ℕ) (a b : Option View) → ((k : List ℕ) → mine k ≡ false
    → bytes_eq n k ≡ false) → MayBecome (without_name n) a b → Moves mine (λ v. v) a b
may_moves mine n a b within (inl same) = still_moves mine a b same
may_moves mine n a b within (inr done) = moves_wider (bytes_eq n) mine a b within (without_moves n a b done)

-- ---- z-files

pub lock_moves : (ms rest : List Member) (i : ℕ) (mem : Member) (start a b : Option View) → drop i ms ≡ mem ∷ rest
    → MayBecome (without_name (z_file mem.entry.name)) a b → Moves (is_lock_of ms) (λ v. v) start a
    → Moves (is_lock_of ms) (λ v. v) start b
lock_moves ms rest i mem start a b is may before = moves_then (is_lock_of ms) start a b before
    (may_moves (is_lock_of ms) (z_file mem.entry.name) a b (member_lock ms rest i mem is) may)

pub intent_moves : (ms : List Member) (k : List ℕ) (a b : Option View) → k ≡ intent_file
    → MayBecome (without_name k) a b → Moves (is_left_of_group ms) (λ v. v) a b
intent_moves ms k a b is may = may_moves (is_left_of_group ms) intent_file a b (left_intent ms)
    (subst (λ (l : List ℕ). MayBecome (without_name l) a b) is may)

pub locks_moves : (ms : List Member) (k : List ℕ) (a b c : Option View) → k ≡ intent_file → Becomes (without_name k) a b
    → Moves (is_lock_of ms) (λ v. v) b c → Moves (is_left_of_group ms) (λ v. v) a c
locks_moves ms k a b c is gone moves = moves_then (is_left_of_group ms) a b c (intent_moves ms k a b is (inr gone))
    (moves_wider (is_lock_of ms) (is_left_of_group ms) b c (left_lock ms) moves)

pub synced_seen : {T : Type 0} (a b : Told) (f f2 : ℕ) (r : Result T Failed) → Changes syncing_names a b f f2 r
    → seen b ≡ seen a
synced_seen a b f f2 (Ok x) call = call.done.view ∙ synced_view (seen a)
synced_seen a b f f2 (Err e) call = ⊎_elim (λ same. same) (λ made. made.3 ∙ (ap (λ (v : View). Some v) made.4
    ∙ sym made.2)) call.half.view

pub close_moves : {T : Type 0} (ms : List Member) (k : List ℕ) (a b c d : Told) (f f2 : ℕ) (r : Result T Failed)
    → k ≡ intent_file → Becomes (without_name k) (seen a) (seen b) → Moves (is_lock_of ms) (λ v. v) (seen b) (seen c)
    → Changes syncing_names c d f f2 r → Moves (is_left_of_group ms) (λ v. v) (seen a) (seen d)
close_moves ms k a b c d f f2 r is gone moves synced =
    moves_then (is_left_of_group ms) (seen a) (seen c) (seen d) (locks_moves ms k (seen a) (seen b)
    (seen c) is gone moves) (still_moves (is_left_of_group ms) (seen c) (seen d) (synced_seen c d f f2 r synced))

-- ---- a group is completed

pub first_halfway : (ms : List Member) (a b : Option View) → PlacesFirst ms a b → IsHalfway ms a b
first_halfway ms a b (whole, some, is) = (
  whole,
  some,
  as_moves (is_left_of_group ms) (first_placed whole some ms) a b
      is,
)

pub all_placed : (ms : List Member) (v : View) → first_placed (length ms) 0 ms v ≡ each_by placed ms v
all_placed [] v = refl
all_placed (mem ∷ ms) v = all_placed ms (placed mem v)

pub placed_halfway : (ms : List Member) (a b c : Option View) → Becomes (each_by placed ms) a b
    → Moves (is_left_of_group ms) (λ v. v) b c → IsHalfway ms a c
placed_halfway ms a b c is moves = (
  length ms,
  0,
  moves_on (is_left_of_group ms) (first_placed (length ms) 0 ms) a b c
      (as_moves (is_left_of_group ms) (first_placed (length ms) 0 ms) a b (becomes_as (each_by placed ms)
      (first_placed (length ms) 0 ms) a b (λ v. sym (all_placed ms v)) is)) moves,
)
