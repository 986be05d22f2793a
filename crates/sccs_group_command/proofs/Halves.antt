-- Some first of the new files of a group are those of its steps, in the order of a commit.
use Rattle.std.proofs.Common.{◌≡◌, ℕ, zero, suc, Bool, false, cond, List, [], ◌∷◌, map, Option, None, Some, refl, sym}
use Rattle.std.proofs.Common.{ap, subst, ◌∙◌}
use Rattle.std.specs.Str.{bytes_eq}
use Rattle.sccs_base.specs.Name.{IsSFileName, p_file, x_file, y_file}
use Rattle.sccs_disk.specs.Files.{Content, View, put}
use Rattle.sccs_disk.specs.Told.{Shows}
use Rattle.sccs_disk.proofs.Puts.{put_other}
use Rattle.sccs_name_files.specs.StepFiles.{Alike, Files, Moves, is_left, l_file, moved}
use Rattle.sccs_intents.specs.Intents.{plan_file}
use Rattle.sccs_crash_points.specs.Recovery.{without_name}
use Rattle.sccs_crash_points.proofs.FileNames.{no_working, no_y, no_z}
use Rattle.sccs_steps.specs.FirstFiles.{first_moved}
use Rattle.sccs_steps.specs.StepLists.{NamedStep, first_moves}
use Rattle.sccs_store.specs.Commits.{Becomes, Plan, files_after, p_swapped, s_swapped}
use Rattle.sccs_store.proofs.Committed.{first_is, second_is}
use Rattle.sccs_store.proofs.Working.{moves_then, moves_wider, without_moves}
use Rattle.sccs_changes.specs.Changes.{IsReady, plan_of}
use Rattle.sccs_delta.specs.Writing.{IsDeltaPlan}
use Rattle.sccs_group.specs.Halfway.{IsHalfway, first_placed, is_left_of_group, is_lock_of, part_placed}
use Rattle.sccs_group.specs.Members.{p_taken, taken}
use Rattle.sccs_group.specs.Members as group
use Rattle.sccs_group.specs.declared.members.Member.{Member}
use Rattle.sccs_group_command.specs.GroupStep.{joint_step}
use Rattle.sccs_group_command.specs.LFiles.{files_with_l}
use Rattle.sccs_group_command.specs.Making.{IsHalfMade, PlacesSome, fate_of, is_group_left, member_of}
use Rattle.sccs_group_command.specs.Preparing.{AreAllPrepared, AreDifferent, ArePlain, files_in, is_any_left}
use Rattle.sccs_group_command.specs.Preparing.{made_names, steps_in}
use Rattle.sccs_group_command.specs.declared.prepared_entries.PreparedEntry.{PreparedEntry}
use Rattle.sccs_group_command.proofs.Apart.{l_alike, l_stays, placed_alike}
use Rattle.sccs_group_command.proofs.Completed.{all_elsewhere, all_then, moves_in, p_is_taken, placed_at, q_there}
use Rattle.sccs_group_command.proofs.Completed.{s_taken}
use Rattle.sccs_group_command.proofs.SoFars.{AreHeld, AreSame, all_held, files_in_same}
use Rattle.std.proofs.lemmas.Bool.{or_from}
use Rattle.sccs_base.proofs.Bools.{right_false, left_false}

-- ---- one member

-- the files that are new after so many calls
abbrev count_of : ℕ → ℕ
count_of zero = 0
count_of (suc zero) = 2
count_of (suc (suc zero)) = 3
count_of (suc (suc (suc zero))) = 3
count_of (suc (suc (suc (suc some)))) = 4

one_at : (x : PreparedEntry) (w : View) (k : List ℕ) → IsDeltaPlan x.prepared → IsReady x.name x.prepared (Shows w)
    → is_left x.name k ≡ false → part_placed 1 (member_of x) w k ≡ put w x.name
    (files_after x.name (plan_of x.prepared) w).s k
one_at x w k kind ready h = ap (λ (v : View). v k) (s_taken x.name w x.prepared.new_s kind.s ready.s)
    ∙ first_is x.name (plan_of x.prepared) w k (no_working x.name k h)

two_at : (x : PreparedEntry) (w : View) (k : List ℕ) → IsSFileName x.name → IsDeltaPlan x.prepared
    → IsReady x.name x.prepared (Shows w) → is_left x.name k ≡ false
    → part_placed 2 (member_of x) w k ≡ put (put w x.name (files_after x.name (plan_of x.prepared) w).s) (p_file x.name)
    (files_after x.name (plan_of x.prepared) w).p k
two_at x w k sfile kind ready h =
    let n : List ℕ = x.name in
    let c : Plan = plan_of x.prepared in
    let first : taken (x_file n) n w ≡ s_swapped n c w = s_taken n w x.prepared.new_s kind.s ready.s in
    let second : p_taken (fate_of x.prepared.new_p) n (s_swapped n c w) ≡ p_swapped n c (s_swapped n c w) =
    p_is_taken n (s_swapped n c w) x.prepared.new_p kind.renewed
    (q_there n w x.prepared.new_p c.s sfile ready.p_state) in
    ap (λ (v : View). v k) (ap (λ (v : View). p_taken (fate_of x.prepared.new_p) n v) first ∙ second)
    ∙ second_is n c w k sfile (no_working n k h)

-- s-file and p-file are put behind the l-file
behind_l : (x : PreparedEntry) (w : View) (k : List ℕ)
    → put (put w x.name (files_after x.name (plan_of x.prepared) w).s) (p_file x.name)
    (files_after x.name (plan_of x.prepared) w).p k ≡ first_moved 3 w x.name
    (Some (files_after x.name (plan_of x.prepared) w)) k
behind_l x w k =
    ap (λ (o : Option Content). cond (bytes_eq (p_file x.name) k) (files_after x.name (plan_of x.prepared) w).p
    (cond (bytes_eq x.name k) (files_after x.name (plan_of x.prepared) w).s o)) (sym (l_stays x.name w k))

part_at : (some : ℕ) (x : PreparedEntry) (w : View) (k : List ℕ) → IsSFileName x.name → IsDeltaPlan x.prepared
    → IsReady x.name x.prepared (Shows w) → is_left x.name k ≡ false
    → part_placed some (member_of x) w k ≡ first_moved (count_of some) w x.name
    (Some (files_after x.name (plan_of x.prepared) w)) k
part_at zero x w k sfile kind ready h = refl
part_at (suc zero) x w k sfile kind ready h =
    one_at x w k kind ready h ∙ ap (λ (o : Option Content). cond (bytes_eq x.name k)
    (files_after x.name (plan_of x.prepared) w).s o) (sym (l_stays x.name w k))
part_at (suc (suc zero)) x w k sfile kind ready h = two_at x w k sfile kind ready h ∙ behind_l x w k
part_at (suc (suc (suc zero))) x w k sfile kind ready h = put_other (part_placed 2 (member_of x) w)
    (y_file x.name) k None (no_y x.name k (no_working x.name k h)) ∙ (two_at x w k sfile kind ready h ∙ behind_l x w k)
part_at (suc (suc (suc (suc some)))) x w k sfile kind ready h = placed_at x w k sfile kind ready h

first_like : (i : ℕ) (n k : List ℕ) (f : Files) (u v : View) → v k ≡ u k
    → first_moved i v n (Some (files_with_l (v (l_file n)) f)) k ≡ first_moved i u n
    (Some (files_with_l (u (l_file n)) f)) k
first_like zero n k f u v same = same
first_like (suc zero) n k f u v same = l_alike n k u v same
first_like (suc (suc zero)) n k f u v same = ap (λ (o : Option Content). cond (bytes_eq n k) f.s o)
    (l_alike n k u v same)
first_like (suc (suc (suc zero))) n k f u v same = ap (λ (o : Option Content). cond (bytes_eq (p_file n) k) f.p
    (cond (bytes_eq n k) f.s o)) (l_alike n k u v same)
first_like (suc (suc (suc (suc i)))) n k f u v same = placed_alike n k u v f same

-- ---- all members

-- so it is but for some files
abbrev AgreesIn : (List ℕ → Bool) → ℕ → ℕ → ℕ → List PreparedEntry → View → View → View → Type 0
AgreesIn mine whole some i made v w w2 = (k : List ℕ) → mine k ≡ false → first_placed whole some (map member_of made) w
    k ≡ first_moves whole i w2 (moves_in v w2 made) k

each_first : (mine : List ℕ → Bool) (whole some : ℕ) (made : List PreparedEntry) (u v w w2 : View)
    → AreDifferent (made_names made) → ArePlain (made_names made) → AreHeld u w made → AreSame v w made
    → ((k : List ℕ) → mine k ≡ false → is_any_left (made_names made) k ≡ false) → ((k : List ℕ) → mine k ≡ false
    → w k ≡ w2 k) → AgreesIn mine whole some (count_of some) made v w w2
each_first mine whole some [] u v w w2 different plain held same parts agree = agree
each_first mine zero some (x ∷ made) u v w w2 different plain held same parts agree = λ k h.
    part_at some x w k held.0.sfile held.0.kind held.0.ready (left_false (is_left x.name k) _ (parts k h))
    ∙ (ap (λ (f : Files). first_moved (count_of some) w x.name (Some f) k) (files_in_same x v w w same.0)
    ∙ first_like (count_of some) x.name k (files_after x.name (plan_of x.prepared) v) w2 w (agree k h))
each_first mine (suc whole) some (x ∷ made) u v w w2 different plain held same parts agree =
    let after : AreSame w (group.placed (member_of x) w) made = all_elsewhere made x u w held.0 plain.0 different.0
    plain.1 held.1 in
    each_first mine whole some made u v (group.placed (member_of x) w) (moved w2 x.name (Some (files_in v w2 x)))
    different.1 plain.1 (all_held made u w (group.placed (member_of x) w) after held.1)
    (all_then made v w (group.placed (member_of x) w) same.1 after) (λ l free. right_false (is_left x.name l) _
    (parts l free)) (λ l free. one l free)
  where
    one : (l : List ℕ) → mine l ≡ false → group.placed (member_of x) w l ≡ moved w2 x.name (Some (files_in v w2 x)) l
    one l free =
        placed_at x w l held.0.sfile held.0.kind held.0.ready (left_false (is_left x.name l) _ (parts l free))
        ∙ (ap (λ (f : Files). moved w x.name (Some f) l) (files_in_same x v w w same.0) ∙ placed_alike x.name l w2 w
        (files_after x.name (plan_of x.prepared) v) (agree l free))

all_self : (made : List PreparedEntry) (v : View) → AreSame v v made
all_self [] v = tt
all_self (x ∷ made) v = (
  record { s = refl; p = refl; z = refl; g = refl; x = refl; q = refl; y = refl },
  all_self made v,
)

half_of : (made : List PreparedEntry) (names : List (List ℕ)) (u v w : View) (whole some : ℕ) → AreDifferent names
    → ArePlain names → AreAllPrepared u v names made → Alike (is_group_left (made_names made)) w
    (first_placed whole some (map member_of made) v)
    → IsHalfMade names (joint_step (steps_in v u made)) u w
half_of made names u v w whole some different plain all halfway =
    subst (λ (ns : List (List ℕ)). IsHalfMade ns (joint_step (steps_in v u made)) u w) all.names_are
    (record {
      whole = suc whole;
      some = count_of some;
      view = λ k h. halfway k h
          ∙ each_first (is_group_left (made_names made)) whole some made u v v u
          (subst AreDifferent (sym all.names_are) different) (subst ArePlain (sym all.names_are) plain) all.held
          (all_self made v)
          (λ l free. left_false (is_any_left (made_names made) l) _ free)
          (λ l free. alike l (left_false (is_any_left (made_names made) l) _ free)) k h;
    })
  where
    alike : Alike (is_any_left (made_names made)) v u
    alike = subst (λ (ns : List (List ℕ)). Alike (is_any_left ns) v u) (sym all.names_are) all.view

-- some first of the new files are in their places
pub half_made : (made : List PreparedEntry) (names : List (List ℕ)) (u v : View) (o : Option View) → AreDifferent names
    → ArePlain names → AreAllPrepared u v names made → PlacesSome (made_names made) (map member_of made) (Some v) o
    → (w : View) × (o ≡ Some w) × IsHalfMade names (joint_step (steps_in v u made)) u w
half_made made names u v None different plain all (whole, some, moves) = absurd moves
half_made made names u v (Some w) different plain all (whole, some, moves) =
    (w, refl, half_of made names u v w whole some different plain all moves)

-- ---- before any of them

pub none_made : (names : List (List ℕ)) (t : NamedStep) (u v : View) → Alike (is_any_left names) v u
    → IsHalfMade names t u v
none_made names t u v alike =
    record { whole = 0; some = 0; view = λ k h. alike k (left_false (is_any_left names k) _ h) }

none_placed : (mine : List ℕ → Bool) (ms : List Member) (a b : Option View) → Moves mine (λ v. v) a b
    → Moves mine (first_placed 0 0 ms) a b
none_placed mine [] a b moves = moves
none_placed mine (mem ∷ ms) a b moves = moves

-- names are given up, and the disk failed
pub broke_early : (names : List (List ℕ)) (ms : List Member) (a b : Option View) → Moves (is_any_left names)
    (λ v. v) a b → PlacesSome names ms a b
broke_early names ms a b moves = (
  0,
  0,
  none_placed (is_group_left names) ms a b (moves_wider (is_any_left names)
      (is_group_left names) a b (λ k h. left_false (is_any_left names k) _ h) moves),
)

-- and the plan was gone before
pub broke_behind : (names : List (List ℕ)) (ms : List Member) (a b d : Option View)
    → Becomes (without_name plan_file) a b → Moves (is_any_left names) (λ v. v) b d → PlacesSome names ms a d
broke_behind names ms a b d gone moves = (
  0,
  0,
  none_placed (is_group_left names) ms a d
      (moves_then (is_group_left names) a b d
      (moves_wider (bytes_eq plan_file) (is_group_left names) a b (λ k h. left_false (bytes_eq plan_file k) _
      (right_false (is_any_left names k) _ h)) (without_moves plan_file a b gone))
      (moves_wider (is_any_left names) (is_group_left names) b d (λ k h. left_false (is_any_left names k) _ h) moves)),
)

-- ---- in the commit

no_lock : (made : List PreparedEntry) (k : List ℕ) → is_any_left (made_names made) k ≡ false
    → is_lock_of (map member_of made) k ≡ false
no_lock [] k h = refl
no_lock (x ∷ made) k h = or_from _ _ (no_z x.name k (left_false (is_left x.name k) _ h))
    (no_lock made k (right_false (is_left x.name k) _ h))

within_left : (made : List PreparedEntry) (k : List ℕ) → is_group_left (made_names made) k ≡ false
    → is_left_of_group (map member_of made) k ≡ false
within_left made k h =
    let files = right_false (is_any_left (made_names made) k) _ h in
    or_from _ _ (left_false (bytes_eq plan_file k) _ files) (or_from _ _ (right_false (bytes_eq plan_file k) _ files)
    (no_lock made k (left_false (is_any_left (made_names made) k) _ h)))

wider_moves : (mine more : List ℕ → Bool) (f : View → View) (a b : Option View) → ((k : List ℕ) → more k ≡ false
    → mine k ≡ false) → Moves mine f a b → Moves more f a b
wider_moves mine more f None b within moves = moves
wider_moves mine more f (Some u) None within moves = absurd moves
wider_moves mine more f (Some u) (Some v) within moves = λ k h. moves k (within k h)

half_in : (made : List PreparedEntry) (a b : Option View) → IsHalfway (map member_of made) a b
    → PlacesSome (made_names made) (map member_of made) a b
half_in made a b (whole, some, moves) = (
  whole,
  some,
  wider_moves (is_left_of_group (map member_of made))
      (is_group_left (made_names made)) (first_placed whole some (map member_of made)) a b (within_left made) moves,
)

pub half_committed : (made : List PreparedEntry) (ms items : List Member) (a b : Option View) → items ≡ ms
    → ms ≡ map member_of made → IsHalfway items a b → PlacesSome (made_names made) ms a b
half_committed made ms items a b same is halfway =
    subst (λ (l : List Member). PlacesSome (made_names made) l a b) (sym is)
    (half_in made a b (subst (λ (l : List Member). IsHalfway l a b) (same ∙ is) halfway))
