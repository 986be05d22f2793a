-- A group that is committed is what the steps of its entries make, file by file.
use Rattle.std.proofs.Common.{◌≡◌, ◌⊎◌, ℕ, Bool, true, false, ◌||◌, cond, List, [], ◌∷◌, drop, map, flat_map, Option}
use Rattle.std.proofs.Common.{None, Some, IsSome, inl, inr, refl, sym, ap, subst, ◌∙◌}
use Rattle.std.specs.Prelude.{is_some}
use Rattle.std.specs.List.{AllByRecursion}
use Rattle.std.specs.Str.{bytes_eq}
use Rattle.sccs_base.specs.Name.{IsSFileName, p_file, q_file, x_file, y_file, z_file}
use Rattle.sccs_base.proofs.SameBytes.{bytes_eq_sym}
use Rattle.sccs_disk.specs.Effects.{renamed}
use Rattle.sccs_disk.specs.Files.{Content, View, put}
use Rattle.sccs_disk.specs.Told.{Shows}
use Rattle.sccs_disk.proofs.Puts.{name_cases, put_other, put_same}
use Rattle.sccs_name_files.specs.StepFiles.{Alike, Files, is_left, is_working, moved, placed}
use Rattle.sccs_intents.specs.Intents.{intent_file, plan_file}
use Rattle.sccs_crash_points.specs.Recovery.{without_name}
use Rattle.sccs_crash_points.proofs.FileNames.{no_working, no_y, no_z, sfile_and_intent, to_s, to_sfile}
use Rattle.sccs_steps.specs.StepLists.{Move, all_moved, moves_of}
use Rattle.sccs_store.specs.Commits.{Needs, Plan, files_after, g_swapped, p_swapped, replaced, s_swapped, swapped}
use Rattle.sccs_store.specs.declared.new_files.NewFile.{NewFile}
use Rattle.sccs_store.specs.declared.new_files.NewFile.TheVariants.{Keep, Replace, Remove}
use Rattle.sccs_store.proofs.Committed.{committed_at}
use Rattle.sccs_store.proofs.Swaps.{swapped_other}
use Rattle.sccs_changes.specs.Changes.{IsReady, plan_of}
use Rattle.sccs_changes.specs.NewEntries.{IsRenewed, OnlyGoes}
use Rattle.sccs_delta.specs.Writing.{IsDeltaPlan}
use Rattle.sccs_group.specs.Members.{completed, each_by, entries_of, g_gone, p_taken, taken, unlocked}
use Rattle.sccs_group.specs.Grouping.{announced, file_of, planned}
use Rattle.sccs_intents.specs.Written.{intent_text}
use Rattle.sccs_group.specs.Members as group
use Rattle.sccs_group.specs.declared.members.Member.{Member}
use Rattle.sccs_group_command.specs.Preparing.{AreDifferent, ArePlain, IsHeldEntry, IsPlainName, is_among, files_in}
use Rattle.sccs_group_command.specs.Preparing.{is_any_left, is_any_working, made_names, steps_in}
use Rattle.sccs_group_command.specs.declared.prepared_entries.PreparedEntry.{PreparedEntry}
use Rattle.sccs_group_command.proofs.Apart.{IsOutside, SameFiles, begins_not, files_elsewhere, outside_intent}
use Rattle.sccs_group_command.proofs.Apart.{outside_one, placed_alike, placed_other, same_files, unkept_intent}
use Rattle.sccs_group_command.proofs.Apart.{unkept_z}
use Rattle.sccs_group_command.proofs.Backs.{z_free, z_or_not}
use Rattle.sccs_group_command.proofs.SoFars.{AreHeld, AreSame, all_held, files_in_same, held_sfiles}
use Rattle.sccs_group_command.specs.Making.{fate_of, is_group_working, member_of, removes}
use Rattle.std.proofs.lemmas.Bool.{or_from}
use Rattle.sccs_base.proofs.Bools.{right_false, left_false}

-- ---- the files of one member

pub some_is : (o : Option Content) → IsSome o → is_some o ≡ true
some_is None there = absurd (cc)
some_is (Some c) there = refl

taken_there : (from to : List ℕ) (w : View) → IsSome (w from) → taken from to w ≡ renamed from to w
taken_there from to w there = ap (λ (b : Bool). cond b (renamed from to w) w) (some_is (w from) there)

pub s_taken : (n : List ℕ) (w : View) (new : Bool) → new ≡ true → Needs (replaced new) (x_file n) n (Shows w)
    → taken (x_file n) n w ≡ swapped (replaced new) (x_file n) n w
s_taken n w true is needs = taken_there (x_file n) n w needs
s_taken n w false is needs = absurd (cc)

pub p_is_taken : (n : List ℕ) (w : View) (new : NewFile) → IsRenewed new → Needs new (q_file n) (p_file n) (Shows w)
    → p_taken (fate_of new) n w ≡ swapped new (q_file n) (p_file n) w
p_is_taken n w Keep renewed needs = absurd renewed
p_is_taken n w Replace renewed needs = taken_there (q_file n) (p_file n) w needs
p_is_taken n w Remove renewed needs = refl

g_is_gone : (n : List ℕ) (w : View) (new : NewFile) (k : List ℕ) → OnlyGoes new → bytes_eq (y_file n) k ≡ false
    → g_gone (removes new) n (without_name (y_file n) w) k ≡ swapped new (y_file n) (drop 2 n) w k
g_is_gone n w Keep k goes y = put_other w (y_file n) k None y
g_is_gone n w Replace k goes y = absurd goes
g_is_gone n w Remove k goes y = ap (λ (o : Option Content). cond (bytes_eq (drop 2 n) k) None o)
    (put_other w (y_file n) k None y)

-- the q-file is there still when the s-file is in its place
pub q_there : (n : List ℕ) (w : View) (new : NewFile) (c : NewFile) → IsSFileName n → Needs new (q_file n) (p_file n)
    (Shows w) → Needs new (q_file n) (p_file n) (Shows (swapped c (x_file n) n w))
q_there n w Keep c sfile needs = tt
q_there n w Replace c sfile needs = subst (λ (o : Option Content). IsSome o)
    (sym (swapped_other c (x_file n) n w (q_file n) refl (to_s 113 n sfile refl))) needs
q_there n w Remove c sfile needs = subst (λ (o : Option Content). IsSome o)
    (sym (swapped_other c (x_file n) n w (p_file n) refl (to_s 112 n sfile refl))) needs

-- the new files are in their places
pub placed_at : (x : PreparedEntry) (w : View) (k : List ℕ) → IsSFileName x.name → IsDeltaPlan x.prepared
    → IsReady x.name x.prepared (Shows w) → is_left x.name k ≡ false
    → group.placed (member_of x) w k ≡ placed w x.name (files_after x.name (plan_of x.prepared) w) k
placed_at x w k sfile kind ready h =
    let n : List ℕ = x.name in
    let c : Plan = plan_of x.prepared in
    let first : taken (x_file n) n w ≡ s_swapped n c w = s_taken n w x.prepared.new_s kind.s ready.s in
    let second : p_taken (fate_of x.prepared.new_p) n (s_swapped n c w) ≡ p_swapped n c (s_swapped n c w) =
    p_is_taken n (s_swapped n c w) x.prepared.new_p kind.renewed
    (q_there n w x.prepared.new_p c.s sfile ready.p_state) in
    g_is_gone n (p_taken (fate_of x.prepared.new_p) n (taken (x_file n) n w)) x.prepared.new_g k kind.goes
    (no_y n k (no_working n k h))
    ∙ (ap (λ (v : View). swapped x.prepared.new_g (y_file n) (drop 2 n) v k)
    (ap (λ (v : View). p_taken (fate_of x.prepared.new_p) n v) first ∙ second)
    ∙ (sym (put_other (g_swapped n c (p_swapped n c (s_swapped n c w))) (z_file n) k None (no_z n k h))
    ∙ committed_at n c w w k sfile (no_working n k h) (λ l other. refl)))

-- ---- all members

-- a member's new files leave those of another name
member_elsewhere : (x : PreparedEntry) (u w : View) (n : List ℕ) → IsHeldEntry u w x.name x.prepared → IsSFileName n
    → bytes_eq x.name n ≡ false → IsPlainName x.name → IsPlainName n → SameFiles n w (group.placed (member_of x) w)
member_elsewhere x u w n held other apart plain plain2 =
    let out : IsOutside (is_left x.name) n = outside_one x.name n held.sfile other apart plain2 in
    let same : SameFiles n w (moved w x.name (Some (files_after x.name (plan_of x.prepared) w))) =
    files_elsewhere x.name n w (files_after x.name (plan_of x.prepared) w) refl held.sfile other apart plain
    plain2 in
    record {
      s = placed_at x w n held.sfile held.kind held.ready out.s ∙ same.s;
      p = placed_at x w (p_file n) held.sfile held.kind held.ready out.p ∙ same.p;
      z = placed_at x w (z_file n) held.sfile held.kind held.ready out.z ∙ same.z;
      g = placed_at x w (drop 2 n) held.sfile held.kind held.ready out.g ∙ same.g;
      x = placed_at x w (x_file n) held.sfile held.kind held.ready out.x ∙ same.x;
      q = placed_at x w (q_file n) held.sfile held.kind held.ready out.q ∙ same.q;
      y = placed_at x w (y_file n) held.sfile held.kind held.ready out.y ∙ same.y;
    }

same_then : (n : List ℕ) (a b c : View) → SameFiles n a b → SameFiles n b c → SameFiles n a c
same_then n a b c first next = record {
  s = next.s ∙ first.s;
  p = next.p ∙ first.p;
  z = next.z ∙ first.z;
  g = next.g ∙ first.g;
  x = next.x ∙ first.x;
  q = next.q ∙ first.q;
  y = next.y ∙ first.y;
}

pub all_then : (made : List PreparedEntry) (a b c : View) → AreSame a b made → AreSame b c made → AreSame a c made
all_then [] a b c first next = tt
all_then (x ∷ made) a b c first next = (same_then x.name a b c first.0 next.0, all_then made a b c first.1 next.1)

pub all_elsewhere : (made : List PreparedEntry) (x : PreparedEntry) (u w : View) → IsHeldEntry u w x.name x.prepared
    → IsPlainName x.name → is_among (made_names made) x.name ≡ false → ArePlain (made_names made) → AreHeld u w made
    → AreSame w (group.placed (member_of x) w) made
all_elsewhere [] x u w one plain apart plains held = tt
all_elsewhere (y ∷ made) x u w one plain apart plains held = (
  member_elsewhere x u w y.name one held.0.sfile (bytes_eq_sym x.name y.name ∙ left_false _ _ apart) plain plains.0,
  all_elsewhere made x u w one plain (right_false _ _ apart) plains.1 held.1,
)

-- all that their steps move
abbrev pub moves_in : View → View → List PreparedEntry → List Move
moves_in v t made = flat_map moves_of (steps_in v t made)

-- the new files of all are in their places
each_placed : (mine : List ℕ → Bool) (made : List PreparedEntry) (u v w w2 : View) → AreDifferent (made_names made)
    → ArePlain (made_names made) → AreHeld u w made → AreSame v w made
    → ((k : List ℕ) → mine k ≡ false → is_any_left (made_names made) k ≡ false) → ((k : List ℕ) → mine k ≡ false
    → w k ≡ w2 k)
    → (k : List ℕ) → mine k ≡ false → each_by group.placed (map member_of made) w k ≡ all_moved w2 (moves_in v w2 made)
    k
each_placed mine [] u v w w2 different plain held same parts agree k h = agree k h
each_placed mine (x ∷ made) u v w w2 different plain held same parts agree k h =
    let after : AreSame w (group.placed (member_of x) w) made = all_elsewhere made x u w held.0 plain.0 different.0
    plain.1 held.1 in
    each_placed mine made u v (group.placed (member_of x) w) (moved w2 x.name (Some (files_in v w2 x))) different.1
    plain.1 (all_held made u w (group.placed (member_of x) w) after held.1)
    (all_then made v w (group.placed (member_of x) w) same.1 after) (λ l free. right_false (is_left x.name l) _
    (parts l free)) (λ l free. one l free) k h
  where
    one : (l : List ℕ) → mine l ≡ false → group.placed (member_of x) w l ≡ moved w2 x.name (Some (files_in v w2 x)) l
    one l free =
        placed_at x w l held.0.sfile held.0.kind held.0.ready (left_false (is_left x.name l) _ (parts l free))
        ∙ (ap (λ (f : Files). placed w x.name f l) (files_in_same x v w w same.0) ∙ placed_alike x.name l w2 w
        (files_after x.name (plan_of x.prepared) v) (agree l free))

-- ---- the z-files, and the intent

unlocked_none : (made : List PreparedEntry) (v : View) (k : List ℕ) → v k ≡ None
    → each_by unlocked (map member_of made) v k ≡ None
unlocked_none [] v k none = none
unlocked_none (x ∷ made) v k none = unlocked_none made (without_name (z_file x.name) v) k
    (by (bytes_eq (z_file x.name) k))
  where
    by : (b : Bool) → cond b None (v k) ≡ None
    by true = refl
    by false = none

unlocked_kept : (made : List PreparedEntry) (v : View) (k : List ℕ) → is_any_left (made_names made) k ≡ false
    → each_by unlocked (map member_of made) v k ≡ v k
unlocked_kept [] v k h = refl
unlocked_kept (x ∷ made) v k h = unlocked_kept made (without_name (z_file x.name) v) k
    (right_false (is_left x.name k) _ h) ∙ put_other v (z_file x.name) k None
    (no_z x.name k (left_false (is_left x.name k) _ h))

-- the name whose z-file is a left file that is no working file
z_of : (made : List PreparedEntry) (u v : View) (k : List ℕ) → AreHeld u v made → is_any_left (made_names made) k ≡ true
    → is_any_working (made_names made) k ≡ false
    → (w : View) → ((n : List ℕ) × IsSFileName n × (z_file n ≡ k)) × (each_by unlocked (map member_of made) w k ≡ None)
z_of [] u v k held left free w = absurd (cc)
z_of (x ∷ made) u v k held left free w =
    by (z_or_not x.name k (left_false (is_working x.name k) _ free)) (λ later. z_of made u v k held.1 later
    (right_false (is_working x.name k) _ free) (without_name (z_file x.name) w))
  where
    later_one : (b c : Bool) → (b || c) ≡ true → b ≡ false → c ≡ true
    later_one true c is none = absurd (cc)
    later_one false c is none = is

    by : (z_file x.name ≡ k) ⊎ (is_left x.name k ≡ false)
        → (is_any_left (made_names made) k ≡ true → ((n : List ℕ) × IsSFileName n × (z_file n ≡ k))
        × (each_by unlocked (map member_of made) (without_name (z_file x.name) w) k ≡ None))
        → ((n : List ℕ) × IsSFileName n × (z_file n ≡ k)) × (each_by unlocked (map member_of (x ∷ made)) w k ≡ None)
    by (inl is) rest = (
      (x.name, held.0.sfile, is),
      unlocked_none made (without_name (z_file x.name) w) k
          (subst (λ (l : List ℕ). without_name (z_file x.name) w l ≡ None) is (put_same w (z_file x.name) None)),
    )
    by (inr out) rest = rest (later_one (is_left x.name k) _ left out)

-- a z-file that isn't there isn't made
z_placed : (n m : List ℕ) (w : View) (f : Files) → f.z ≡ None → IsSFileName n → IsSFileName m → IsPlainName n
    → w (z_file m) ≡ None → placed w n f (z_file m) ≡ None
z_placed n m w f free sfile other plain none =
    put_other (put (put (put w (z_file n) f.z) (drop 2 n) f.g) (p_file n) f.p) n (z_file m) f.s
    (to_sfile 122 n m sfile refl)
    ∙ (put_other (put (put w (z_file n) f.z) (drop 2 n) f.g) (p_file n) (z_file m) f.p refl
    ∙ (put_other (put w (z_file n) f.z) (drop 2 n) (z_file m) f.g (bytes_eq_sym (drop 2 n) (z_file m)
    ∙ begins_not 122 (drop 2 n) m (unkept_z (drop 2 n) plain.kept) other) ∙ by (bytes_eq (z_file n) (z_file m))))
  where
    by : (b : Bool) → cond b f.z (w (z_file m)) ≡ None
    by true = free
    by false = none

z_moved : (made : List PreparedEntry) (v w : View) (m : List ℕ) → AllByRecursion IsSFileName (made_names made)
    → ArePlain (made_names made) → IsSFileName m → w (z_file m) ≡ None → all_moved w (moves_in v w made) (z_file m)
    ≡ None
z_moved [] v w m sfiles plain other none = none
z_moved (x ∷ made) v w m sfiles plain other none =
    z_moved made v (placed w x.name (files_in v w x)) m sfiles.1 plain.1 other
    (z_placed x.name m w (files_in v w x) refl sfiles.0 other plain.0 none)

intent_moved : (made : List PreparedEntry) (v w : View) → AllByRecursion IsSFileName (made_names made)
    → ArePlain (made_names made) → all_moved w (moves_in v w made) intent_file ≡ w intent_file
intent_moved [] v w sfiles plain = refl
intent_moved (x ∷ made) v w sfiles plain =
    intent_moved made v (placed w x.name (files_in v w x)) sfiles.1 plain.1
    ∙ placed_other x.name intent_file w (Some (files_in v w x)) (sfile_and_intent x.name sfiles.0) refl refl
    (unkept_intent (drop 2 x.name) plain.0.kept) refl

-- ---- the whole

-- the plan has become the intent: other files are as they were
pub announced_other : (ms : List Member) (v : View) (k : List ℕ) → (bytes_eq plan_file k || bytes_eq intent_file k)
    ≡ false → announced ms v k ≡ v k
announced_other ms v k h =
    put_other (put (planned ms v) plan_file None) intent_file k (planned ms v plan_file)
    (right_false (bytes_eq plan_file k) _ h)
    ∙ (put_other (planned ms v) plan_file k None (left_false (bytes_eq plan_file k) _ h) ∙ put_other v plan_file k
    (Some (file_of (intent_text (entries_of ms)))) (left_false (bytes_eq plan_file k) _ h))

pub all_announced : (made : List PreparedEntry) (ms : List Member) (v : View) → AllByRecursion IsSFileName
    (made_names made) → ArePlain (made_names made) → AreSame v (announced ms v) made
all_announced [] ms v sfiles plain = tt
all_announced (x ∷ made) ms v sfiles plain = (
  same_files (λ k. bytes_eq plan_file k || bytes_eq intent_file k) x.name v (announced ms v)
      (outside_intent x.name sfiles.0 plain.0) (λ k h. announced_other ms v k h),
  all_announced made ms v sfiles.1
      plain.1,
)

-- working files and the plan apart, it is what the steps of the entries make
pub completed_at : (made : List PreparedEntry) (u v : View) → AreDifferent (made_names made)
    → ArePlain (made_names made) → AreHeld u v made → Alike (is_any_left (made_names made)) v u → u intent_file ≡ None
    → (k : List ℕ) → is_group_working (made_names made) k ≡ false → completed (map member_of made)
    (announced (map member_of made) v) k ≡ all_moved u (moves_in v u made) k
completed_at made u v different plain held alike none k h = by_intent (name_cases intent_file k)
  where
    by_left : (b : Bool) → is_any_left (made_names made) k ≡ b → bytes_eq intent_file k ≡ false
        → completed (map member_of made) (announced (map member_of made) v) k ≡ all_moved u (moves_in v u made) k
    by_left true left other =
        let one = z_of made u v k held left (left_false (is_any_working (made_names made) k) _ h)
        (without_name intent_file (each_by group.placed (map member_of made) (announced (map member_of made) v))) in
        one.1 ∙ sym (subst (λ (l : List ℕ). all_moved u (moves_in v u made) l ≡ None) one.0.2
        (z_moved made v u one.0.0 (held_sfiles u v made held) plain one.0.1 (ap u one.0.2 ∙ z_free made u v k held left
        (left_false (is_any_working (made_names made) k) _ h))))
    by_left false out other =
        unlocked_kept made (without_name intent_file (each_by group.placed (map member_of made)
        (announced (map member_of made) v))) k out
        ∙ (put_other (each_by group.placed (map member_of made) (announced (map member_of made) v)) intent_file k None
        other
        ∙ each_placed (λ l. is_any_left (made_names made) l || (bytes_eq plan_file l || bytes_eq intent_file l)) made u
        v (announced (map member_of made) v) u different plain
        (all_held made u v (announced (map member_of made) v) (all_announced made (map member_of made) v
        (held_sfiles u v made held) plain) held) (all_announced made (map member_of made) v
        (held_sfiles u v made held) plain)
        (λ l away. left_false (is_any_left (made_names made) l) _ away)
        (λ l away. announced_other (map member_of made) v l (right_false (is_any_left (made_names made) l) _ away)
        ∙ alike l (left_false (is_any_left (made_names made) l) _ away))
        k (or_from (is_any_left (made_names made) k) _ out (or_from (bytes_eq plan_file k) _
        (right_false (is_any_working (made_names made) k) _ h) other)))

    by_intent : (intent_file ≡ k) ⊎ (bytes_eq intent_file k ≡ false) → completed (map member_of made)
        (announced (map member_of made) v) k ≡ all_moved u (moves_in v u made) k
    by_intent (inl is) =
        subst (λ (l : List ℕ). completed (map member_of made) (announced (map member_of made) v) l ≡ all_moved u
        (moves_in v u made) l) is
        (unlocked_none made (without_name intent_file (each_by group.placed (map member_of made)
        (announced (map member_of made) v))) intent_file (put_same (each_by group.placed (map member_of made)
        (announced (map member_of made) v)) intent_file None)
        ∙ sym (intent_moved made v u (held_sfiles u v made held) plain ∙ none))
    by_intent (inr other) = by_left (is_any_left (made_names made) k) refl other
