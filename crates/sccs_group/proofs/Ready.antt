-- The new files of members, so far as they are in their places, are those of their steps.
use Rattle.std.proofs.Common.{◌≡◌, ◌⊎◌, ◌++◌, ℕ, Bool, true, false, cond, List, [], ◌∷◌, take, drop, length, Option}
use Rattle.std.proofs.Common.{None, Some, is_some, inl, inr, refl, sym, ap, subst, ◌∙◌}
use Rattle.std.proofs.lemmas.List.{take-append-drop}
use Rattle.std.specs.List.{AllByRecursion}
use Rattle.std.specs.Str.{bytes_eq}
use Rattle.sccs_base.specs.Name.{IsSFileName, p_file, q_file, x_file, y_file, z_file}
use Rattle.sccs_base.proofs.SameBytes.{bytes_eq_sym, other_bytes, same_bytes}
use Rattle.sccs_disk.specs.Effects.{renamed}
use Rattle.sccs_disk.specs.Files.{Content, View, put}
use Rattle.sccs_disk.proofs.Puts.{name_cases, put_back, put_other, put_same, same_name}
use Rattle.sccs_name_files.specs.StepFiles.{Alike, Files, l_file, moved}
use Rattle.sccs_intents.specs.Intents.{has_name, intent_file, plan_file}
use Rattle.sccs_intents.specs.declared.intents.Fate.{Fate}
use Rattle.sccs_intents.specs.declared.intents.Fate.TheVariants.{Replaced, Removed}
use Rattle.sccs_intents.proofs.Others.{differ}
use Rattle.sccs_crash_points.specs.Recovery.{Pair, fated, newer, without_name}
use Rattle.sccs_crash_points.proofs.FileNames.{from_g, kept_p, kept_s, no_q, no_working, no_x, no_y, no_z, s_and_g}
use Rattle.sccs_crash_points.proofs.FileNames.{to_s}
use Rattle.sccs_crash_points.proofs.Recovering.{newer_same, pair_same}
use Rattle.sccs_group.specs.Changes.{Change, IsPrepared, IsReady, LFileStays, LFilesStay, after_changes, members_in}
use Rattle.sccs_group.specs.Grouping.{announced, new_pair_of, planned}
use Rattle.sccs_group.specs.Halfway.{first_placed, is_left_of_group, is_lock_of, part_placed}
use Rattle.sccs_group.specs.Members.{AreMembers, closed, completed, each_by, entries_of, g_gone, p_taken, placed, taken}
use Rattle.sccs_group.specs.Members.{unlocked}
use Rattle.sccs_group.specs.declared.members.Member.{Member}
use Rattle.sccs_group.proofs.Alike.{first_alike, left_spares}
use Rattle.sccs_group.proofs.Closing.{placed_elsewhere, placed_other, p_other}
use Rattle.sccs_group.proofs.GroupFiles.{left_intent, left_lock, left_plan}
use Rattle.sccs_group.proofs.Harmless.{Same, fated_same}
use Rattle.sccs_group.proofs.Parts.{all_placed}
use Rattle.sccs_group.proofs.Placing.{taken_other}
use Rattle.sccs_base.proofs.Bools.{right_false, left_false}

-- ---- a file that takes another's place

taken_by_is : (from to : List ℕ) (v : View) (k : List ℕ) (o : Option Content) → bytes_eq from k ≡ false → v from ≡ o
    → cond (is_some o) (renamed from to v) v k ≡ put v to (newer o (v to)) k
taken_by_is from to v k None off is = sym (ap (λ (t : View). t k) (put_back v to))
taken_by_is from to v k (Some c) off is =
    ap (λ (x : Option Content). cond (bytes_eq to k) x (cond (bytes_eq from k) None (v k))) is
    ∙ ap (λ (b : Bool). cond (bytes_eq to k) (Some c) (cond b None (v k))) off

taken_is : (from to : List ℕ) (v : View) (k : List ℕ) → bytes_eq from k ≡ false → taken from to v k ≡ put v to
    (newer (v from) (v to)) k
taken_is from to v k off = taken_by_is from to v k (v from) off refl

p_taken_is : (fate : Fate) (n : List ℕ) (v : View) (k : List ℕ) → bytes_eq (q_file n) k ≡ false
    → p_taken fate n v k ≡ put v (p_file n) (fated fate (v (q_file n)) (v (p_file n))) k
p_taken_is Replaced n v k off = taken_is (q_file n) (p_file n) v k off
p_taken_is Removed n v k off = refl

-- ---- one member

off_x : (w : List ℕ → Bool) (v : View) (d : Change) (k : List ℕ) → IsReady w v d → w k ≡ false
    → bytes_eq (x_file d.member.entry.name) k ≡ false
off_x w v d k ready h = no_x d.member.entry.name k (no_working d.member.entry.name k (ready.left k h))

off_q : (w : List ℕ → Bool) (v : View) (d : Change) (k : List ℕ) → IsReady w v d → w k ≡ false
    → bytes_eq (q_file d.member.entry.name) k ≡ false
off_q w v d k ready h = no_q d.member.entry.name k (no_working d.member.entry.name k (ready.left k h))

off_y : (w : List ℕ → Bool) (v : View) (d : Change) (k : List ℕ) → IsReady w v d → w k ≡ false
    → bytes_eq (y_file d.member.entry.name) k ≡ false
off_y w v d k ready h = no_y d.member.entry.name k (no_working d.member.entry.name k (ready.left k h))

off_z : (w : List ℕ → Bool) (v : View) (d : Change) (k : List ℕ) → IsReady w v d → w k ≡ false
    → bytes_eq (z_file d.member.entry.name) k ≡ false
off_z w v d k ready h = no_z d.member.entry.name k (ready.left k h)

pub s_ready : (w : List ℕ → Bool) (d : Change) (v u : View) → IsReady w v d → Alike w v u
    → Alike w (part_placed 1 d.member v) (put u d.member.entry.name d.files.s)
s_ready w d v u ready same = λ k h.
    let n = d.member.entry.name in
    taken_is (x_file n) n v k (off_x w v d k ready h)
    ∙ (ap (λ (x : Pair). cond (bytes_eq n k) x.s (v k)) ready.prepared.pair
    ∙ ap (λ (x : Option Content). cond (bytes_eq n k) d.files.s x) (same k h))

p_ready_is : (d : Change) (v : View) → IsPrepared v d → fated d.member.entry.fate (part_placed 1 d.member v
    (q_file d.member.entry.name)) (part_placed 1 d.member v (p_file d.member.entry.name)) ≡ d.files.p
p_ready_is d v prepared =
    let n = d.member.entry.name in
    fated_same d.member.entry.fate (v (q_file n)) (part_placed 1 d.member v (q_file n)) (v (p_file n))
    (part_placed 1 d.member v (p_file n)) (taken_other (x_file n) n v (q_file n) refl
    (to_s 113 n prepared.sfile refl))
    (taken_other (x_file n) n v (p_file n) refl (to_s 112 n prepared.sfile refl))
    ∙ ap (λ (x : Pair). x.p) prepared.pair

pub p_ready : (w : List ℕ → Bool) (d : Change) (v u : View) → IsReady w v d → Alike w v u
    → Alike w (part_placed 2 d.member v) (put (put u d.member.entry.name d.files.s) (p_file d.member.entry.name)
    d.files.p)
p_ready w d v u ready same = λ k h.
    let n = d.member.entry.name in
    p_taken_is d.member.entry.fate n (part_placed 1 d.member v) k (off_q w v d k ready h)
    ∙ (ap (λ (x : Option Content). cond (bytes_eq (p_file n) k) x (part_placed 1 d.member v k))
    (p_ready_is d v ready.prepared)
    ∙ ap (λ (x : Option Content). cond (bytes_eq (p_file n) k) d.files.p x) (s_ready w d v u ready same k h))

pub y_ready : (w : List ℕ → Bool) (d : Change) (v u : View) → IsReady w v d → Alike w v u
    → Alike w (part_placed 3 d.member v) (put (put u d.member.entry.name d.files.s) (p_file d.member.entry.name)
    d.files.p)
y_ready w d v u ready same = λ k h. put_other (part_placed 2 d.member v) (y_file d.member.entry.name) k None
    (off_y w v d k ready h) ∙ p_ready w d v u ready same k h

-- ---- the g-file

abbrev NotBoth : Bool → Bool → Type 0
NotBoth a b = a ≡ true → b ≡ true → ⊥

swapped_puts : (a b : Bool) (s p x : Option Content) → NotBoth a b → cond b p (cond a s x) ≡ cond a s (cond b p x)
swapped_puts true true s p x apart = absurd (apart refl refl)
swapped_puts true false s p x apart = refl
swapped_puts false b s p x apart = refl

not_both : (b : Bool) → b ≡ true → b ≡ false → ⊥
not_both b is other = cc

s_or_p : (n k : List ℕ) → IsSFileName n → NotBoth (bytes_eq n k) (bytes_eq (p_file n) k)
s_or_p n k sfile s p = not_both (bytes_eq n (p_file n)) (subst (λ (l : List ℕ). bytes_eq n l ≡ true)
    (sym (same_name (p_file n) k p)) s) (to_s 112 n sfile refl)

-- where it isn't the g-file
elsewhere : (removes : Bool) (n : List ℕ) (v : View) (k : List ℕ) → bytes_eq (drop 2 n) k ≡ false
    → g_gone removes n v k ≡ v k
elsewhere true n v k off = put_other v (drop 2 n) k None off
elsewhere false n v k off = refl

moved_is : (n : List ℕ) (f : Files) (u : View) (k : List ℕ) → IsSFileName n → bytes_eq (drop 2 n) k ≡ false
    → bytes_eq (z_file n) k ≡ false → put u (l_file n) f.l k ≡ u k
    → put (put u n f.s) (p_file n) f.p k ≡ moved u n (Some f) k
moved_is n f u k sfile g z same =
    swapped_puts (bytes_eq n k) (bytes_eq (p_file n) k) f.s f.p (u k) (s_or_p n k sfile)
    ∙ ap (λ (x : Option Content). cond (bytes_eq n k) f.s (cond (bytes_eq (p_file n) k) f.p x))
    (sym (put_other (put (put u (l_file n) f.l) (z_file n) f.z) (drop 2 n) k f.g g
    ∙ (put_other (put u (l_file n) f.l) (z_file n) k f.z z ∙ same)))

-- the l-file stays
l_same : (w : List ℕ → Bool) (d : Change) (u : View) (k : List ℕ) → LFileStays w d u → w k ≡ false
    → put u (l_file d.member.entry.name) d.files.l k ≡ u k
l_same w d u k stays h = by (name_cases (l_file d.member.entry.name) k)
  where
    at_l : w (l_file d.member.entry.name) ≡ false → put u (l_file d.member.entry.name) d.files.l
        (l_file d.member.entry.name) ≡ u (l_file d.member.entry.name)
    at_l here = put_same u (l_file d.member.entry.name) d.files.l ∙ stays here

    by : (l_file d.member.entry.name ≡ k) ⊎ (bytes_eq (l_file d.member.entry.name) k ≡ false)
        → put u (l_file d.member.entry.name) d.files.l k ≡ u k
    by (inl e) = subst (λ (l : List ℕ). put u (l_file d.member.entry.name) d.files.l l ≡ u l) e
        (at_l (subst (λ (l : List ℕ). w l ≡ false) (sym e) h))
    by (inr off) = put_other u (l_file d.member.entry.name) k d.files.l off

-- where it is
g_there : (removes : Bool) (n : List ℕ) (v v3 : View) → v3 (drop 2 n) ≡ v (drop 2 n) → g_gone removes n v3 (drop 2 n)
    ≡ cond removes None (v (drop 2 n))
g_there true n v v3 same = put_same v3 (drop 2 n) None
g_there false n v v3 same = same

moved_g : (n : List ℕ) (f : Files) (u : View) → IsSFileName n → moved u n (Some f) (drop 2 n) ≡ f.g
moved_g n f u sfile =
    put_other (put (put (put (put u (l_file n) f.l) (z_file n) f.z) (drop 2 n) f.g) (p_file n) f.p) n (drop 2 n) f.s
    (s_and_g n sfile)
    ∙ (put_other (put (put (put u (l_file n) f.l) (z_file n) f.z) (drop 2 n) f.g) (p_file n) (drop 2 n) f.p
    (from_g 112 n sfile) ∙ put_same (put (put u (l_file n) f.l) (z_file n) f.z) (drop 2 n) f.g)

-- the calls before it leave it
three_left : (mem : Member) (v : View) → IsSFileName mem.entry.name → part_placed 3 mem v (drop 2 mem.entry.name) ≡ v
    (drop 2 mem.entry.name)
three_left mem v sfile =
    let n = mem.entry.name in
    put_other (part_placed 2 mem v) (y_file n) (drop 2 n) None (from_g 121 n sfile)
    ∙ (p_other mem.entry.fate n (part_placed 1 mem v) (drop 2 n) (from_g 113 n sfile) (from_g 112 n sfile)
    ∙ taken_other (x_file n) n v (drop 2 n) (from_g 120 n sfile) (s_and_g n sfile))

all_at_g : (w : List ℕ → Bool) (d : Change) (v u : View) → IsReady w v d → w (drop 2 d.member.entry.name) ≡ false
    → placed d.member v (drop 2 d.member.entry.name) ≡ moved u d.member.entry.name (Some d.files)
    (drop 2 d.member.entry.name)
all_at_g w d v u ready h =
    let n = d.member.entry.name in
    g_there d.member.removes_g n v (part_placed 3 d.member v) (three_left d.member v ready.prepared.sfile)
    ∙ (sym (ready.g h) ∙ sym (moved_g n d.files u ready.prepared.sfile))

pub all_ready : (w : List ℕ → Bool) (d : Change) (v u : View) → IsReady w v d → LFileStays w d u → Alike w v u
    → Alike w (placed d.member v) (moved u d.member.entry.name (Some d.files))
all_ready w d v u ready stays same = λ k h. by k h (name_cases (drop 2 d.member.entry.name) k)
  where
    by : (k : List ℕ) → w k ≡ false → (drop 2 d.member.entry.name ≡ k) ⊎ (bytes_eq (drop 2 d.member.entry.name) k
        ≡ false) → placed d.member v k ≡ moved u d.member.entry.name (Some d.files) k
    by k h (inl e) = subst (λ (l : List ℕ). placed d.member v l ≡ moved u d.member.entry.name (Some d.files) l) e
        (all_at_g w d v u ready (subst (λ (l : List ℕ). w l ≡ false) (sym e) h))
    by k h (inr off) =
        elsewhere d.member.removes_g d.member.entry.name (part_placed 3 d.member v) k off
        ∙ (y_ready w d v u ready same k h ∙ moved_is d.member.entry.name d.files u k ready.prepared.sfile off
        (off_z w v d k ready h) (l_same w d u k stays h))

-- ---- another member

g_files_differ : (n k : List ℕ) → IsSFileName n → IsSFileName k → bytes_eq n k ≡ false → bytes_eq (drop 2 n) (drop 2 k)
    ≡ false
g_files_differ n k sfile other apart =
    other_bytes (drop 2 n) (drop 2 k)
    (λ e. let same : n ≡ k = sym (take-append-drop 2 n)
    ∙ (ap (λ (l : List ℕ). l ++ drop 2 n) (sfile.front ∙ sym other.front) ∙ (ap (λ (l : List ℕ). take 2 k ++ l) e
    ∙ take-append-drop 2 k)) in
    let test : bytes_eq n k ≡ true = subst (λ (l : List ℕ). bytes_eq n l ≡ true) same (same_bytes n) in
    absurd (cc))

other_g : (w : List ℕ → Bool) (d other : Change) (v : View) → IsReady w v d → IsReady w v other
    → bytes_eq d.member.entry.name other.member.entry.name ≡ false → w (drop 2 other.member.entry.name) ≡ false
    → placed d.member v (drop 2 other.member.entry.name) ≡ v (drop 2 other.member.entry.name)
other_g w d other v ready later apart h =
    let n = d.member.entry.name in
    let g = drop 2 other.member.entry.name in
    placed_other d.member v g (off_x w v d g ready h)
    (differ g n (kept_s g n later.prepared.plain ready.prepared.sfile)) (off_q w v d g ready h)
    (differ g (p_file n) (kept_p g n later.prepared.plain ready.prepared.sfile))
    (off_y w v d g ready h) (λ removes. g_files_differ n other.member.entry.name ready.prepared.sfile
    later.prepared.sfile apart)

new_pair_same : (mem : Member) (v u : View) → Same mem.entry.name v u → new_pair_of mem u ≡ new_pair_of mem v
new_pair_same mem v u same =
    let n = mem.entry.name in
    pair_same _ _ _ _ (newer_same (u (x_file n)) (v (x_file n)) (u n) (v n) same.x same.s) (fated_same mem.entry.fate
    (v (q_file n)) (u (q_file n)) (v (p_file n)) (u (p_file n)) same.q same.p)

pub others_ready : (w : List ℕ → Bool) (d other : Change) (v : View) → IsReady w v d → IsReady w v other
    → bytes_eq d.member.entry.name other.member.entry.name ≡ false → IsReady w (placed d.member v) other
others_ready w d other v ready later apart =
    let same : Same other.member.entry.name v (placed d.member v) = placed_elsewhere d.member v other.member.entry.name
    ready.prepared.sfile (λ removes. ready.prepared.plain) later.prepared.sfile apart in
    record {
      left = later.left;
      prepared = record {
        sfile = later.prepared.sfile;
        plain = later.prepared.plain;
        pair =
            new_pair_same other.member v (placed d.member v) same ∙ later.prepared.pair;
        settled =
            later.prepared.settled;
      };
      g = λ h. later.g h ∙ ap (λ (x : Option Content). cond other.member.removes_g None x)
          (sym (other_g w d other v ready later apart h));
    }

-- ---- all of a group

rest_ready : (w : List ℕ → Bool) (d : Change) (changes : List Change) (v : View) → IsReady w v d
    → has_name (entries_of (members_in changes)) d.member.entry.name ≡ false → AllByRecursion (IsReady w v) changes
    → AllByRecursion (IsReady w (placed d.member v)) changes
rest_ready w d [] v ready alone rest = tt
rest_ready w d (other ∷ changes) v ready alone rest = (
  others_ready w d other v ready rest.0 (bytes_eq_sym d.member.entry.name other.member.entry.name
      ∙ left_false _ _ alone),
  rest_ready w d changes v ready (right_false _ _ alone) rest.1,
)

-- one member after the other
pub each_ready : (w : List ℕ → Bool) (changes : List Change) (v u : View) → AreMembers (members_in changes)
    → AllByRecursion (IsReady w v) changes → LFilesStay w changes u → Alike w v u
    → Alike w (each_by placed (members_in changes) v) (after_changes changes u)
each_ready w [] v u are ready stay same = same
each_ready w (d ∷ changes) v u are ready stay same =
    each_ready w changes (placed d.member v) (moved u d.member.entry.name (Some d.files)) are.1
    (rest_ready w d changes v ready.0 are.0.alone ready.1) stay.1 (all_ready w d v u ready.0 stay.0 same)

unlocked_alike : (w : List ℕ → Bool) (ms : List Member) (u : View) → ((k : List ℕ) → w k ≡ false
    → is_lock_of ms k ≡ false) → Alike w (each_by unlocked ms u) u
unlocked_alike w [] u off = λ k h. refl
unlocked_alike w (mem ∷ ms) u off = λ k h.
    unlocked_alike w ms (unlocked mem u) (λ j i. right_of mem ms j (off j i)) k h
    ∙ put_other u (z_file mem.entry.name) k None (left_false (bytes_eq (z_file mem.entry.name) k) (is_lock_of ms k)
    (off k h))
  where
    right_of : (mem : Member) (ms : List Member) (j : List ℕ) → is_lock_of (mem ∷ ms) j ≡ false
        → is_lock_of ms j ≡ false
    right_of mem ms j h = right_false (bytes_eq (z_file mem.entry.name) j) (is_lock_of ms j) h

closed_alike : (ms : List Member) (u : View) → Alike (is_left_of_group ms) (closed ms u) u
closed_alike ms u = λ k h. unlocked_alike (is_left_of_group ms) ms (without_name intent_file u) (left_lock ms) k h
    ∙ put_other u intent_file k None (left_intent ms k h)

announced_alike : (ms : List Member) (v : View) → Alike (is_left_of_group ms) (announced ms v) v
announced_alike ms v = λ k h.
    put_other (put (planned ms v) plan_file None) intent_file k (planned ms v plan_file) (left_intent ms k h)
    ∙ (put_other (planned ms v) plan_file k None (left_plan ms k h) ∙ put_other v plan_file k (planned ms v plan_file)
    (left_plan ms k h))

pub whole_placed : (ms : List Member) (v : View) → Alike (is_left_of_group ms) (completed ms (announced ms v))
    (first_placed (length ms) 0 ms v)
whole_placed ms v = λ k h.
    closed_alike ms (each_by placed ms (announced ms v)) k h
    ∙ (ap (λ (t : View). t k) (sym (all_placed ms (announced ms v))) ∙ first_alike (is_left_of_group ms)
    (length ms) 0 ms (announced ms v) v (left_spares ms) (announced_alike ms v) k h)
