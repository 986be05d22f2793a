-- A group that is committed leaves no working files of its own.
use Rattle.std.proofs.Common.{◌≡◌, ◌⊎◌, ◌||◌, ℕ, Bool, true, false, cond, List, [], ◌∷◌, drop, map, Option, None}
use Rattle.std.proofs.Common.{IsSome, inl, inr, refl, sym, ap, subst, ◌∙◌}
use Rattle.std.specs.Prelude.{is_some}
use Rattle.std.specs.List.{AllByRecursion}
use Rattle.std.specs.Str.{bytes_eq}
use Rattle.sccs_base.specs.Name.{IsSFileName, p_file, q_file, x_file, y_file, z_file}
use Rattle.sccs_disk.specs.Effects.{renamed}
use Rattle.sccs_disk.specs.Files.{Content, View, put}
use Rattle.sccs_disk.specs.Told.{Shows}
use Rattle.sccs_disk.proofs.Puts.{name_cases, put_other, put_same}
use Rattle.sccs_name_files.specs.StepFiles.{Alike, is_working}
use Rattle.sccs_intents.specs.Intents.{intent_file, plan_file}
use Rattle.sccs_intents.specs.declared.intents.Fate.{Fate}
use Rattle.sccs_intents.specs.declared.intents.Fate.TheVariants.{Replaced, Removed}
use Rattle.sccs_crash_points.specs.Recovery.{without_name}
use Rattle.sccs_crash_points.proofs.FileNames.{to_s, working_s, plan_and_sfile}
use Rattle.sccs_store.specs.Commits.{Needs, replaced}
use Rattle.sccs_store.specs.declared.new_files.NewFile.{NewFile}
use Rattle.sccs_store.specs.declared.new_files.NewFile.TheVariants.{Keep, Replace, Remove}
use Rattle.sccs_changes.specs.Changes.{IsTakenOrGone}
use Rattle.sccs_changes.specs.NewEntries.{IsRenewed}
use Rattle.sccs_group.specs.Members.{each_by, g_gone, p_taken, taken, unlocked}
use Rattle.sccs_group.specs.Members as group
use Rattle.sccs_group.specs.Grouping.{announced, planned}
use Rattle.sccs_group_command.specs.Making.{all_made, fate_of, is_group_working, member_of, removes}
use Rattle.sccs_group_command.specs.Preparing.{AreDifferent, ArePlain, IsHeldEntry, is_any_left, is_any_working}
use Rattle.sccs_group_command.specs.Preparing.{made_names}
use Rattle.sccs_group_command.specs.declared.prepared_entries.PreparedEntry.{PreparedEntry}
use Rattle.sccs_group_command.proofs.Completed.{all_announced, all_elsewhere, some_is}
use Rattle.sccs_group_command.proofs.SoFars.{AreHeld, all_held, held_sfiles}
use Rattle.std.proofs.lemmas.Bool.{or_from}

-- a file is gone, or as it was
abbrev Or : Option Content → Option Content → Type 0
Or o now = (now ≡ None) ⊎ (now ≡ o)

without_either : (n : List ℕ) (w : View) (k : List ℕ) (o : Option Content) → Or o (w k) → Or o (without_name n w k)
without_either n w k o either = by (bytes_eq n k)
  where
    by : (b : Bool) → Or o (cond b None (w k))
    by true = inl refl
    by false = either

taken_either : (from to : List ℕ) (w : View) (k : List ℕ) (o : Option Content) → bytes_eq to k ≡ false → Or o (w k)
    → Or o (taken from to w k)
taken_either from to w k o other either = by (is_some (w from))
  where
    by : (b : Bool) → Or o (cond b (renamed from to w) w k)
    by true = subst (λ (x : Option Content). Or o x) (sym (put_other (put w from None) to k (w from) other))
        (without_either from w k o either)
    by false = either

p_either : (fate : Fate) (n : List ℕ) (w : View) (k : List ℕ) (o : Option Content) → bytes_eq (p_file n) k ≡ false
    → Or o (w k) → Or o (p_taken fate n w k)
p_either Replaced n w k o other either = taken_either (q_file n) (p_file n) w k o other either
p_either Removed n w k o other either = without_either (p_file n) w k o either

g_either : (goes : Bool) (n : List ℕ) (w : View) (k : List ℕ) (o : Option Content) → Or o (w k)
    → Or o (g_gone goes n w k)
g_either true n w k o either = without_either (drop 2 n) w k o either
g_either false n w k o either = either

-- a member leaves it so
placed_either : (x : PreparedEntry) (w : View) (k : List ℕ) (o : Option Content) → bytes_eq x.name k ≡ false
    → bytes_eq (p_file x.name) k ≡ false → Or o (w k) → Or o (group.placed (member_of x) w k)
placed_either x w k o s p either =
    g_either (removes x.prepared.new_g) x.name (without_name (y_file x.name) (p_taken (fate_of x.prepared.new_p) x.name
    (taken (x_file x.name) x.name w))) k o (without_either (y_file x.name)
    (p_taken (fate_of x.prepared.new_p) x.name (taken (x_file x.name) x.name w)) k o
    (p_either (fate_of x.prepared.new_p) x.name (taken (x_file x.name) x.name w) k o p
    (taken_either (x_file x.name) x.name w k o s either)))

-- the x-file takes the place of the s-file
x_gone : (n : List ℕ) (w : View) (new : Bool) → IsSFileName n → new ≡ true → Needs (replaced new) (x_file n) n (Shows w)
    → taken (x_file n) n w (x_file n) ≡ None
x_gone n w true sfile is there =
    ap (λ (b : Bool). cond b (renamed (x_file n) n w) w (x_file n)) (some_is (w (x_file n)) there)
    ∙ (put_other (put w (x_file n) None) n (x_file n) (w (x_file n)) (to_s 120 n sfile refl)
    ∙ put_same w (x_file n) None)
x_gone n w false sfile is there = absurd (cc)

-- the q-file takes the place of the p-file, or is as it was
q_gone : (n : List ℕ) (w : View) (new : NewFile) (o : Option Content) → IsRenewed new
    → IsTakenOrGone new o (w (q_file n)) → Needs new (q_file n) (p_file n) (Shows w)
    → Or o (p_taken (fate_of new) n w (q_file n))
q_gone n w Keep o renewed cleared there = absurd renewed
q_gone n w Replace o renewed cleared there =
    inl (ap (λ (b : Bool). cond b (renamed (q_file n) (p_file n) w) w (q_file n)) (some_is (w (q_file n)) there)
    ∙ (put_other (put w (q_file n) None) (p_file n) (q_file n) (w (q_file n)) refl ∙ put_same w (q_file n) None))
q_gone n w Remove o renewed cleared there = without_either (p_file n) w (q_file n) o cleared

needs_moved : (n : List ℕ) (v w : View) (new : NewFile) → w (q_file n) ≡ v (q_file n) → w (p_file n) ≡ v (p_file n)
    → Needs new (q_file n) (p_file n) (Shows v) → Needs new (q_file n) (p_file n) (Shows w)
needs_moved n v w Keep q p needs = tt
needs_moved n v w Replace q p needs = subst (λ (o : Option Content). IsSome o) (sym q) needs
needs_moved n v w Remove q p needs = subst (λ (o : Option Content). IsSome o) (sym p) needs

taken_other : (from to : List ℕ) (w : View) (k : List ℕ) → bytes_eq from k ≡ false → bytes_eq to k ≡ false
    → taken from to w k ≡ w k
taken_other from to w k a b = by (is_some (w from))
  where
    by : (t : Bool) → cond t (renamed from to w) w k ≡ w k
    by true = put_other (put w from None) to k (w from) b ∙ put_other w from k None a
    by false = refl

-- its own working files
own_either : (x : PreparedEntry) (u w : View) (k : List ℕ) → IsHeldEntry u w x.name x.prepared
    → is_working x.name k ≡ true → Or (u k) (group.placed (member_of x) w k)
own_either x u w k held working = by (name_cases (x_file x.name) k) (name_cases (q_file x.name) k)
    (name_cases (y_file x.name) k)
  where
    none : (b c d : Bool) → b ≡ false → c ≡ false → d ≡ false → (b || (c || d)) ≡ true → ⊥
    none b c d x1 x2 x3 is = cc

    x_at : Or (u (x_file x.name)) (group.placed (member_of x) w (x_file x.name))
    x_at =
        g_either (removes x.prepared.new_g) x.name (without_name (y_file x.name)
        (p_taken (fate_of x.prepared.new_p) x.name (taken (x_file x.name) x.name w))) (x_file x.name)
        (u (x_file x.name)) (without_either (y_file x.name) (p_taken (fate_of x.prepared.new_p) x.name
        (taken (x_file x.name) x.name w)) (x_file x.name) (u (x_file x.name))
        (p_either (fate_of x.prepared.new_p) x.name (taken (x_file x.name) x.name w) (x_file x.name) (u (x_file x.name))
        refl (inl (x_gone x.name w x.prepared.new_s held.sfile held.kind.s held.ready.s))))

    q_at : Or (u (q_file x.name)) (group.placed (member_of x) w (q_file x.name))
    q_at =
        let q = taken_other (x_file x.name) x.name w (q_file x.name) refl (to_s 113 x.name held.sfile refl) in
        let p = taken_other (x_file x.name) x.name w (p_file x.name) refl (to_s 112 x.name held.sfile refl) in
        g_either (removes x.prepared.new_g) x.name (without_name (y_file x.name)
        (p_taken (fate_of x.prepared.new_p) x.name (taken (x_file x.name) x.name w))) (q_file x.name)
        (u (q_file x.name)) (without_either (y_file x.name) (p_taken (fate_of x.prepared.new_p) x.name
        (taken (x_file x.name) x.name w)) (q_file x.name) (u (q_file x.name))
        (q_gone x.name (taken (x_file x.name) x.name w) x.prepared.new_p (u (q_file x.name)) held.kind.renewed
        (subst (λ (o : Option Content). IsTakenOrGone x.prepared.new_p (u (q_file x.name)) o)
        (sym q) held.cleared.q)
        (needs_moved x.name w (taken (x_file x.name) x.name w) x.prepared.new_p q p held.ready.p_state)))

    y_at : Or (u (y_file x.name)) (group.placed (member_of x) w (y_file x.name))
    y_at = g_either (removes x.prepared.new_g) x.name (without_name (y_file x.name)
        (p_taken (fate_of x.prepared.new_p) x.name (taken (x_file x.name) x.name w))) (y_file x.name)
        (u (y_file x.name)) (inl (put_same (p_taken (fate_of x.prepared.new_p) x.name (taken (x_file x.name) x.name w))
        (y_file x.name) None))

    by : (x_file x.name ≡ k) ⊎ (bytes_eq (x_file x.name) k ≡ false) → (q_file x.name ≡ k)
        ⊎ (bytes_eq (q_file x.name) k ≡ false) → (y_file x.name ≡ k) ⊎ (bytes_eq (y_file x.name) k ≡ false)
        → Or (u k) (group.placed (member_of x) w k)
    by (inl is) q y = subst (λ (l : List ℕ). Or (u l) (group.placed (member_of x) w l)) is x_at
    by (inr no_x) (inl is) y = subst (λ (l : List ℕ). Or (u l) (group.placed (member_of x) w l)) is q_at
    by (inr no_x) (inr no_q) (inl is) = subst (λ (l : List ℕ). Or (u l) (group.placed (member_of x) w l)) is y_at
    by (inr no_x) (inr no_q) (inr no_y) = absurd (none (bytes_eq (x_file x.name) k) (bytes_eq (q_file x.name) k)
        (bytes_eq (y_file x.name) k) no_x no_q no_y working)

-- s-files and p-files of the names are none of these
abbrev IsNoPair : List ℕ → PreparedEntry → Type 0
IsNoPair k x = (bytes_eq x.name k ≡ false) × (bytes_eq (p_file x.name) k ≡ false)

each_either : (made : List PreparedEntry) (u w : View) (k : List ℕ) → AreDifferent (made_names made)
    → ArePlain (made_names made) → AreHeld u w made → AllByRecursion (IsNoPair k) made → Or (u k) (w k)
    ⊎ (is_any_working (made_names made) k ≡ true)
    → Or (u k) (each_by group.placed (map member_of made) w k)
each_either [] u w k different plain held pairs (inl either) = either
each_either [] u w k different plain held pairs (inr working) = absurd (cc)
each_either (x ∷ made) u w k different plain held pairs here =
    each_either made u (group.placed (member_of x) w) k different.1 plain.1
    (all_held made u w (group.placed (member_of x) w) (all_elsewhere made x u w held.0 plain.0 different.0 plain.1
    held.1) held.1) pairs.1 (next here)
  where
    later_one : (b c : Bool) → (b || c) ≡ true → b ≡ false → c ≡ true
    later_one true c is none = absurd (cc)
    later_one false c is none = is

    turn : (b : Bool) → is_working x.name k ≡ b → (is_working x.name k || is_any_working (made_names made) k) ≡ true
        → Or (u k) (group.placed (member_of x) w k) ⊎ (is_any_working (made_names made) k ≡ true)
    turn true is any = inl (own_either x u w k held.0 is)
    turn false is any = inr (later_one (is_working x.name k) _ any is)

    next : Or (u k) (w k) ⊎ (is_any_working (made_names (x ∷ made)) k ≡ true)
        → Or (u k) (group.placed (member_of x) w k) ⊎ (is_any_working (made_names made) k ≡ true)
    next (inl either) = inl (placed_either x w k (u k) pairs.0.0 pairs.0.1 either)
    next (inr any) = turn (is_working x.name k) refl any

closed_either : (made : List PreparedEntry) (w : View) (k : List ℕ) (o : Option Content) → Or o (w k)
    → Or o (each_by unlocked (map member_of made) w k)
closed_either [] w k o either = either
closed_either (x ∷ made) w k o either = closed_either made (without_name (z_file x.name) w) k o
    (without_either (z_file x.name) w k o either)

-- a working file is no s-file and no p-file
no_pairs : (made all : List PreparedEntry) (k : List ℕ) → AllByRecursion IsSFileName (made_names made)
    → is_group_working (made_names all) k ≡ true → AllByRecursion (IsNoPair k) made
no_pairs [] all k sfiles working = tt
no_pairs (x ∷ made) all k sfiles working = (
  (s_not (name_cases x.name k), p_not (name_cases (p_file x.name) k)),
  no_pairs made all k sfiles.1 working,
)
  where
    none_at : (ms : List PreparedEntry) (l : List ℕ) → ((y : List ℕ) → is_working y l ≡ false)
        → is_any_working (made_names ms) l ≡ false
    none_at [] l out = refl
    none_at (y ∷ ms) l out = or_from _ _ (out y.name) (none_at ms l out)

    never : (l : List ℕ) → ((y : List ℕ) → is_working y l ≡ false) → bytes_eq plan_file l ≡ false
        → is_group_working (made_names all) l ≡ true → ⊥
    never l out plan is = let free = or_from (is_any_working (made_names all) l) _ (none_at all l out) plan in cc

    s_not : (x.name ≡ k) ⊎ (bytes_eq x.name k ≡ false) → bytes_eq x.name k ≡ false
    s_not (inl is) = absurd (never x.name (λ y. working_s y x.name sfiles.0) (plan_and_sfile x.name sfiles.0)
        (subst (λ (l : List ℕ). is_group_working (made_names all) l ≡ true) (sym is) working))
    s_not (inr other) = other

    p_not : (p_file x.name ≡ k) ⊎ (bytes_eq (p_file x.name) k ≡ false) → bytes_eq (p_file x.name) k ≡ false
    p_not (inl is) = absurd (never (p_file x.name) (λ y. refl) refl
        (subst (λ (l : List ℕ). is_group_working (made_names all) l ≡ true) (sym is) working))
    p_not (inr other) = other

-- working files and the plan are gone, or as they were
pub made_clears : (made : List PreparedEntry) (u v : View) → AreDifferent (made_names made) → ArePlain (made_names made)
    → AreHeld u v made → Alike (is_any_left (made_names made)) v u → (k : List ℕ) → is_group_working (made_names made) k
    ≡ true
    → (all_made made v k ≡ None) ⊎ (all_made made v k ≡ u k)
made_clears made u v different plain held alike k working =
    closed_either made (without_name intent_file (each_by group.placed (map member_of made)
    (announced (map member_of made) v))) k (u k)
    (without_either intent_file (each_by group.placed (map member_of made) (announced (map member_of made) v)) k (u k)
    (each_either made u (announced (map member_of made) v) k different plain
    (all_held made u v (announced (map member_of made) v) (all_announced made (map member_of made) v
    (held_sfiles u v made held) plain) held)
    (no_pairs made made k (held_sfiles u v made held) working) (start (is_any_working (made_names made) k) refl
    (name_cases plan_file k))))
  where
    last_one : (b c : Bool) → (b || c) ≡ true → b ≡ false → c ≡ true
    last_one true c is none = absurd (cc)
    last_one false c is none = is

    start : (b : Bool) → is_any_working (made_names made) k ≡ b → (plan_file ≡ k) ⊎ (bytes_eq plan_file k ≡ false)
        → Or (u k) (announced (map member_of made) v k) ⊎ (is_any_working (made_names made) k ≡ true)
    start true is plan = inr is
    start false is (inl here) =
        inl (inl (subst (λ (l : List ℕ). announced (map member_of made) v l ≡ None) here
        (put_other (put (planned (map member_of made) v) plan_file None) intent_file plan_file
        (planned (map member_of made) v plan_file) refl ∙ put_same (planned (map member_of made) v) plan_file
        None)))
    start false is (inr other) = absurd (let plan = last_one (is_any_working (made_names made) k) _ working is in cc)
