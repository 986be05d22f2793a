-- New files in their places, in views that are the same but for the plan, the intent and z-files.
use Rattle.std.proofs.Common.{◌≡◌, ◌⊎◌, ◌||◌, ℕ, zero, suc, Bool, true, false, cond, List, [], ◌∷◌, drop, Option, None}
use Rattle.std.proofs.Common.{Some, option_map, is_some, inl, inr, refl, sym, ap, subst, ◌∙◌}
use Rattle.std.specs.Str.{bytes_eq}
use Rattle.sccs_base.specs.Name.{p_file, q_file, x_file, y_file, z_file}
use Rattle.sccs_disk.specs.Calls.{Done, Half}
use Rattle.sccs_disk.specs.Effects.{renamed, renaming}
use Rattle.sccs_disk.specs.Files.{Content, View, put}
use Rattle.sccs_disk.specs.Told.{Told, seen}
use Rattle.sccs_disk.proofs.Puts.{put_other}
use Rattle.sccs_name_files.specs.StepFiles.{Alike, Moves}
use Rattle.sccs_intents.specs.Intents.{intent_file, plan_file}
use Rattle.sccs_intents.specs.declared.intents.Fate.{Fate}
use Rattle.sccs_intents.specs.declared.intents.Fate.TheVariants.{Replaced, Removed}
use Rattle.sccs_crash_points.specs.Recovery.{without_name}
use Rattle.sccs_store.specs.Commits.{Becomes}
use Rattle.sccs_store.proofs.Working.{becomes_moves, made_moves, moves_wider}
use Rattle.sccs_group.specs.Grouping.{file_of}
use Rattle.sccs_group.specs.Halfway.{IsHalfway, first_placed, is_left_of_group, is_lock_of, part_placed}
use Rattle.sccs_group.specs.Members.{g_gone, p_taken, placed, taken}
use Rattle.sccs_group.specs.declared.members.Member.{Member}
use Rattle.sccs_group.proofs.GroupFiles.{left_intent, left_plan}
use Rattle.sccs_group.proofs.Parts.{still_moves}
use Rattle.std.proofs.lemmas.Bool.{or_from}

-- ---- one change of both views

without_alike : (w : List ℕ → Bool) (n : List ℕ) (u v : View) → Alike w u v → Alike w (without_name n u)
    (without_name n v)
without_alike w n u v same = λ k h. ap (λ (x : Option Content). cond (bytes_eq n k) None x) (same k h)

renamed_alike : (w : List ℕ → Bool) (from to : List ℕ) (u v : View) → w from ≡ false → Alike w u v
    → Alike w (renamed from to u) (renamed from to v)
renamed_alike w from to u v off same = λ k h.
    ap (λ (x : Option Content). cond (bytes_eq to k) x (cond (bytes_eq from k) None (u k))) (same from off)
    ∙ ap (λ (x : Option Content). cond (bytes_eq to k) (v from) (cond (bytes_eq from k) None x)) (same k h)

taken_alike : (w : List ℕ → Bool) (from to : List ℕ) (u v : View) → w from ≡ false → Alike w u v
    → Alike w (taken from to u) (taken from to v)
taken_alike w from to u v off same = λ k h. ap (λ (b : Bool). cond b (renamed from to u) u k)
    (ap is_some (same from off)) ∙ by (is_some (v from)) k h
  where
    by : (b : Bool) (k : List ℕ) → w k ≡ false → cond b (renamed from to u) u k ≡ cond b (renamed from to v) v k
    by true k h = renamed_alike w from to u v off same k h
    by false k h = same k h

p_alike : (w : List ℕ → Bool) (fate : Fate) (n : List ℕ) (u v : View) → w (q_file n) ≡ false → Alike w u v
    → Alike w (p_taken fate n u) (p_taken fate n v)
p_alike w Replaced n u v off same = taken_alike w (q_file n) (p_file n) u v off same
p_alike w Removed n u v off same = without_alike w (p_file n) u v same

g_alike : (w : List ℕ → Bool) (removes : Bool) (n : List ℕ) (u v : View) → Alike w u v → Alike w (g_gone removes n u)
    (g_gone removes n v)
g_alike w true n u v same = without_alike w (drop 2 n) u v same
g_alike w false n u v same = same

-- ---- members

-- the new files of each name are none of those that are left out
abbrev pub Spares : (List ℕ → Bool) → Type 0
Spares w = (n : List ℕ) → (w (x_file n) ≡ false) × (w (q_file n) ≡ false)

two_alike : (w : List ℕ → Bool) (mem : Member) (u v : View) → Spares w → Alike w u v → Alike w (part_placed 2 mem u)
    (part_placed 2 mem v)
two_alike w mem u v spares same =
    p_alike w mem.entry.fate mem.entry.name (part_placed 1 mem u) (part_placed 1 mem v) (spares mem.entry.name).1
    (taken_alike w (x_file mem.entry.name) mem.entry.name u v (spares mem.entry.name).0 same)

three_alike : (w : List ℕ → Bool) (mem : Member) (u v : View) → Spares w → Alike w u v → Alike w (part_placed 3 mem u)
    (part_placed 3 mem v)
three_alike w mem u v spares same = without_alike w (y_file mem.entry.name) (part_placed 2 mem u) (part_placed 2 mem v)
    (two_alike w mem u v spares same)

placed_alike : (w : List ℕ → Bool) (mem : Member) (u v : View) → Spares w → Alike w u v
    → Alike w (placed mem u) (placed mem v)
placed_alike w mem u v spares same = g_alike w mem.removes_g mem.entry.name (part_placed 3 mem u) (part_placed 3 mem v)
    (three_alike w mem u v spares same)

part_alike : (w : List ℕ → Bool) (some : ℕ) (mem : Member) (u v : View) → Spares w → Alike w u v
    → Alike w (part_placed some mem u) (part_placed some mem v)
part_alike w zero mem u v spares same = same
part_alike w (suc zero) mem u v spares same = taken_alike w (x_file mem.entry.name) mem.entry.name u v
    (spares mem.entry.name).0 same
part_alike w (suc (suc zero)) mem u v spares same = two_alike w mem u v spares same
part_alike w (suc (suc (suc zero))) mem u v spares same = three_alike w mem u v spares same
part_alike w (suc (suc (suc (suc some)))) mem u v spares same = placed_alike w mem u v spares same

pub first_alike : (w : List ℕ → Bool) (whole some : ℕ) (ms : List Member) (u v : View) → Spares w → Alike w u v
    → Alike w (first_placed whole some ms u) (first_placed whole some ms v)
first_alike w whole some [] u v spares same = same
first_alike w zero some (mem ∷ ms) u v spares same = part_alike w some mem u v spares same
first_alike w (suc whole) some (mem ∷ ms) u v spares same = first_alike w whole some ms (placed mem u)
    (placed mem v) spares (placed_alike w mem u v spares same)

-- the files that a group leaves out are so
no_x_lock : (ms : List Member) (n : List ℕ) → is_lock_of ms (x_file n) ≡ false
no_x_lock [] n = refl
no_x_lock (mem ∷ ms) n = or_from (bytes_eq (z_file mem.entry.name) (x_file n)) (is_lock_of ms (x_file n)) refl
    (no_x_lock ms n)

no_q_lock : (ms : List Member) (n : List ℕ) → is_lock_of ms (q_file n) ≡ false
no_q_lock [] n = refl
no_q_lock (mem ∷ ms) n = or_from (bytes_eq (z_file mem.entry.name) (q_file n)) (is_lock_of ms (q_file n)) refl
    (no_q_lock ms n)

pub left_spares : (ms : List Member) → Spares (is_left_of_group ms)
left_spares ms n = (
  or_from (bytes_eq plan_file (x_file n)) (bytes_eq intent_file (x_file n) || is_lock_of ms (x_file n)) refl
      (or_from (bytes_eq intent_file (x_file n)) (is_lock_of ms (x_file n)) refl (no_x_lock ms n)),
  or_from (bytes_eq plan_file (q_file n)) (bytes_eq intent_file (q_file n) || is_lock_of ms (q_file n)) refl
      (or_from (bytes_eq intent_file (q_file n)) (is_lock_of ms (q_file n)) refl (no_q_lock ms n)),
)

-- ---- where the disk failed

moves_first : (w : List ℕ → Bool) (f : View → View) (a b c : Option View) → ((u v : View) → Alike w u v
    → Alike w (f u) (f v)) → Moves w (λ v. v) a b → Moves w f b c → Moves w f a c
moves_first w f None None c keeps first second = second
moves_first w f None (Some v) c keeps first second = cc
moves_first w f (Some u) None c keeps first second = absurd first
moves_first w f (Some u) (Some v) None keeps first second = absurd second
moves_first w f (Some u) (Some v) (Some x) keeps first second = λ k h. second k h ∙ keeps v u first k h

pub halfway_then : (ms : List Member) (a b c : Option View) → Moves (is_left_of_group ms) (λ v. v) a b
    → IsHalfway ms b c → IsHalfway ms a c
halfway_then ms a b c moves (whole, some, first) = (
  whole,
  some,
  moves_first (is_left_of_group ms) (first_placed whole some ms) a b c
      (λ u v same. first_alike (is_left_of_group ms) whole some ms u v (left_spares ms) same) moves first,
)

none_first : (ms : List Member) (a b : Option View) → Moves (is_left_of_group ms) (λ v. v) a b
    → Moves (is_left_of_group ms) (first_placed 0 0 ms) a b
none_first [] a b moves = moves
none_first (mem ∷ ms) a b moves = moves

-- nothing but the plan, the intent and z-files is changed
pub none_halfway : (ms : List Member) (a b : Option View) → Moves (is_left_of_group ms) (λ v. v) a b → IsHalfway ms a b
none_halfway ms a b moves = (0, 0, none_first ms a b moves)

-- ---- the plan

pub plan_moves : (ms : List Member) (k : List ℕ) (a b : Option View) → k ≡ plan_file → Moves (bytes_eq k) (λ v. v) a b
    → Moves (is_left_of_group ms) (λ v. v) a b
plan_moves ms k a b is moves = moves_wider (bytes_eq plan_file) (is_left_of_group ms) a b (left_plan ms)
    (subst (λ (l : List ℕ). Moves (bytes_eq l) (λ v. v) a b) is moves)

pub plan_halfway : (ms : List Member) (k : List ℕ) (a b : Option View) → k ≡ plan_file → Moves (bytes_eq k) (λ v. v) a b
    → IsHalfway ms a b
plan_halfway ms k a b is moves = none_halfway ms a b (plan_moves ms k a b is moves)

pub written_halfway : (ms : List Member) (k text : List ℕ) (a b c : Option View) → k ≡ plan_file
    → Becomes (λ (v : View). put v k (Some (file_of text))) a b → IsHalfway ms b c → IsHalfway ms a c
written_halfway ms k text a b c is written next =
    halfway_then ms a b c (plan_moves ms k a b is (made_moves k (file_of text) a b written)) next

-- ---- the plan becomes the intent

announced_moves : (ms : List Member) (k l : List ℕ) (a b : Option View) → k ≡ plan_file → l ≡ intent_file
    → Becomes (renamed k l) a b → Moves (is_left_of_group ms) (λ v. v) a b
announced_moves ms k l a b is is_intent becomes =
    becomes_moves (is_left_of_group ms) (renamed plan_file intent_file) a b
    (λ v j h. put_other (put v plan_file None) intent_file j (v plan_file) (left_intent ms j h)
    ∙ put_other v plan_file j None (left_plan ms j h))
    (subst (λ (x : List ℕ). Becomes (renamed plan_file x) a b) is_intent
    (subst (λ (x : List ℕ). Becomes (renamed x l) a b) is becomes))

pub announced_halfway : (ms : List Member) (k l : List ℕ) (a b : Told) (c : Option View) → k ≡ plan_file
    → l ≡ intent_file → Done (renaming k l) a b → IsHalfway ms (seen b) c → IsHalfway ms (seen a) c
announced_halfway ms k l a b c is is_intent done next = halfway_then ms (seen a) (seen b) c
    (announced_moves ms k l (seen a) (seen b) is is_intent done.view) next

half_moves : (w : List ℕ → Bool) (f : View → View) (a b : Option View) → (Becomes f a b → Moves w (λ v. v) a b)
    → (b ≡ a → Moves w (λ v. v) a b) → (b ≡ a) ⊎ ((v x : View) × (a ≡ Some v) × (b ≡ Some x) × (x ≡ f v))
    → Moves w (λ v. v) a b
half_moves w f a b made same (inl still) = same still
half_moves w f a b made same (inr (v, x, is, now, eq)) =
    made (now ∙ (ap (λ (y : View). Some y) eq ∙ sym (ap (option_map f) is)))

pub half_halfway : (ms : List Member) (k l : List ℕ) (a b : Told) → k ≡ plan_file → l ≡ intent_file
    → Half (renaming k l) a b → IsHalfway ms (seen a) (seen b)
half_halfway ms k l a b is is_intent half =
    none_halfway ms (seen a) (seen b)
    (half_moves (is_left_of_group ms) (renamed k l) (seen a) (seen b) (λ done. announced_moves ms k l (seen a)
    (seen b) is is_intent done) (λ same. still_moves (is_left_of_group ms) (seen a) (seen b) same) half.view)
