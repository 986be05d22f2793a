-- What a commit makes of a view, change by change.
use Rattle.std.proofs.Common.{◌≡◌, ℕ, false, List, Option, None, Some, option_map, IfSome, IsSome, inl, inr, refl, sym}
use Rattle.std.proofs.Common.{subst, ◌∙◌}
use Rattle.std.specs.Str.{bytes_eq}
use Rattle.sccs_base.specs.Name.{z_file}
use Rattle.sccs_disk.specs.Calls.{IsThere}
use Rattle.sccs_disk.specs.Files.{View, put}
use Rattle.sccs_disk.specs.Told.{Told, seen}
use Rattle.sccs_disk.proofs.Puts.{put_other}
use Rattle.sccs_store.specs.Commits.{Becomes, IsPart, MayBecome, Needs, Plan, committed, g_swapped, p_swapped, part_of}
use Rattle.sccs_store.specs.Commits.{s_swapped, swapped}
use Rattle.sccs_crash_points.specs.Recovery.{without_name}
use Rattle.sccs_store.specs.declared.new_files.NewFile.{NewFile}
use Rattle.sccs_store.specs.declared.new_files.NewFile.TheVariants.{Keep, Replace, Remove}
use Rattle.sccs_store.proofs.Working.{becomes_both}

-- ---- other names

pub swapped_other : (new : NewFile) (from to : List ℕ) (v : View) (k : List ℕ) → bytes_eq from k ≡ false
    → bytes_eq to k ≡ false → swapped new from to v k ≡ v k
swapped_other Keep from to v k a b = refl
swapped_other Replace from to v k a b = put_other (put v from None) to k (v from) b ∙ put_other v from k None a
swapped_other Remove from to v k a b = put_other v to k None b

there_at : (f : View → View) (k : List ℕ) (o o2 : Option View) → ((v : View) → f v k ≡ v k) → Becomes f o o2
    → IfSome o (λ (v : View). IsSome (v k)) → IfSome o2 (λ (v : View). IsSome (v k))
there_at f k None o2 same is there = subst (λ (o : Option View). IfSome o (λ (v : View). IsSome (v k))) (sym is) tt
there_at f k (Some v) o2 same is there = subst (λ (o : Option View). IfSome o (λ (u : View). IsSome (u k))) (sym is)
    (subst IsSome (sym (same v)) there)

pub swapped_there : (new : NewFile) (from to k : List ℕ) (a b : Told) → bytes_eq from k ≡ false → bytes_eq to k ≡ false
    → Becomes (swapped new from to) (seen a) (seen b) → IsThere k a → IsThere k b
swapped_there new from to k a b x y is there = there_at (swapped new from to) k (seen a) (seen b)
    (λ v. swapped_other new from to v k x y) is there

-- what a later change needs is still there
pub swapped_needs : (new later : NewFile) (from to k l : List ℕ) (a b : Told) → bytes_eq from k ≡ false
    → bytes_eq to k ≡ false → bytes_eq from l ≡ false → bytes_eq to l ≡ false
    → Becomes (swapped new from to) (seen a) (seen b) → Needs later k l a → Needs later k l b
swapped_needs new Keep from to k l a b x y x2 y2 is needs = tt
swapped_needs new Replace from to k l a b x y x2 y2 is needs = swapped_there new from to k a b x y is needs
swapped_needs new Remove from to k l a b x y x2 y2 is needs = swapped_there new from to l a b x2 y2 is needs

-- ---- parts

none_made : (n : List ℕ) (c : Plan) (o : Option View) → o ≡ option_map (part_of n c 0) o
none_made n c None = refl
none_made n c (Some v) = refl

pub first_cut : (n : List ℕ) (c : Plan) (o o1 : Option View) → MayBecome (s_swapped n c) o o1 → IsPart n c o o1
first_cut n c o o1 (inl same) = (0, same ∙ none_made n c o)
first_cut n c o o1 (inr done) = (1, done)

pub second_cut : (n : List ℕ) (c : Plan) (o o1 o2 : Option View) → Becomes (s_swapped n c) o o1
    → MayBecome (p_swapped n c) o1 o2 → IsPart n c o o2
second_cut n c o o1 o2 first (inl same) = (1, same ∙ first)
second_cut n c o o1 o2 first (inr done) = (2, becomes_both (s_swapped n c) (p_swapped n c) o o1 o2 first done)

pub third_cut : (n : List ℕ) (c : Plan) (o o1 o2 o3 : Option View) → Becomes (s_swapped n c) o o1
    → Becomes (p_swapped n c) o1 o2 → MayBecome (g_swapped n c) o2 o3 → IsPart n c o o3
third_cut n c o o1 o2 o3 first second (inl same) =
    (2, same ∙ becomes_both (s_swapped n c) (p_swapped n c) o o1 o2 first second)
third_cut n c o o1 o2 o3 first second (inr done) = (
  3,
  becomes_both (λ v. p_swapped n c (s_swapped n c v)) (g_swapped n c) o o2 o3 (becomes_both (s_swapped n c)
      (p_swapped n c) o o1 o2 first second) done,
)

three : (n : List ℕ) (c : Plan) (o o1 o2 o3 : Option View) → Becomes (s_swapped n c) o o1
    → Becomes (p_swapped n c) o1 o2 → Becomes (g_swapped n c) o2 o3
    → Becomes (λ v. g_swapped n c (p_swapped n c (s_swapped n c v))) o o3
three n c o o1 o2 o3 first second third = becomes_both (λ v. p_swapped n c (s_swapped n c v)) (g_swapped n c) o o2 o3
    (becomes_both (s_swapped n c) (p_swapped n c) o o1 o2 first second) third

pub all_made : (n : List ℕ) (c : Plan) (o o1 o2 o3 o4 : Option View) → Becomes (s_swapped n c) o o1
    → Becomes (p_swapped n c) o1 o2 → Becomes (g_swapped n c) o2 o3 → Becomes (without_name (z_file n)) o3 o4
    → Becomes (committed n c) o o4
all_made n c o o1 o2 o3 o4 first second third last =
    becomes_both (λ v. g_swapped n c (p_swapped n c (s_swapped n c v))) (without_name (z_file n)) o o3 o4
    (three n c o o1 o2 o3 first second third) last

pub last_cut : (n : List ℕ) (c : Plan) (o o1 o2 o3 o4 : Option View) → Becomes (s_swapped n c) o o1
    → Becomes (p_swapped n c) o1 o2 → Becomes (g_swapped n c) o2 o3 → MayBecome (without_name (z_file n)) o3 o4
    → IsPart n c o o4
last_cut n c o o1 o2 o3 o4 first second third (inl same) = (3, same ∙ three n c o o1 o2 o3 first second third)
last_cut n c o o1 o2 o3 o4 first second third (inr done) = (4, all_made n c o o1 o2 o3 o4 first second third done)
