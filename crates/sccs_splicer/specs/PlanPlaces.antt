-- A place in a plan whose numbers rise: what stands before it names lines that were passed.
use Rattle.std.specs.Prelude.{ℕ, suc, ◌<◌, ◌==◌, Bool, false, List, Option, None, Some, take, drop, if◌then◌else◌}
use Rattle.std.specs.List.{AllByRecursion}
use Rattle.sccs_script_laws.specs.Plans.{places_of, RisesFrom}
use Rattle.sccs_script_laws.specs.declared.scripts.Plan.{Plan}

-- a plan, and how many lines of the base were passed
pub record Passed : Type 0 where
  pub plan : Plan
  pub line : ℕ

-- Of rising numbers those before a place are below a bound, and those behind it aren't.
pub record Stands (bound place : ℕ) (numbers : List ℕ) : Type 0 where
  pub before : AllByRecursion (λ m. m < bound) (take place numbers)
  pub behind : RisesFrom bound (drop place numbers)

-- the places in both lists of a plan
pub record StandsInPlan (p : Plan) (line deleted_at added_at : ℕ) : Type 0 where
  pub deleted : Stands (suc line) deleted_at p.deleted
  pub added : Stands line added_at (places_of p.added)

-- a number is the one that comes next
abbrev pub is_next : Option ℕ → ℕ → Bool
is_next None n = false
is_next (Some m) n = m == n

-- the place behind a number, where that comes next
abbrev pub next_place : Option ℕ → ℕ → ℕ → ℕ
next_place None place n = place
next_place (Some m) place n = if m == n then suc place else place
