-- The header of a new file keeps the rules.
use Rattle.std.proofs.Common.{◌≡◌, ℕ, Option, refl, sym, subst, arith}
use Rattle.std.specs.Prelude.{unwrap_or}
use Rattle.sccs_sid.specs.Sid.{IsComponent, IsSid}

pub first_sid_is : (release : Option ℕ) (r : ℕ) → r ≡ unwrap_or release 1 → IsComponent (unwrap_or release 1)
    → IsSid (record { release = r; level = 1; branch = 0; sequence = 0 })
first_sid_is release r is valid = record {
  release = subst IsComponent (sym is) valid;
  level = (omega arith, omega arith);
  branch = refl;
}
