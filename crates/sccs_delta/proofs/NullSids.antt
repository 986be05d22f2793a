-- The SIDs of the null deltas of a new delta.
use Rattle.std.proofs.Common.{ℕ, zero, suc, ◌+◌, ◌-◌, ◌<◌, ◌≤◌, ◌==◌, Bool, true, false, not, ◌&&◌, List, [], refl}
use Rattle.std.proofs.Common.{arith}
use Rattle.std.specs.Prelude.{if◌then◌else◌}
use Rattle.std.specs.List.{AllByRecursion}
use Rattle.sccs_sid.specs.Sid.{IsSid}
use Rattle.sccs_sid.specs.declared.sids.Sid.{Sid}
use Rattle.sccs_flags.specs.FlagValues.{has_flag}
use Rattle.sccs_history.specs.FlagText.{flag_n}
use Rattle.sccs_history.specs.Numbers.{front_if}
use Rattle.sccs_history.specs.declared.headers.Header.{Header}
use Rattle.sccs_history.specs.declared.headers.Record.{Record}
use Rattle.sccs_delta.specs.DeltaStep.{first_in_release, is_used, skipped, unused_from}

first_sid : (release : ℕ) → 0 < release → release < 10000 → IsSid (first_in_release release)
first_sid release low high = record { release = (low, high); level = (omega arith, omega arith); branch = refl }

unused_sids : (records : List Record) (reserved : List Sid) (release count : ℕ) → 0 < release → release + count ≤ 10000
    → AllByRecursion IsSid (unused_from records reserved release count)
unused_sids records reserved release zero low high = tt
unused_sids records reserved release (suc count) low high =
    put (not (is_used records reserved release)) (first_sid release low (omega (arith, high)))
    (unused_sids records reserved (suc release) count (omega arith) (omega (arith, high)))
  where
    put : (t : Bool) → IsSid (first_in_release release) → AllByRecursion IsSid (unused_from records reserved
        (suc release) count) → AllByRecursion IsSid (front_if t (first_in_release release) (unused_from records reserved
        (suc release) count))
    put true here rest = (here, rest)
    put false here rest = rest

pub skipped_sids : (header : Header) (got made : Sid) (reserved : List Sid) → IsSid got → IsSid made
    → AllByRecursion IsSid (skipped header got made reserved)
skipped_sids header got made reserved is_got is_made =
    by (has_flag header.flags flag_n && (got.branch == 0 && made.branch == 0))
    (unused_sids header.records reserved (suc got.release) (made.release - suc got.release) (omega arith)
    (omega (arith, is_got.release.1, is_made.release.1)))
  where
    by : (t : Bool) → AllByRecursion IsSid (unused_from header.records reserved (suc got.release)
        (made.release - suc got.release))
        → AllByRecursion IsSid (if t then unused_from header.records reserved (suc got.release)
        (made.release - suc got.release) else [])
    by true are = are
    by false are = tt
