-- Counts of faults that rose.
use Rattle.std.proofs.Common.{ℕ, ◌≤◌, inl, inr, arith}
use Rattle.sccs_base.specs.Stream.{Rose}

pub rose_later : (a b c : ℕ) → a ≤ b → Rose b c → Rose a c
rose_later a b c later (inl higher) = inl (omega (arith, later, higher))
rose_later a b c later (inr full) = inr full

-- a count that was 0 and is 0
pub never_rose : Rose 0 0 → ⊥
never_rose (inl more) = omega (arith, more)
never_rose (inr last) = cc
