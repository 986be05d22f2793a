-- The plain and the signed sum of bytes.
use Rattle.std.specs.Prelude.{◌≡◌, ℕ, ◌==◌, Bool, ◌||◌, List}
use Rattle.sccs_tokens.specs.Sums.{plain_sum, signed_sum}

abbrev pub IsSumOf : ℕ × ℕ → List ℕ → Type 0
IsSumOf sums bytes = (sums.0 ≡ plain_sum bytes) × (sums.1 ≡ signed_sum bytes)

-- the plain sum alone
abbrev pub IsPlainSumOf : ℕ → List ℕ → Type 0
IsPlainSumOf sum bytes = sum ≡ plain_sum bytes

-- whether a stored sum is the plain or the signed one
abbrev pub is_sum_of : ℕ → List ℕ → Bool
is_sum_of stored bytes = (stored == plain_sum bytes) || (stored == signed_sum bytes)
