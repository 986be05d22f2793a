-- The named bytes and limits are those of the code, and compute.
use Rattle.std.proofs.Common.{◌≡◌, ℕ, ◌+◌, ◌^◌, ◌<◌, ◌≤◌, refl, arith}
use Rattle.sccs_base.specs.Constants.{soh, lf, blank, file_limit}
use Rattle.sccs_base.specs.declared.constants.TheConstants.{SOH, LF, BLANK, FILE_LIMIT}

bytes_are : (SOH ≡ soh) × (LF ≡ lf) × (BLANK ≡ blank)
bytes_are = (refl, refl, refl)

limit_is : (FILE_LIMIT ≡ file_limit) × (file_limit ≡ 2 ^ 30)
limit_is = (refl, refl)

limit_fits : (n : ℕ) → n ≤ file_limit → n + 1 < 2 ^ 31
limit_fits n low = omega arith
