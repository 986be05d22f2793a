-- The sums of bytes, modulo 65,536.
use Rattle.std.specs.Prelude.{ℕ, ◌+◌, ◌%◌, List, nat_lt, sum, sum_by, if◌then◌else◌}

-- as a signed number a byte from 128 on counts 256 less, which is 65,280 more modulo 65,536
abbrev pub signed_weight : ℕ → ℕ
signed_weight b = if nat_lt b 128 then b else b + 65280

abbrev pub plain_sum : List ℕ → ℕ
plain_sum bytes = sum bytes % 65536

abbrev pub signed_sum : List ℕ → ℕ
signed_sum bytes = sum_by signed_weight bytes % 65536
