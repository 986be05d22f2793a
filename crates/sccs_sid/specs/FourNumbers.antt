-- Keys of four numbers, under which SIDs stand in sets and maps.
use Rattle.std.specs.Prelude.{ℕ}
use Rattle.std.specs.Ordering.{nat_cmp, ordering_then}
use Rattle.std.specs.declared.cmp.Ordering.{Ordering}

-- the order of four numbers
abbrev pub four_cmp : ℕ × ℕ × ℕ × ℕ → ℕ × ℕ × ℕ × ℕ → Ordering
four_cmp x y = ordering_then (ordering_then (ordering_then (nat_cmp x.0 y.0) (nat_cmp x.1 y.1)) (nat_cmp x.2 y.2))
    (nat_cmp x.3 y.3)
