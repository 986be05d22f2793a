-- Tables whose deltas are all live and on the trunk.
use Rattle.std.specs.Prelude.{◌≡◌, ◌<◌, ◌⊎◌, false, List, [], ◌∷◌}
use Rattle.std.specs.List.{AllByRecursion}
use Rattle.sccs_sid.specs.declared.sids.Sid.{Sid}
use Rattle.sccs_history.specs.declared.headers.Record.{Record}
use Rattle.sccs_sets.specs.Retrieved.{trunk_sid}

-- a SID of the trunk comes before another
abbrev pub Before : Sid → Sid → Type 0
Before a b = (a.release < b.release) ⊎ ((a.release ≡ b.release) × (a.level < b.level))

-- each delta is live and on the trunk, and its SID comes after those of smaller serials
abbrev pub IsTrunk : List Record → Type 0
IsTrunk [] = Unit {0}
IsTrunk (r ∷ rs) =
    (r.removed ≡ false) × (r.sid ≡ trunk_sid r.sid.release r.sid.level) × AllByRecursion (λ s. Before s.sid r.sid) rs
    × IsTrunk rs
