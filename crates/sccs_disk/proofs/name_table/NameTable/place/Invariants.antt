use Rattle.std.proofs.Common.{◌≡◌, ◌+◌, drop, option_map}
use Rattle.sccs_disk.specs.Places.{place_of}
use Rattle.sccs_disk.proofs.name_table.NameTable.place.Given as goal

-- the name leads to none of the places so far
abbrev pub invariant-loop-place : goal.invariant-loop-place
invariant-loop-place l = option_map (λ p. l.place + p) (place_of (drop l.place l.self.names.items) l.name)
    ≡ place_of l.self.names.items l.name
