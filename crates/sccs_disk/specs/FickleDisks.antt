-- What a disk whose byte changes makes of what was read.
use Rattle.std.specs.Prelude.{ℕ, ◌+◌, ◌-◌, ◌%◌, Bool, ◌&&◌, List, cond, nat_le, nat_lt, slice_index, slice_set}
use Rattle.std.specs.Str.{bytes_eq}
use Rattle.sccs_disk.specs.declared.fickle_disk.FickleDisk.{FickleDisk}

-- whether a reading of so many bytes from a place on covers the byte
abbrev pub covers : FickleDisk → List ℕ → ℕ → ℕ → Bool
covers d name from count = bytes_eq name d.name && (nat_le from d.at && nat_lt (d.at - from) count)

-- From the second time on the byte is one greater, modulo 256.
abbrev pub read_again : FickleDisk → List ℕ → ℕ → ℕ → List ℕ → List ℕ
read_again d name from count bytes =
    cond (covers d name from count && d.was_read) (slice_set bytes (d.at - from)
    ((slice_index bytes (d.at - from) + 1) % 256)) bytes
