-- SIDs by their four numbers, and by one.
use Rattle.std.specs.Prelude.{ℕ, ◌+◌, ◌*◌}
use Rattle.sccs_sid.specs.declared.sids.Sid.{Sid}

abbrev pub sid_key : Sid → ℕ × ℕ × ℕ × ℕ
sid_key sid = (sid.release, sid.level, sid.branch, sid.sequence)

-- the four as one number, in the order of SIDs
abbrev pub sid_number : Sid → ℕ
sid_number sid = ((sid.release * 65536 + sid.level) * 65536 + sid.branch) * 65536 + sid.sequence
