use Rattle.std.proofs.Common.{◌≡◌, All, take}
use Rattle.sccs_sid.specs.SidLists.{IsRange}
use Rattle.sccs_get.specs.NewEntry.{singles}
use Rattle.sccs_get.proofs.new_entries.singles.Given as goal

-- the SIDs of the serials so far
abbrev pub invariant-loop-serial : goal.invariant-loop-serial
invariant-loop-serial l = record {
  value : l.list ≡ singles l.records (take l.serial-index l.serials);
  valid : All IsRange l.list;
}
