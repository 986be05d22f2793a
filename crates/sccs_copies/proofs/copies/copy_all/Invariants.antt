use Rattle.std.proofs.Common.{◌≡◌, ℕ, List, [], Some, Ok}
use Rattle.sccs_disk.specs.Told.{seen}
use Rattle.sccs_history.specs.declared.headers.Item.{Item}
use Rattle.sccs_table.specs.ReaderState.{bytes_in}
use Rattle.sccs_body.specs.Reader.{bytes_left, name_read}
use Rattle.sccs_copies.specs.Copies.{CopiesOn, CopiesSome, CopyComes, IsBegun, PutsSome}
use Rattle.sccs_copies.proofs.copies.copy_all.Given as goal

-- some of what the filter makes of the items was put, and the rest is to come
abbrev pub invariant-items : goal.invariant-items
invariant-items g l = record {
  puts : PutsSome {T = Unit {0}} l.fn.out l.out (g.D.Disk.told l.fn.disk) (g.D.Disk.told l.disk)
      (g.D.Disk.faults l.fn.disk) (g.D.Disk.faults l.disk) (Ok tt);
  name : name_read l.copying.items ≡ name_read l.fn.copying.items;
  goes : (live : List ℕ) → IsBegun g.F.BodyFilter.filter live l.fn.copying
      → CopiesOn g.F.BodyFilter.filter live [] l.fn.copying l.copying l.fn.out l.out (g.D.Disk.told l.fn.disk)
      (g.D.Disk.told l.disk);
  told : (file : List ℕ) (items : List Item) → bytes_in (seen (g.D.Disk.told l.fn.disk)) (name_read l.fn.copying.items)
      ≡ Some file
      → CopyComes g.F.BodyFilter.filter file items l.fn.copying
      → CopiesSome g.F.BodyFilter.filter file items l.fn.copying l.copying l.fn.out l.out (g.D.Disk.told l.fn.disk)
      (g.D.Disk.told l.disk);
}

-- what is left of the file
abbrev pub decreases-items : goal.decreases-items
decreases-items g l = bytes_left l.copying.items
