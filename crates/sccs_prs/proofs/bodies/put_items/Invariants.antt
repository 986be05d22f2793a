use Rattle.std.proofs.Common.{◌≡◌, ◌≤◌, ℕ, List}
use Rattle.sccs_disk.specs.Told.{seen}
use Rattle.sccs_history.specs.declared.headers.Item.{Item}
use Rattle.sccs_table.specs.ReaderState.{bytes_in}
use Rattle.sccs_body.specs.Reader.{bytes_left, name_read}
use Rattle.sccs_prs.specs.Bodies.{IsToCome}
use Rattle.sccs_prs.proofs.BodyLaws.{HasPut}
use Rattle.sccs_prs.proofs.bodies.put_items.Given as goal

-- some of the items were printed, and no count fell
abbrev pub invariant-items : goal.invariant-items
invariant-items g l = record {
  same : g.D.Disk.told l.disk ≡ g.D.Disk.told l.fn.disk;
  later : g.D.Disk.faults l.fn.disk ≤ g.D.Disk.faults l.disk;
  out_later : g.O.Sink.faults l.fn.out ≤ g.O.Sink.faults l.out;
  name : name_read l.items ≡ name_read l.fn.items;
  put : (file : List ℕ) (rest : List Item) → IsToCome (bytes_in (seen (g.D.Disk.told l.fn.disk)) (name_read l.fn.items))
      file rest l.fn.items
      → HasPut file rest l.items l.fn.listing.buffer l.listing.buffer (g.O.Sink.given l.fn.out) (g.O.Sink.given l.out);
}

-- what is left of the file
abbrev pub decreases-items : goal.decreases-items
decreases-items g l = bytes_left l.items
