use Rattle.std.proofs.Common.{◌≡◌, ◌+◌, ◌-◌, ◌*◌, ◌≤◌, [], List, ℕ}
use Rattle.sccs_disk.specs.Told.{seen}
use Rattle.sccs_table.specs.ReaderState.{Stays, bytes_in}
use Rattle.sccs_table.specs.Runs.{lf_count}
use Rattle.sccs_body.specs.ItemsRead.{HasBehind}
use Rattle.sccs_body.proofs.BodyLaws.{Somewhere}
use Rattle.sccs_body.proofs.bodies.check_items.Given as goal

-- the reader stands behind some items, and the whole body is those given and those that are read from here on
abbrev pub invariant-items : goal.invariant-items
invariant-items g l = record {
  same : g.D.Disk.told l.disk ≡ g.D.Disk.told l.fn.disk;
  later : g.D.Disk.faults l.fn.disk ≤ g.D.Disk.faults l.disk;
  name : l.body.lines.name ≡ l.fn.body.lines.name;
  limit : l.body.lines.limit ≡ l.fn.body.lines.limit;
  stays : Stays (bytes_in (seen (g.D.Disk.told l.fn.disk)) l.fn.body.lines.name) l.fn.body.lines l.body.lines;
  reached : (live : List ℕ) → HasBehind live [] l.fn.body
      → Somewhere (bytes_in (seen (g.D.Disk.told l.fn.disk)) l.fn.body.lines.name) live l.fn.body l.body;
}

abbrev pub decreases-items : goal.decreases-items
decreases-items g l = 2 * (l.body.lines.limit - l.body.lines.place) + (1 - lf_count l.body.lines.held)
