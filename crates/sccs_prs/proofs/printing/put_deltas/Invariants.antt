use Rattle.std.proofs.Common.{◌≡◌, ◌≤◌, ℕ, List, take, flat_map}
use Rattle.sccs_base.specs.Stream.{Buffers}
use Rattle.sccs_disk.specs.Told.{seen}
use Rattle.sccs_history.specs.declared.headers.Item.{Item}
use Rattle.sccs_table.specs.ReaderState.{bytes_in}
use Rattle.sccs_prs.specs.Gives.{IsListedFile}
use Rattle.sccs_prs.specs.PrsText.{shown_text}
use Rattle.sccs_prs.specs.Shown.{shown_file}
use Rattle.sccs_prs.proofs.printing.put_deltas.Given as goal

-- the deltas so far were printed where they come, and no count fell
abbrev pub invariant-loop-delta : goal.invariant-loop-delta
invariant-loop-delta g l = record {
  same : g.D.Disk.told l.disk ≡ g.D.Disk.told l.fn.disk;
  later : g.D.Disk.faults l.fn.disk ≤ g.D.Disk.faults l.disk;
  out_later : g.O.Sink.faults l.fn.out ≤ g.O.Sink.faults l.out;
  gave : (bytes : List ℕ) (items : List Item)
      → IsListedFile (bytes_in (seen (g.D.Disk.told l.fn.disk)) l.fn.file.name.now) l.fn.file.front.now bytes items
      → Buffers l.fn.listing.buffer (flat_map (shown_text l.fn.all l.fn.chosen l.fn.parts (shown_file l.fn.file items))
      (take l.delta-index l.fn.file.front.now.header.records)) l.listing.buffer (g.O.Sink.given l.fn.out)
      (g.O.Sink.given l.out);
}
