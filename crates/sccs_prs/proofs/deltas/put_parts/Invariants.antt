use Rattle.std.proofs.Common.{◌≡◌, ◌≤◌, ℕ, List, take, flat_map}
use Rattle.sccs_base.specs.Stream.{Buffers}
use Rattle.sccs_disk.specs.Told.{seen}
use Rattle.sccs_history.specs.declared.headers.Item.{Item}
use Rattle.sccs_table.specs.ReaderState.{bytes_in}
use Rattle.sccs_prs.specs.Gives.{IsListedFile}
use Rattle.sccs_prs.specs.PrsText.{data_text}
use Rattle.sccs_prs.specs.Shown.{shown_file}
use Rattle.sccs_prs.proofs.deltas.put_parts.Given as goal

-- what stands for the parts so far was printed, and no count fell
abbrev pub invariant-loop-part : goal.invariant-loop-part
invariant-loop-part g l = record {
  same : g.D.Disk.told l.disk ≡ g.D.Disk.told l.fn.disk;
  later : g.D.Disk.faults l.fn.disk ≤ g.D.Disk.faults l.disk;
  out_later : g.O.Sink.faults l.fn.out ≤ g.O.Sink.faults l.out;
  gave : (bytes : List ℕ) (items : List Item)
      → IsListedFile (bytes_in (seen (g.D.Disk.told l.fn.disk)) l.fn.file.name.now) l.fn.file.front.now bytes items
      → Buffers l.fn.listing.buffer (flat_map (data_text (shown_file l.fn.file items) l.fn.delta)
      (take l.part-index l.parts)) l.listing.buffer (g.O.Sink.given l.fn.out) (g.O.Sink.given l.out);
}
