use Rattle.std.proofs.Common.{◌∙◌, ap, arith, rules}
use Rattle.sccs_disk.specs.Told.{seen}
use Rattle.sccs_table.specs.Runs.{lf_count}
use Rattle.sccs_table.specs.ReaderState.{bytes_in}
use Rattle.sccs_table.proofs.CountLaws.{counted_more, counted_whole, few_lines}
use Rattle.sccs_table.proofs.line_readers.lines_between.Goals as goal

pub returns-then-read-eq0-clause-told : goal.returns-then-read-eq0-clause-told
returns-then-read-eq0-clause-told g c =
    let start = bytes_in (seen (g.D.Disk.told c.args.disk.now)) c.args.name.now in
    let here = bytes_in (seen (g.D.Disk.told c.pieces.disk)) c.args.name.now in
    counted_whole start here c.read_piece.new.piece c.args.from c.pieces.at c.args.to c.min-room.result
    c.in_ok-read.read c.pieces.count (ap (λ t. bytes_in (seen t) c.args.name.now) c.pieces.invariant.same)
    c.pieces.invariant.low c.pieces.invariant.high
    (search rules) (search rules) c.pieces.invariant.counted c.in_ok-read.ensures.told

pub overflow_add-count : goal.overflow_add-count
overflow_add-count g c =
    let more = c.lines_in-count.ensures ∙ ap lf_count c.front_part.ensures in
    omega (
      arith,
      few_lines c.in_ok-read.read c.lines_in-count.result c.read_piece.new.piece more,
      c.pieces.invariant.bound,
      c.pieces.invariant.high,
      c.in_ok-read.ensures.bound,
      c.requires,
      c.ranges.from.fits,
    )

pub pieces-preserved : goal.pieces-preserved
pieces-preserved g c =
    let start = bytes_in (seen (g.D.Disk.told c.args.disk.now)) c.args.name.now in
    let here = bytes_in (seen (g.D.Disk.told c.pieces.disk)) c.args.name.now in
    let more = c.lines_in-count.ensures ∙ ap lf_count c.front_part.ensures in
    record {
      same = search rules;
      later = search rules;
      low = search rules;
      high = omega (
        arith,
        c.pieces.invariant.high,
        c.pieces.invariant.low,
        c.in_ok-read.ensures.bound,
        c.min-room.ensures,
        c.saturating_sub.ensures,
      );
      bound = omega (
        arith,
        few_lines c.in_ok-read.read c.lines_in-count.result c.read_piece.new.piece more,
        c.pieces.invariant.bound,
        c.pieces.invariant.low,
      );
      counted = counted_more start here c.read_piece.new.piece c.args.from c.pieces.at c.in_ok-read.read
          c.min-room.result c.pieces.count c.lines_in-count.result
          (ap (λ t. bytes_in (seen t) c.args.name.now) c.pieces.invariant.same) c.pieces.invariant.low
          c.in_ok-read.ensures.bound more c.pieces.invariant.counted c.in_ok-read.ensures.told;
    }
