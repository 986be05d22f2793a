use Rattle.std.proofs.Common.{◌+◌, ◌%◌, ◌∙◌, ap, arith}
use Rattle.std.specs.Prelude.{sum}
use Rattle.sccs_table.specs.Runs.{lf_count}
use Rattle.sccs_table.proofs.MarkLaws.{lines_block, sum_block}
use Rattle.sccs_table.proofs.piece_counts.BlockCount.with_block.Goals as goal

pub returns : goal.returns
returns c =
    let old = c.requires.before in
    record {
      small = c.with_ends.ensures.bound c.args.n old.small;
      lines = omega (
        arith,
        c.with_ends.ensures.sum,
        old.lines,
        ap lf_count c.lanes_of-lanes.ensures,
        lines_block c.args.piece.now c.args.n,
      );
      total = sum_block c.args.piece.now c.args.n c.args.self.total c.sum_with.result old.total (c.sum_with.ensures
          ∙ ap (λ l. (c.args.self.total + sum l) % 65536) c.lanes_of-lanes.ensures);
    }
