use Rattle.std.proofs.Common.{◌∙◌, arith}
use Rattle.sccs_table.proofs.RunLaws.{lf_count_bound, parts_on}
use Rattle.sccs_table.proofs.counts.lines_in.Goals as goal

pub parts-preserved : goal.parts-preserved
parts-preserved c =
    let more = c.from-count.ensures ∙ c.few_lines.ensures in
    record {
      all = parts_on c.parts.count c.from-count.result c.args.bytes.now c.parts.rest.now c.split_at.result.0.now
          c.split_at.result.1.now 192 c.split_at.ensures.front c.split_at.ensures.back more c.parts.invariant.all;
      bound = omega (
        arith,
        more,
        lf_count_bound c.split_at.result.0.now,
        c.parts.invariant.bound,
        c.split_at.ensures.front_len,
        c.split_at.ensures.back_len,
      );
    }
