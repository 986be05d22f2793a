use Rattle.std.proofs.Common.{◌∙◌, ap, map, length, arith}
use Rattle.sccs_base.specs.Cut.{without_lf}
use Rattle.sccs_base.proofs.Lines.{lines_text}
use Rattle.sccs_script.specs.Checks.{bad_line}
use Rattle.sccs_admin.proofs.TextLaws.{lines_most}
use Rattle.sccs_admin.proofs.texts.count_lines.Goals as goal

pub lines-init : goal.lines-init
lines-init c =
    let all = ap (map without_lf) (c.into_iter-line-iterator.ensures.into_iter_gives
    ∙ c.lines_with_terminator-line-items.ensures.value) ∙ lines_text c.args.text.now in
    record {
      bad = ap (bad_line 0) all;
      all = omega (arith, ap length all);
      can = tt;
      ends = tt;
    }

pub overflow_add-result : goal.overflow_add-result
overflow_add-result c = omega (arith, lines_most c.args.text.now, c.lines.invariant.all, c.requires)

pub overflow_add-count : goal.overflow_add-count
overflow_add-count c = omega (arith, lines_most c.args.text.now, c.lines.invariant.all, c.requires)
