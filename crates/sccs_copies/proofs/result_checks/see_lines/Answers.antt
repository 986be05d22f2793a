use Rattle.std.proofs.Common.{◌∷◌, [], ◌∙◌, ap, arith, subst}
use Rattle.sccs_disk.specs.Told.{seen}
use Rattle.sccs_table.specs.ReaderState.{bytes_in}
use Rattle.sccs_copies.specs.Examining.{SeesLines}
use Rattle.sccs_copies.proofs.CheckLaws.{line_more}
use Rattle.sccs_copies.proofs.result_checks.see_lines.Goals as goal

pub loop-line-preserved : goal.loop-line-preserved
loop-line-preserved g c = record {
  same = c.in_ok-see_line.ensures.frame.same ∙ c.loop-line.invariant.same;
  later = omega (arith, c.loop-line.invariant.later, c.in_ok-see_line.ensures.frame.later);
  name = c.in_ok-see_line.ensures.name ∙ c.loop-line.invariant.name;
  sees = line_more _ c.args.lines.now c.loop-line.line-index c.line-item.result c.bytes.result.now c.args.check.now
      c.loop-line.check c.see_line.new.check c.loop-line-test.true c.bytes.ensures.value c.line-item.is
      c.loop-line.invariant.sees
      (subst (λ t. SeesLines t (c.bytes.result.now ∷ []) c.loop-line.check c.see_line.new.check)
      (ap (λ t. bytes_in (seen t) c.loop-line.check.lines.name) c.loop-line.invariant.same
      ∙ ap (bytes_in (seen (g.D.Disk.told c.args.disk.now))) c.loop-line.invariant.name)
      c.in_ok-see_line.ensures.sees);
}
