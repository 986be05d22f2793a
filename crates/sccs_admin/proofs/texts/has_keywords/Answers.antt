use Rattle.std.proofs.Common.{◌∙◌, ap, map}
use Rattle.std.specs.List.{list_any}
use Rattle.sccs_base.specs.Cut.{without_lf}
use Rattle.sccs_base.proofs.Lines.{lines_text}
use Rattle.sccs_admin.specs.Rules.{text_has_keyword}
use Rattle.sccs_admin.proofs.texts.has_keywords.Goals as goal

pub lines-init : goal.lines-init
lines-init c = record {
  rest = ap (list_any text_has_keyword) (ap (map without_lf) (c.into_iter-line-iterator.ensures.into_iter_gives
      ∙ c.lines_with_terminator-line-items.ensures.value) ∙ lines_text c.args.text.now);
  can = tt;
  ends = tt;
}
