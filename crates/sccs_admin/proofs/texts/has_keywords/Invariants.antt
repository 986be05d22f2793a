use Rattle.std.proofs.Common.{◌≡◌, map}
use Rattle.std.specs.List.{list_any}
use Rattle.sccs_base.specs.Cut.{text_of, without_lf}
use Rattle.sccs_admin.specs.Rules.{text_has_keyword}
use Rattle.sccs_admin.proofs.texts.has_keywords.Given as goal

-- none so far has a keyword, so the rest has one where the text does
abbrev pub invariant-lines : goal.invariant-lines
invariant-lines l = record {
  rest : list_any text_has_keyword (map without_lf l.line-iterator) ≡ list_any text_has_keyword (text_of l.fn.text);
  can : (goal.iterator-lines).can_next l.line-iterator;
  ends : (goal.iterator-lines).is_finite l.line-iterator;
}
