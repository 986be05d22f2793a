use Rattle.std.proofs.Common.{Ok, ap, subst, ◌∙◌}
use Rattle.std.specs.List.{list_any}
use Rattle.sccs_keywords.specs.Keywords.{is_keyword, parts}
use Rattle.sccs_versions.specs.Coming.{GivesNextLine}
use Rattle.sccs_versions.specs.declared.readers.Next.{Next}
use Rattle.std.proofs.lemmas.Result.{err_from_is_err_and}
use Rattle.sccs_printing.proofs.GivingLaws.{next_fault}
use Rattle.sccs_printing.proofs.SearchLaws.{line_searched, searched_none}
use Rattle.sccs_printing.proofs.keyword_search.search_next.Goals as goal

pub returns-in-Line-clause-told : goal.returns-in-Line-clause-told
returns-in-Line-clause-told g c = λ file lines told p.
    line_searched file c.next.new.self c.in-Line.line lines c.has_keyword.result (c.has_keyword.ensures
    ∙ ap (λ text. list_any is_keyword (parts text)) c.bytes.ensures.value)
    (subst (λ (n : Next). GivesNextLine file c.next.new.self lines (Ok n)) c.in-Line.is
    (c.in_ok-line.ensures.told file lines told p))

pub returns-in-Hidden-clause-told : goal.returns-in-Hidden-clause-told
returns-in-Hidden-clause-told g c = λ file lines told p.
    searched_none file c.next.new.self lines (subst (λ (n : Next). GivesNextLine file c.next.new.self lines (Ok n))
    c.in-Hidden.is (c.in_ok-line.ensures.told file lines told p))

pub returns-in-End-clause-told : goal.returns-in-End-clause-told
returns-in-End-clause-told g c = λ file lines told p. subst (λ (n : Next). GivesNextLine file c.next.new.self lines
    (Ok n)) c.in-End.is (c.in_ok-line.ensures.told file lines told p)

pub returns-in_err-line-clause-told : goal.returns-in_err-line-clause-told
returns-in_err-line-clause-told g c =
    let e = err_from_is_err_and c.from_residual.result c.from_residual.ensures.1 in
    rw (e.1, e.2) (λ file lines told p. next_fault file c.next.new.self lines c.in_err-line.field-0.0
    (c.in_err-line.ensures.told file lines told p))
