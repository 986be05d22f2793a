use Rattle.std.proofs.Common.{sym, subst}
use Rattle.sccs_versions.specs.Coming.{ComeFirst}
use Rattle.sccs_printing.proofs.SearchLaws.{run_searched}
use Rattle.sccs_printing.proofs.keyword_search.search_run.Goals as goal

pub returns-clause-told : goal.returns-clause-told
returns-clause-told c = λ file lines p.
    run_searched file c.args.version.now c.pass.new.self c.texts-texts.result.now lines c.has_keyword-some.result
    c.texts-texts.ensures.whole c.has_keyword-some.ensures
    (subst (λ text. ComeFirst file c.args.version.now c.pass.new.self text lines) (sym c.texts-texts.ensures.value)
    (c.pass.ensures.coming file lines p))
