use Rattle.std.proofs.Common.{◌∙◌, rules, tests}
use Rattle.std.proofs.lemmas.Iterator.{YieldsList-from_slice}
use Rattle.std.proofs.lemmas.Iterator.Search.{any_from_yields_List}
use Rattle.sccs_history.specs.Numbers.{has}
use Rattle.sccs_grammar.proofs.TableLaws.{share-any}
use Rattle.sccs_grammar.proofs.table_tests.share.Goals as goal

pub returns : goal.returns
returns c =
    any_from_yields_List (λ m. has c.args.others.now m) _ _ c.any.result c.any.ensures.ran
    (YieldsList-from_slice c.args.numbers.now cc) (λ x b q k. search (rules, tests))
    ∙ share-any c.args.numbers.now c.args.others.now
