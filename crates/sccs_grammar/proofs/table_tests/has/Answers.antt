use Rattle.std.proofs.Common.{◌∙◌, ◌==◌, rules, tests}
use Rattle.std.proofs.lemmas.Iterator.{YieldsList-from_slice}
use Rattle.std.proofs.lemmas.Iterator.Search.{any_from_yields_List}
use Rattle.sccs_grammar.proofs.TableLaws.{has-any}
use Rattle.sccs_grammar.proofs.table_tests.has.Goals as goal

pub returns : goal.returns
returns c =
    any_from_yields_List (λ m. m == c.args.n) _ _ c.any.result c.any.ensures.ran
    (YieldsList-from_slice c.args.numbers.now cc) (λ x b q k. search (rules, tests))
    ∙ has-any c.args.numbers.now c.args.n
