use Rattle.std.proofs.Common.{◌==◌, ap, not, rules, tests}
use Rattle.std.proofs.lemmas.Iterator.{YieldsList-from_slice}
use Rattle.std.proofs.lemmas.Iterator.Search.{any_from_yields_List}
use Rattle.sccs_history.specs.declared.headers.Flag.{Flag}
use Rattle.sccs_grammar.proofs.table_tests.is_new.Goals as goal

pub returns : goal.returns
returns c =
    ap not (any_from_yields_List (λ (g : Flag). g.letter == c.args.flag.now.letter) _ _ c.any.result c.any.ensures.ran
    (YieldsList-from_slice c.args.flags.now cc) (λ x b q k. search (rules, tests)))
