use Rattle.std.proofs.Common.{◌∙◌, ◌==◌, rules, tests}
use Rattle.std.proofs.lemmas.Iterator.{YieldsList-from_slice}
use Rattle.std.proofs.lemmas.Iterator.Search.{any_from_yields_List}
use Rattle.sccs_history.specs.declared.headers.Record.{Record}
use Rattle.sccs_grammar.proofs.TableLaws.{serials-any}
use Rattle.sccs_grammar.proofs.tables.is_among.Goals as goal

pub returns : goal.returns
returns c =
    any_from_yields_List (λ (r : Record). r.serial == c.args.n) _ _ c.any.result c.any.ensures.ran
    (YieldsList-from_slice c.args.table.now cc) (λ x b q k. search (rules, tests))
    ∙ serials-any c.args.table.now c.args.n
