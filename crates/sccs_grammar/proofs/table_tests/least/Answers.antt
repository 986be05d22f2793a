use Rattle.std.proofs.Common.{sym, ◌∙◌}
use Rattle.sccs_grammar.proofs.TableLaws.{least-last}
use Rattle.sccs_grammar.proofs.table_tests.least.Goals as goal

pub returns-in-Some : goal.returns-in-Some
returns-in-Some c =
    c.from.ensures ∙ least-last 65536 c.args.records.now c.in-Some.record.now (sym c.in-Some.ensures.value)
