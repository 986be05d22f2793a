use Rattle.std.proofs.lemmas.Bool.{eqb-true}
use Rattle.sccs_grammar.proofs.TableLaws.{serial_there_at}
use Rattle.sccs_grammar.proofs.tables.has_at.Goals as goal

pub returns-in-Some : goal.returns-in-Some
returns-in-Some c = λ same.
    serial_there_at c.args.table.now c.args.at c.args.n c.in-Some.record.now c.in-Some.ensures.lookup.3.0
    c.in-Some.ensures.lookup.1 (eqb-true c.in-Some.record.now.serial c.args.n same)
