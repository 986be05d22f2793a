use Rattle.sccs_sets.proofs.OnceNamed.{serials_once, places_distinct, places_all}
use Rattle.sccs_sets.proofs.laws.several_ranges.Goals as goal

pub returns-clause-named : goal.returns-clause-named
returns-clause-named c = serials_once

pub returns-clause-distinct : goal.returns-clause-distinct
returns-clause-distinct c = places_distinct

pub returns-clause-each : goal.returns-clause-each
returns-clause-each c = places_all
