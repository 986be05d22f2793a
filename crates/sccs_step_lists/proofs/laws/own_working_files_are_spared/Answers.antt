use Rattle.sccs_step_lists.specs.Tests.{Passes}
use Rattle.sccs_step_lists.proofs.OwnFiles.{own_makes, own_stops, own_unlocked, spares_in}
use Rattle.sccs_step_lists.proofs.laws.own_working_files_are_spared.Goals as goal

pub returns-clause-spares : goal.returns-clause-spares
returns-clause-spares c = spares_in

pub returns-clause-makes : goal.returns-clause-makes
returns-clause-makes c = λ step_list given r a b makes. own_makes step_list (Passes given) r a b makes

pub returns-clause-stops : goal.returns-clause-stops
returns-clause-stops c = λ step_list given r a b stops. own_stops step_list (Passes given) r a b stops

pub returns-clause-unlocked : goal.returns-clause-unlocked
returns-clause-unlocked c = λ step_list given old new unlocked. own_unlocked step_list (Passes given) old new unlocked
