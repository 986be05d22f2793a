use Rattle.sccs_grammar.proofs.SectionLaws.{users_again, flags_again, description_again}
use Rattle.sccs_grammar.proofs.laws.short_parts_again.Goals as goal

pub returns-clause-users : goal.returns-clause-users
returns-clause-users c = users_again

pub returns-clause-flags : goal.returns-clause-flags
returns-clause-flags c = flags_again

pub returns-clause-description : goal.returns-clause-description
returns-clause-description c = description_again
