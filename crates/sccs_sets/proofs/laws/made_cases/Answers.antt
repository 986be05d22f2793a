use Rattle.sccs_sets.proofs.MadeCases.{in_later_release, on_branch, on_earlier, on_newest}
use Rattle.sccs_sets.proofs.laws.made_cases.Goals as goal

pub returns-clause-newest : goal.returns-clause-newest
returns-clause-newest c = on_newest

pub returns-clause-later : goal.returns-clause-later
returns-clause-later c = in_later_release

pub returns-clause-branch : goal.returns-clause-branch
returns-clause-branch c = on_branch

pub returns-clause-earlier : goal.returns-clause-earlier
returns-clause-earlier c = on_earlier
