use Rattle.sccs_sets.proofs.SidTableLaws.{got_by_row, made_by_row, one_row}
use Rattle.sccs_sets.proofs.laws.sid_table.Goals as goal

pub returns-clause-one : goal.returns-clause-one
returns-clause-one c = one_row

pub returns-clause-got : goal.returns-clause-got
returns-clause-got c = got_by_row

pub returns-clause-made : goal.returns-clause-made
returns-clause-made c = made_by_row
