use Rattle.sccs_records.proofs.TableLaws.{header_kept, spelled_kept, table_kept}
use Rattle.sccs_records.proofs.laws.new_deltas_keep_rules.Goals as goal

pub returns : goal.returns
returns c = record { table = table_kept; header = header_kept; spelled = spelled_kept }
