use Rattle.sccs_rules.proofs.FlagRules.{header_kept, spelled_kept}
use Rattle.sccs_rules.proofs.laws.changes_keep_rules.Goals as goal

pub returns : goal.returns
returns c = record { header = header_kept; spelled = spelled_kept }
