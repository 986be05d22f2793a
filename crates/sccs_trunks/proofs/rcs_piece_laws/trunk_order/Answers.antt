use Rattle.sccs_trunks.proofs.CountLaws.{trunk_in_order}
use Rattle.sccs_trunks.proofs.rcs_piece_laws.trunk_order.Goals as goal

pub returns : goal.returns
returns c = λ head scripts. trunk_in_order head scripts
