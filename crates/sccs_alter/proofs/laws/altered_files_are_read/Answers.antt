use Rattle.sccs_alter.proofs.HeaderLaws.{altered_records}
use Rattle.sccs_alter.proofs.StopLaws.{altered_reads}
use Rattle.sccs_alter.proofs.laws.altered_files_are_read.Goals as goal

pub returns : goal.returns
returns c = record { reads = λ words. altered_reads words.fix words; records = altered_records }
