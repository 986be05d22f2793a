use Rattle.sccs_rcs_file.proofs.FileLaws.{fault_is, read_is_spelled, spelled_is_read}
use Rattle.sccs_rcs_file.proofs.laws.files_are_read.Goals as goal

pub returns : goal.returns
returns c = record {
  whole = λ bytes f. (λ e. read_is_spelled bytes f e, λ spells. spelled_is_read bytes f spells);
  fault = λ bytes left e. fault_is bytes left e;
}
