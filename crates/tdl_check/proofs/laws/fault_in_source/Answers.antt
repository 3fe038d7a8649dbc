use Rattle.tdl_check.proofs.FilesOfFaults.{first_in}
use Rattle.tdl_check.proofs.laws.fault_in_source.Goals as goal

pub returns : goal.returns
returns c = first_in
