use Rattle.tdl_verify.proofs.JobSlots.{ready-done}
use Rattle.tdl_verify.proofs.laws.covering.Goals as goal

pub returns : goal.returns
returns c = ready-done
