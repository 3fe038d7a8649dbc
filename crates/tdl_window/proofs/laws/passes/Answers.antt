use Rattle.tdl_window.proofs.NoFaults.{no_fault-passes}
use Rattle.tdl_window.proofs.laws.passes.Goals as goal

pub returns : goal.returns
returns c = no_fault-passes
