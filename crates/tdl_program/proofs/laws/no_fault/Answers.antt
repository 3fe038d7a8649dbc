use Rattle.tdl_program.proofs.Limits.{keeps_limits}
use Rattle.tdl_program.proofs.WellModules.{well_formed}
use Rattle.tdl_program.proofs.laws.no_fault.Goals as goal

pub returns : goal.returns
returns c = record { well_formed = well_formed; limits = keeps_limits }
