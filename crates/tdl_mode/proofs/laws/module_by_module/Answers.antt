use Rattle.tdl_mode.proofs.ModuleByModule.{logical-alone}
use Rattle.tdl_mode.proofs.laws.module_by_module.Goals as goal

pub returns : goal.returns
returns c = record { each = logical-alone }
