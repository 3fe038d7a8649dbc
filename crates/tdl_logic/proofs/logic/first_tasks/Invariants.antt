use Rattle.std.proofs.Common.{◌≡◌, take, map}
use Rattle.tdl_mode.specs.Instants.{begun_task}
use Rattle.tdl_logic.proofs.logic.first_tasks.Given as goal

abbrev pub invariant-loop-module : goal.invariant-loop-module
invariant-loop-module l = l.all.items ≡ map (λ m. map begun_task m.tasks) (take l.module-index l.modules)
