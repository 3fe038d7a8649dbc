use Rattle.std.proofs.Common.{◌≡◌, take, map}
use Rattle.tdl_mode.specs.Instants.{begun_task}
use Rattle.tdl_logic.proofs.tasks.Tasks.new.Given as goal

abbrev pub invariant-loop-task : goal.invariant-loop-task
invariant-loop-task l = l.items.items ≡ map begun_task (take l.task-index l.tasks)
