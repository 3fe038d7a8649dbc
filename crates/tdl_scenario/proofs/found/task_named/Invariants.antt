use Rattle.std.proofs.Common.{◌≡◌, drop, bytes_eq}
use Rattle.tdl_trace.specs.declared.names.TaskNames.{TaskNames}
use Rattle.tdl_scenario.specs.Looked.{first_from}
use Rattle.tdl_scenario.proofs.found.task_named.Given as goal

abbrev pub invariant-loop-place : goal.invariant-loop-place
invariant-loop-place l =
    first_from (λ (x : TaskNames). bytes_eq x.name l.name) (λ (x : TaskNames). x.worst) l.place (drop l.place l.tasks)
    ≡ first_from (λ (x : TaskNames). bytes_eq x.name l.name) (λ (x : TaskNames). x.worst) 0 l.tasks
