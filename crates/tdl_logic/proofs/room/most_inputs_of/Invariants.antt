use Rattle.std.proofs.Common.{◌≤◌, take}
use Rattle.std.specs.List.{All}
use Rattle.tdl_logic.specs.Rooms.{HasInputs}
use Rattle.tdl_logic.proofs.room.most_inputs_of.Given as goal

abbrev pub invariant-loop-task : goal.invariant-loop-task
invariant-loop-task l = record {
  least : l.fn.least ≤ l.most;
  each : All (HasInputs l.most) (take l.task-index l.tasks);
}
