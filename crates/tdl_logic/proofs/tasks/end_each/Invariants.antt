use Rattle.std.proofs.Common.{◌≡◌, ◌++◌, map, take, drop}
use Rattle.tdl_mode.specs.Phases.{task_after}
use Rattle.tdl_logic.specs.Standing.{bare}
use Rattle.tdl_logic.proofs.tasks.end_each.Given as goal

abbrev pub invariant-loop-i : goal.invariant-loop-i
invariant-loop-i l =
    take l.i l.tasks ++ map (task_after (bare l.moment) l.moment.at.0) (drop l.i l.tasks)
    ≡ map (task_after (bare l.moment) l.moment.at.0) l.fn.tasks
