use Rattle.std.proofs.Common.{◌≡◌, ◌++◌, map, take, drop}
use Rattle.tdl_host.specs.Hosts.{worked_in}
use Rattle.tdl_host.proofs.task.work_all.Given as goal

abbrev pub invariant-loop-i : goal.invariant-loop-i
invariant-loop-i l =
    take l.i l.tasks ++ map (worked_in l.window) (drop l.i l.tasks) ≡ map (worked_in l.window) l.fn.tasks
