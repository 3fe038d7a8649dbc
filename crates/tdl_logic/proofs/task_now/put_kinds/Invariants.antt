use Rattle.std.proofs.Common.{◌≡◌, ◌++◌, drop}
use Rattle.tdl_mode.specs.States.{kinds_of}
use Rattle.tdl_logic.proofs.task_now.put_kinds.Given as goal

abbrev pub invariant-loop-port : goal.invariant-loop-port
invariant-loop-port l = l.into ++ kinds_of (drop l.port-index l.ports) ≡ l.fn.into ++ kinds_of l.ports
