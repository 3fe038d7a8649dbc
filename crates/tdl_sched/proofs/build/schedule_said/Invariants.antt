use Rattle.std.proofs.Common.{◌≡◌, ◌++◌, drop}
use Rattle.tdl_sched.specs.ReadSchedule.{windows_in}
use Rattle.tdl_sched.proofs.build.schedule_said.Given as goal

abbrev pub invariant-loop-said : goal.invariant-loop-said
invariant-loop-said l = l.windows ++ windows_in (drop l.said-index l.lines) ≡ windows_in l.lines
