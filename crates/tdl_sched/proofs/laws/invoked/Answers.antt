use Rattle.std.proofs.Common.{arith}
use Rattle.tdl_lines.specs.SaidLines.{said_lines}
use Rattle.tdl_sched.specs.ScheduleRules.{lines_said}
use Rattle.tdl_sched.proofs.InvocationsSaid.{windows_there}
use Rattle.tdl_sched.proofs.WindowsSaid.{all_said}
use Rattle.tdl_sched.proofs.laws.invoked.Goals as goal

pub returns : goal.returns
returns c = λ program bytes none. record {
  there = windows_there program (said_lines bytes);
  few = omega (arith, (all_said 0 (lines_said program bytes) (omega arith) none).few);
}
