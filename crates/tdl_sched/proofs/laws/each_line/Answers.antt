use Rattle.std.proofs.Common.{arith, ◌∙◌}
use Rattle.std.proofs.lemmas.List.{length-map}
use Rattle.tdl_lines.specs.SaidLines.{said_lines}
use Rattle.tdl_sched.specs.ScheduleRules.{lines_said}
use Rattle.tdl_sched.proofs.WindowsSaid.{all_said}
use Rattle.tdl_sched.proofs.laws.each_line.Goals as goal

pub returns : goal.returns
returns c = λ program bytes none.
    (all_said 0 (lines_said program bytes) (omega arith) none).each ∙ length-map (said_lines bytes) _
