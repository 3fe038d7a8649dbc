use Rattle.std.proofs.Common.{◌≡◌}
use Rattle.tdl_base.specs.Sensed.{sensed_at}
use Rattle.tdl_mode.specs.Phases.{phase_two}
use Rattle.tdl_logic.specs.Wholes.{all_standing}
use Rattle.tdl_logic.proofs.Passing.{done_to}
use Rattle.tdl_logic.proofs.Standings.{phase_in}
use Rattle.tdl_logic.proofs.phases.update_all.Given as goal

abbrev pub invariant-loop-place : goal.invariant-loop-place
invariant-loop-place l =
    all_standing l.modules l.nows l.tasks
    ≡ done_to l.place
    (phase_in (phase_two l.at.0) (sensed_at l.sensed) (all_standing l.modules l.fn.nows l.tasks))
    (all_standing l.modules l.fn.nows l.tasks)
