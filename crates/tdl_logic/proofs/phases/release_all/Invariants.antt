use Rattle.std.proofs.Common.{◌≡◌}
use Rattle.tdl_base.specs.Sensed.{sensed_at}
use Rattle.tdl_mode.specs.Phases.{phase_four}
use Rattle.tdl_logic.specs.Looks.{output_in}
use Rattle.tdl_logic.specs.Releases.{definitions_of}
use Rattle.tdl_logic.specs.Wholes.{all_standing}
use Rattle.tdl_logic.proofs.Passing.{done_to}
use Rattle.tdl_logic.proofs.Standings.{phase_in}
use Rattle.tdl_logic.proofs.phases.release_all.Given as goal

abbrev pub invariant-loop-place : goal.invariant-loop-place
invariant-loop-place l = record {
  states :
      all_standing l.modules l.nows l.tasks
      ≡ done_to l.place
      (phase_in (phase_four l.at.0) (sensed_at l.sensed) (all_standing l.modules l.nows l.fn.tasks))
      (all_standing l.modules l.nows l.fn.tasks);
  outputs : output_in l.tasks ≡ output_in l.fn.tasks;
  definitions : definitions_of l.tasks ≡ definitions_of l.fn.tasks;
}
