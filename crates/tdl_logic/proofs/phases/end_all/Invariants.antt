use Rattle.std.proofs.Common.{◌≡◌}
use Rattle.tdl_mode.specs.Phases.{phase_one}
use Rattle.tdl_logic.specs.Releases.{definitions_of}
use Rattle.tdl_logic.specs.Wholes.{all_standing}
use Rattle.tdl_logic.proofs.Passing.{done_to}
use Rattle.tdl_logic.proofs.phases.end_all.Given as goal

abbrev pub invariant-loop-place : goal.invariant-loop-place
invariant-loop-place l = record {
  states :
      all_standing l.modules l.nows l.tasks
      ≡ done_to l.place (λ _. phase_one l.at.0) (all_standing l.modules l.nows l.fn.tasks);
  definitions : definitions_of l.tasks ≡ definitions_of l.fn.tasks;
}
