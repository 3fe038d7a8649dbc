use Rattle.std.proofs.Common.{◌≡◌, suc, drop}
use Rattle.tdl_base.specs.Lists.{changed_at}
use Rattle.tdl_base.specs.Sensed.{sensed_at}
use Rattle.tdl_mode.specs.States.{invocations_now}
use Rattle.tdl_mode.specs.Phases.{releases}
use Rattle.tdl_logic.specs.Looks.{look_at, output_in}
use Rattle.tdl_logic.specs.Releases.{definitions_of}
use Rattle.tdl_logic.specs.Standing.{bare}
use Rattle.tdl_logic.proofs.release.release_each.Given as goal

-- the releases that are left lead to where all lead
abbrev pub invariant-loop-i : goal.invariant-loop-i
invariant-loop-i l = record {
  tasks :
      changed_at l.owner.0 (releases (bare l.moment) l.moment.at.0
      (look_at l.owner.0 (sensed_at l.sensed) l.fn.tasks) (suc l.i) (drop l.i (invocations_now (bare l.moment))))
      l.tasks
      ≡ changed_at l.owner.0 (releases (bare l.moment) l.moment.at.0
      (look_at l.owner.0 (sensed_at l.sensed) l.fn.tasks) 1 (invocations_now (bare l.moment))) l.fn.tasks;
  outputs : output_in l.tasks ≡ output_in l.fn.tasks;
  definitions : definitions_of l.tasks ≡ definitions_of l.fn.tasks;
}
