use Rattle.std.proofs.Common.{◌≡◌}
use Rattle.std.specs.Prelude.{unwrap_or}
use Rattle.tdl_mode.specs.Phases.{update_value}
use Rattle.tdl_logic.specs.Looks.{shown}
use Rattle.tdl_logic.specs.Standing.{bare}
use Rattle.tdl_logic.proofs.Passing.{done_to}
use Rattle.tdl_logic.proofs.update.update.Given as goal

abbrev pub invariant-loop-actuator : goal.invariant-loop-actuator
invariant-loop-actuator l =
    l.actuators
    ≡ done_to l.actuator (λ a v. unwrap_or (update_value (bare l.moment) l.moment.at.0 (shown l.seen) a) v)
    l.fn.actuators
