use Rattle.std.proofs.Common.{◌≡◌, drop, map}
use Rattle.tdl_mode.specs.Offsets.{least_above}
use Rattle.tdl_logic.proofs.next.least_switch.Given as goal

abbrev pub invariant-loop-switch : goal.invariant-loop-switch
invariant-loop-switch l =
    least_above l.above (map (λ x. x.at.0) (drop l.switch-index l.switches)) l.best
    ≡ least_above l.above (map (λ x. x.at.0) l.switches) l.first
