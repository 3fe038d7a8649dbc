use Rattle.std.proofs.Common.{◌≡◌, drop, map}
use Rattle.tdl_mode.specs.Offsets.{least_above}
use Rattle.tdl_logic.proofs.next.least_end.Given as goal

abbrev pub invariant-loop-invocation : goal.invariant-loop-invocation
invariant-loop-invocation l =
    least_above l.above (map (λ x. x.e.0) (drop l.invocation-index l.invocations)) l.best
    ≡ least_above l.above (map (λ x. x.e.0) l.invocations) l.first
