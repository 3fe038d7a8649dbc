use Rattle.std.proofs.Common.{◌≡◌, drop, map}
use Rattle.tdl_mode.specs.Offsets.{least_above}
use Rattle.tdl_logic.proofs.next.least_update.Given as goal

abbrev pub invariant-loop-update : goal.invariant-loop-update
invariant-loop-update l =
    least_above l.above (map (λ x. x.at.0) (drop l.update-index l.updates)) l.best
    ≡ least_above l.above (map (λ x. x.at.0) l.updates) l.first
