use Rattle.std.proofs.Common.{◌≡◌, drop, not}
use Rattle.std.specs.List.{list_any}
use Rattle.tdl_base.specs.Lists.{numbered}
use Rattle.tdl_mode.specs.declared.program.Module.{Module}
use Rattle.tdl_place.specs.PlacementRules.{is_hosted, has_unplaced}
use Rattle.tdl_place.proofs.remote.has_unplaced.Given as goal

abbrev pub invariant-loop-number : goal.invariant-loop-number
invariant-loop-number l =
    list_any (λ b. b)
    (numbered l.number (λ m (d : Module). not (is_hosted l.placement m)) (drop l.number l.program.modules))
    ≡ has_unplaced l.program l.placement
