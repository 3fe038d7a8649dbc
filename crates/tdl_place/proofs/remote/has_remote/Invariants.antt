use Rattle.std.proofs.Common.{◌≡◌, drop}
use Rattle.std.specs.List.{list_any}
use Rattle.tdl_base.specs.Lists.{numbered}
use Rattle.tdl_deploy.specs.Placed.{is_remote}
use Rattle.tdl_mode.specs.declared.program.Module.{Module}
use Rattle.tdl_place.specs.PlacementRules.{invokes, has_remote}
use Rattle.tdl_place.proofs.remote.has_remote.Given as goal

abbrev pub invariant-loop-number : goal.invariant-loop-number
invariant-loop-number l =
    list_any (λ b. b)
    (numbered l.number (λ m (owner : Module). invokes (is_remote l.program l.placement m) owner)
    (drop l.number l.program.modules))
    ≡ has_remote l.program l.placement
