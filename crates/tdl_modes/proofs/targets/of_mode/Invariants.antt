-- The activities so far.
use Rattle.std.proofs.Common.{◌≡◌, take}
use Rattle.tdl_rules.specs.Earliest.{earliest}
use Rattle.tdl_rules.specs.Lists.{each}
use Rattle.tdl_rules.specs.ModeRules.{c16_activity}
use Rattle.tdl_modes.proofs.targets.of_mode.Given as goal

abbrev pub invariant-loop-act : goal.invariant-loop-act
invariant-loop-act l =
    l.best ≡ earliest l.initial.best (each (λ act. c16_activity l.scope l.mode act.what) (take l.act-index l.acts))
