-- The activities so far.
use Rattle.std.proofs.Common.{◌≡◌, take}
use Rattle.tdl_rules.specs.Earliest.{earliest}
use Rattle.tdl_rules.specs.Lists.{each}
use Rattle.tdl_rules.specs.ModeRules.{c15_activity, mode_lets}
use Rattle.tdl_rules.specs.Times.{time_us}
use Rattle.tdl_occurs.proofs.cuts.SwitchesOnMode.at.Given as goal

abbrev pub invariant-loop-act : goal.invariant-loop-act
invariant-loop-act l =
    l.best ≡ earliest l.initial.best
    (each (λ act. c15_activity l.scope (time_us l.period) (mode_lets (time_us l.period) l.acts) act act.what) (take l.act-index l.acts))
