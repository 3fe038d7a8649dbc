use Rattle.std.proofs.Common.{◌≡◌, take}
use Rattle.tdl_rules.specs.Earliest.{earliest}
use Rattle.tdl_rules.specs.Lists.{each}
use Rattle.tdl_rules.specs.Times.{time_us}
use Rattle.tdl_walk.proofs.activities.AtActivitiesOnMode.at.Given as goal

abbrev pub invariant-loop-act : goal.invariant-loop-act
invariant-loop-act g l =
    l.best ≡ earliest l.initial.best (each (g.R.OnActivity.gives l.self.rule.now l.scope (time_us l.period)) (take l.act-index l.acts))
