use Rattle.tdl_rules.specs.SortRules.{what_needs, guard_needs}
use Rattle.tdl_walk.proofs.Minimum.{in_turn}
use Rattle.tdl_sorts.proofs.values.ActivitiesOnActivity.at.Goals as goal

pub returns : goal.returns
returns c =
    in_turn c.args.best.now c.what_needs.new.best c.guard_needs.new.best
    (what_needs c.args.scope.now c.args.act.now.what)
    (guard_needs c.args.scope.now c.args.act.now.guard) c.guard_needs.ensures c.what_needs.ensures
