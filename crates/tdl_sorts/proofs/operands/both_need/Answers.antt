use Rattle.tdl_rules.specs.SortRules.{needs}
use Rattle.tdl_walk.proofs.Minimum.{in_turn}
use Rattle.tdl_sorts.proofs.operands.both_need.Goals as goal

pub returns : goal.returns
returns c =
    in_turn c.args.best.now c.needs.new.best c.needs-2.new.best (needs c.args.scope.now c.args.left.now c.args.truth)
    (needs c.args.scope.now c.args.right.now c.args.truth) c.needs-2.ensures c.needs.ensures
