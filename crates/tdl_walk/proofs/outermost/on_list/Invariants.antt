use Rattle.std.proofs.Common.{◌≡◌, take}
use Rattle.tdl_rules.specs.Earliest.{earliest}
use Rattle.tdl_rules.specs.Lists.{each}
use Rattle.tdl_walk.proofs.outermost.on_list.Given as goal

abbrev pub invariant-loop-expression : goal.invariant-loop-expression
invariant-loop-expression g l =
    l.best ≡ earliest l.initial.best (each (g.R.OnExpression.gives l.rule l.scope) (take l.expression-index l.expressions))
