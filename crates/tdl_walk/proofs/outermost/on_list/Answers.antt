use Rattle.tdl_walk.proofs.Minimum.{each_more}
use Rattle.tdl_walk.proofs.outermost.on_list.Goals as goal

pub loop-expression-preserved : goal.loop-expression-preserved
loop-expression-preserved g c =
    each_more (g.R.OnExpression.gives c.args.rule.now c.args.scope.now) c.args.best.now c.loop-expression.best c.at.new.best
    c.args.expressions.now c.loop-expression.expression-index c.expression-item.result c.loop-expression-test.true
    c.expression-item.is c.loop-expression.invariant c.at.ensures
