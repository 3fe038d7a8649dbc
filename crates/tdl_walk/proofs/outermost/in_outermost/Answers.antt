use Rattle.tdl_rules.specs.Lists.{each}
use Rattle.tdl_rules.specs.Parts.{in_statements, in_activities}
use Rattle.tdl_rules.specs.Trees.{expressions_of, activity_expressions}
use Rattle.tdl_walk.proofs.Minimum.{in_turn}
use Rattle.tdl_walk.proofs.outermost.in_outermost.Goals as goal

pub returns : goal.returns
returns g c =
    let f = g.R.OnExpression.gives c.args.rule.now in
    in_turn c.args.best.now c.in_statements.new.best c.in_activities.new.best
    (in_statements (λ scope statement. each (f scope) (expressions_of statement)) c.args.sources.now)
    (in_activities (λ scope period act. each (f scope) (activity_expressions act)) c.args.sources.now)
    c.in_activities.ensures c.in_statements.ensures
