use Rattle.std.proofs.Common.{◌++◌, List, ap, ap₂, sym, ◌∙◌}
use Rattle.tdl_tree.specs.declared.expressions.ExprTree.{ExprTree}
use Rattle.tdl_rules.specs.Trees.{within, in_node}
use Rattle.tdl_rules.proofs.Equations.{in_node-number, in_node-truth, in_node-name, in_node-un, in_node-bin}
use Rattle.tdl_walk.proofs.Walking.{within-inside, alone, with_inside, of_two}
use Rattle.tdl_walk.proofs.expressions.+on_within.Goals as goal

pub returns-in-Number : goal.returns-in-Number
returns-in-Number g t c =
    alone (g.R.OnExpression.gives c.args.rule.now c.args.scope.now) c.args.expression.now (within c.args.expression.now) c.args.best.now c.at.new.best
    (within-inside c.args.expression.now _ (ap in_node c.in-Number.is ∙ in_node-number c.in-Number.field-0)) c.at.ensures

pub returns-in-Truth : goal.returns-in-Truth
returns-in-Truth g t c =
    alone (g.R.OnExpression.gives c.args.rule.now c.args.scope.now) c.args.expression.now (within c.args.expression.now) c.args.best.now c.at.new.best
    (within-inside c.args.expression.now _ (ap in_node c.in-Truth.is ∙ in_node-truth c.in-Truth.field-0)) c.at.ensures

pub returns-in-Name : goal.returns-in-Name
returns-in-Name g t c =
    alone (g.R.OnExpression.gives c.args.rule.now c.args.scope.now) c.args.expression.now (within c.args.expression.now) c.args.best.now c.at.new.best
    (within-inside c.args.expression.now _ (ap in_node c.in-Name.is ∙ in_node-name c.in-Name.parts)) c.at.ensures

pub returns-in-Un : goal.returns-in-Un
returns-in-Un g t c =
    let inside = within c.get.result.now in
    with_inside (g.R.OnExpression.gives c.args.rule.now c.args.scope.now) c.args.expression.now inside (within c.args.expression.now)
    c.args.best.now c.at.new.best c.on_within.new.best
    (within-inside c.args.expression.now inside
    (ap in_node c.in-Un.is ∙ in_node-un c.in-Un.field-0 c.in-Un.operand ∙ ap within (sym c.get.ensures)))
    c.at.ensures c.on_within.ensures

pub returns-in-Bin : goal.returns-in-Bin
returns-in-Bin g t c =
    let f = g.R.OnExpression.gives c.args.rule.now c.args.scope.now in
    let left = within c.get-in-Bin.result.now in
    let right = within c.get-in-Bin-2.result.now in
    with_inside f c.args.expression.now (left ++ right) (within c.args.expression.now) c.args.best.now c.at.new.best
    c.on_within-in-Bin-2.new.best
    (within-inside c.args.expression.now (left ++ right)
    (ap in_node c.in-Bin.is ∙ in_node-bin c.in-Bin.field-0 c.in-Bin.left c.in-Bin.right
    ∙ ap₂ (λ (x y : List ExprTree). x ++ y) (ap within (sym c.get-in-Bin.ensures)) (ap within (sym c.get-in-Bin-2.ensures))))
    c.at.ensures (of_two f left right c.at.new.best c.on_within-in-Bin.new.best c.on_within-in-Bin-2.new.best c.on_within-in-Bin.ensures c.on_within-in-Bin-2.ensures)
