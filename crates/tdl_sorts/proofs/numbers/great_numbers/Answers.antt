use Rattle.tdl_tree.specs.declared.expressions.ExprNode.TheViews.{out-ExprNode}
use Rattle.tdl_rules.specs.Lists.{each}
use Rattle.tdl_rules.specs.Parts.{in_declarations, in_expressions}
use Rattle.tdl_rules.specs.SortRules.{c8_node, c8_literal, literals}
use Rattle.tdl_walk.proofs.Minimum.{in_turn}
use Rattle.tdl_sorts.proofs.numbers.great_numbers.Goals as goal

pub returns : goal.returns
returns c =
    let sources = c.args.sources.now in
    in_turn c.args.best.now c.in_expressions.new.best c.in_literals.new.best
    (in_expressions (λ scope e. c8_node scope (out-ExprNode e.node)) sources)
    (in_declarations (λ scope d. each (λ literal. c8_literal scope.file literal.1.value) (literals d)) sources)
    c.in_literals.ensures c.in_expressions.ensures
