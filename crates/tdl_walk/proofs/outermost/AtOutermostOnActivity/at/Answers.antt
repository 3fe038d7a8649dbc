use Rattle.std.proofs.Common.{[], ◌∷◌, ◌++◌, Option, sym, ap, ◌∙◌, refl}
use Rattle.tdl_tree.specs.declared.expressions.ExprTree.{ExprTree}
use Rattle.tdl_rules.specs.Earliest.{earliest}
use Rattle.tdl_rules.specs.Lists.{each}
use Rattle.tdl_rules.specs.Trees.{expressions_in, guard_expressions}
use Rattle.tdl_walk.proofs.Walking.{alone, of_two}
use Rattle.tdl_walk.proofs.outermost.AtOutermostOnActivity.at.Goals as goal

pub returns-in-Some : goal.returns-in-Some
returns-in-Some g c =
    let f = g.R.OnExpression.gives c.args.self.now.rule.now c.args.scope.now in
    let values = expressions_in c.args.act.now.what in
    let guard = c.in-Some.guard in
    of_two f values (guard ∷ []) c.args.best.now c.on_values.new.best c.at.new.best c.on_values.ensures
    (alone f guard (guard ∷ []) c.on_values.new.best c.at.new.best refl c.at.ensures)
    ∙ ap (λ (z : Option ExprTree). earliest c.args.best.now (each f (values ++ guard_expressions z))) (sym c.in-Some.is)
