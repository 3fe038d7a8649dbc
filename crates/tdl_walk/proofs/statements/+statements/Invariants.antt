use Rattle.std.proofs.Common.{◌≡◌, take}
use Rattle.tdl_tree.specs.declared.statements.StmtTree.TheViews.{out-StmtTree}
use Rattle.tdl_rules.specs.Earliest.{earliest}
use Rattle.tdl_rules.specs.Lists.{each}
use Rattle.tdl_rules.specs.Trees.{statements_in}
use Rattle.tdl_walk.proofs.statements.+statements.Given as goal

abbrev pub invariant-on_statements-loop-statement : goal.invariant-on_statements-loop-statement
invariant-on_statements-loop-statement g l =
    l.best ≡ earliest l.initial.best
    (each (λ s. each (λ t. g.R.OnStatement.gives l.rule l.scope (out-StmtTree t)) (statements_in s)) (take l.statement-index l.statements))
