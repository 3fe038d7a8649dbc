use Rattle.std.proofs.Common.{List, [], ◌++◌, Option, ap, ap₂, sym, ◌∙◌}
use Rattle.tdl_tree.specs.declared.statements.StmtTree.{StmtTree}
use Rattle.tdl_tree.specs.declared.statements.StmtTree.TheVariants as stmt
use Rattle.tdl_tree.specs.declared.statements.StmtTree.TheViews.{out-StmtTree}
use Rattle.tdl_rules.specs.Earliest.{earliest}
use Rattle.tdl_rules.specs.Lists.{each}
use Rattle.tdl_rules.specs.Trees.{statements_in, statements_inside, body_statements}
use Rattle.tdl_rules.proofs.Equations.{statements_inside-assign, statements_inside-if, statements_inside-if_else, statements_inside-repeat}
use Rattle.tdl_walk.proofs.Minimum.{each-each, each_more, each_all}
use Rattle.tdl_walk.proofs.Walking.{statements_in-inside, alone, with_inside, of_two}
use Rattle.tdl_walk.proofs.statements.+statements.Goals as goal

pub on_statement-returns-in-Assign : goal.on_statement-returns-in-Assign
on_statement-returns-in-Assign g t c =
    alone (λ (s : StmtTree). g.R.OnStatement.gives c.args.rule.now c.args.scope.now (out-StmtTree s)) c.args.statement.now
    (statements_in c.args.statement.now) c.args.best.now c.at.new.best
    (statements_in-inside c.args.statement.now [] (ap statements_inside c.in-Assign.is ∙ statements_inside-assign c.in-Assign.target c.in-Assign.value))
    c.at.ensures

pub on_statement-returns-in-Repeat : goal.on_statement-returns-in-Repeat
on_statement-returns-in-Repeat g t c =
    let body = body_statements c.as_slice-in-Repeat.result.now in
    with_inside (λ (s : StmtTree). g.R.OnStatement.gives c.args.rule.now c.args.scope.now (out-StmtTree s)) c.args.statement.now body
    (statements_in c.args.statement.now) c.args.best.now c.at.new.best c.on_statements-in-Repeat.new.best
    (statements_in-inside c.args.statement.now body
    (ap statements_inside c.in-Repeat.is ∙ statements_inside-repeat c.in-Repeat.count c.in-Repeat.body
    ∙ ap body_statements (sym c.as_slice-in-Repeat.ensures)))
    c.at.ensures c.on_statements-in-Repeat.ensures

pub on_statement-returns-in-None : goal.on_statement-returns-in-None
on_statement-returns-in-None g t c =
    let first = body_statements c.as_slice.result.now in
    with_inside (λ (s : StmtTree). g.R.OnStatement.gives c.args.rule.now c.args.scope.now (out-StmtTree s)) c.args.statement.now first
    (statements_in c.args.statement.now) c.args.best.now c.at.new.best c.on_statements.new.best
    (statements_in-inside c.args.statement.now first
    (ap statements_inside (c.in-If.is ∙ ap (λ (z : Option (List StmtTree)). stmt.If c.in-If.cond c.in-If.then z) c.in-None.is)
    ∙ statements_inside-if c.in-If.cond c.in-If.then ∙ ap body_statements (sym c.as_slice.ensures)))
    c.at.ensures c.on_statements.ensures

pub on_statement-returns-in-Some : goal.on_statement-returns-in-Some
on_statement-returns-in-Some g t c =
    let f = λ (s : StmtTree). g.R.OnStatement.gives c.args.rule.now c.args.scope.now (out-StmtTree s) in
    let first = body_statements c.as_slice.result.now in
    let second = body_statements c.as_slice-in-Some.result.now in
    with_inside f c.args.statement.now (first ++ second) (statements_in c.args.statement.now) c.args.best.now c.at.new.best
    c.on_statements-in-Some.new.best
    (statements_in-inside c.args.statement.now (first ++ second)
    (ap statements_inside (c.in-If.is ∙ ap (λ (z : Option (List StmtTree)). stmt.If c.in-If.cond c.in-If.then z) c.in-Some.is)
    ∙ statements_inside-if_else c.in-If.cond c.in-If.then c.in-Some.block
    ∙ ap₂ (λ (x y : List StmtTree). body_statements x ++ body_statements y) (sym c.as_slice.ensures) (sym c.as_slice-in-Some.ensures)))
    c.at.ensures
    (of_two f first second c.at.new.best c.on_statements.new.best c.on_statements-in-Some.new.best c.on_statements.ensures
    c.on_statements-in-Some.ensures)

pub on_statements-loop-statement-preserved : goal.on_statements-loop-statement-preserved
on_statements-loop-statement-preserved g t c =
    each_more (λ (s : StmtTree). each (λ (t : StmtTree). g.R.OnStatement.gives c.args.rule.now c.args.scope.now (out-StmtTree t)) (statements_in s))
    c.args.best.now c.loop-statement.best c.on_statement.new.best c.args.statements.now c.loop-statement.statement-index
    c.statement-item.result c.loop-statement-test.true c.statement-item.is c.loop-statement.invariant c.on_statement.ensures

pub on_statements-returns : goal.on_statements-returns
on_statements-returns g t c =
    let f = λ (s : StmtTree). g.R.OnStatement.gives c.args.rule.now c.args.scope.now (out-StmtTree s) in
    each_all (λ (s : StmtTree). each f (statements_in s)) c.args.best.now c.loop-statement.best c.args.statements.now
    c.loop-statement.statement-index c.loop-statement-test.false c.loop-statement.invariant
    ∙ ap (earliest c.args.best.now) (sym (each-each f statements_in c.args.statements.now))
