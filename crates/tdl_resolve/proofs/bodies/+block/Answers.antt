-- By the statement.
use Rattle.std.proofs.Common.{◌≡◌, ◌<◌, List, [], ◌∷◌, Option, length, map, ap, refl, ◌∙◌, arith}
use Rattle.std.proofs.lemmas.Option.{slice_get_read}
use Rattle.tdl_body.specs.declared.tree.Body.{Body}
use Rattle.tdl_body.specs.declared.tree.Stmt.{Stmt}
use Rattle.tdl_tree.specs.declared.statements.StmtTree.{StmtTree}
use Rattle.tdl_tree.specs.declared.statements.StmtTree.TheVariants as stmt
use Rattle.tdl_rules.specs.Naming.{Scope}
use Rattle.tdl_program.specs.Bodies.{block_of, statement_of}
use Rattle.tdl_resolve.specs.Turns.{KeepsTurns}
use Rattle.tdl_resolve.proofs.Made.{made_assign, made_if, made_if_else, made_repeat}
use Rattle.tdl_resolve.proofs.Turns.{denied-by, said-by, then-denied, else-denied, repeat-denied, count-denied, body-denied}
use Rattle.tdl_resolve.proofs.bodies.+block.Goals as goal

-- a block is that of the statements
abbrev Blocks : Scope → List StmtTree → Body → Type 0
Blocks scope statements made = made ≡ block_of (map (statement_of scope) statements)

-- a block does not keep its turns
abbrev Denied : List StmtTree → Type 0
Denied statements = KeepsTurns statements → ⊥

pub block_in-returns-in-None : goal.block_in-returns-in-None
block_in-returns-in-None t c =
    body-denied c.args.statements.now c.loop-statement.statement-index c.statement-item.result
    (slice_get_read c.args.statements.now (length c.args.statements.now) c.loop-statement.statement-index
    c.statement-item.result refl (omega (arith, c.loop-statement-test.true)) c.statement-item.is)
    (denied-by c.in_ok-statement_in.field-0 (Denied (c.statement-item.result ∷ []))
    (λ (s : Stmt). s ≡ statement_of c.args.resolver.now c.statement-item.result) c.in_ok-statement_in.ensures c.in-None.is)

pub statement_in-returns-in-None : goal.statement_in-returns-in-None
statement_in-returns-in-None t c =
    then-denied c.args.statement.now c.in-If.cond c.in-If.first c.as_slice.result.now c.in-If.other c.in-If.is
    c.as_slice.ensures
    (denied-by c.in_ok-block_in-in-If.field-0 (Denied c.as_slice.result.now)
    (Blocks c.args.resolver.now c.as_slice.result.now) c.in_ok-block_in-in-If.ensures c.in-None.is)

pub statement_in-returns-in_ok-expression_in-in-Assign : goal.statement_in-returns-in_ok-expression_in-in-Assign
statement_in-returns-in_ok-expression_in-in-Assign t c =
    made_assign c.args.resolver.now c.args.statement.now c.in-Assign.target c.in-Assign.value c.cell_named.result
    c.in_ok-expression_in-in-Assign.field-0 c.in-Assign.is c.cell_named.ensures c.in_ok-expression_in-in-Assign.ensures

pub statement_in-returns-in-None-other : goal.statement_in-returns-in-None-other
statement_in-returns-in-None-other t c =
    made_if c.args.resolver.now c.args.statement.now c.in-If.cond c.in-If.first c.as_slice.result.now
    c.in_ok-cond-in-If.cond c.in-Some.then
    (c.in-If.is ∙ ap (λ (z : Option (List StmtTree)). stmt.If c.in-If.cond c.in-If.first z) c.in-None-other.is)
    c.as_slice.ensures c.in_ok-cond-in-If.ensures
    (said-by c.in_ok-block_in-in-If.field-0 (Denied c.as_slice.result.now)
    (Blocks c.args.resolver.now c.as_slice.result.now) c.in-Some.then c.in_ok-block_in-in-If.ensures c.in-Some.is)

pub statement_in-returns-in-None-2 : goal.statement_in-returns-in-None-2
statement_in-returns-in-None-2 t c =
    else-denied c.args.statement.now c.in-If.cond c.in-If.first c.in-Some-other.second c.as_slice-in-Some-other.result.now
    (c.in-If.is ∙ ap (λ (z : Option (List StmtTree)). stmt.If c.in-If.cond c.in-If.first z) c.in-Some-other.is)
    c.as_slice-in-Some-other.ensures
    (denied-by c.in_ok-block_in-in-Some-other.field-0 (Denied c.as_slice-in-Some-other.result.now)
    (Blocks c.args.resolver.now c.as_slice-in-Some-other.result.now) c.in_ok-block_in-in-Some-other.ensures
    c.in-None-2.is)

pub statement_in-returns-in-Some-2 : goal.statement_in-returns-in-Some-2
statement_in-returns-in-Some-2 t c =
    made_if_else c.args.resolver.now c.args.statement.now c.in-If.cond c.in-If.first c.in-Some-other.second
    c.as_slice.result.now c.as_slice-in-Some-other.result.now c.in_ok-cond-in-If.cond c.in-Some.then c.in-Some-2.other
    (c.in-If.is ∙ ap (λ (z : Option (List StmtTree)). stmt.If c.in-If.cond c.in-If.first z) c.in-Some-other.is)
    c.as_slice.ensures c.as_slice-in-Some-other.ensures c.in_ok-cond-in-If.ensures
    (said-by c.in_ok-block_in-in-If.field-0 (Denied c.as_slice.result.now)
    (Blocks c.args.resolver.now c.as_slice.result.now) c.in-Some.then c.in_ok-block_in-in-If.ensures c.in-Some.is)
    (said-by c.in_ok-block_in-in-Some-other.field-0 (Denied c.as_slice-in-Some-other.result.now)
    (Blocks c.args.resolver.now c.as_slice-in-Some-other.result.now) c.in-Some-2.other
    c.in_ok-block_in-in-Some-other.ensures c.in-Some-2.is)

pub statement_in-returns-in-Err : goal.statement_in-returns-in-Err
statement_in-returns-in-Err t c =
    let many : 65535 < c.in-Repeat.count.value = omega (arith, c.in-Err.ensures) in
    count-denied c.args.statement.now c.in-Repeat.count c.in-Repeat.body c.in-Repeat.is many

pub statement_in-returns-in-None-3 : goal.statement_in-returns-in-None-3
statement_in-returns-in-None-3 t c =
    repeat-denied c.args.statement.now c.in-Repeat.count c.in-Repeat.body c.as_slice-in-Ok.result.now c.in-Repeat.is
    c.as_slice-in-Ok.ensures
    (denied-by c.in_ok-block_in-in-Ok.field-0 (Denied c.as_slice-in-Ok.result.now)
    (Blocks c.args.resolver.now c.as_slice-in-Ok.result.now) c.in_ok-block_in-in-Ok.ensures c.in-None-3.is)

pub statement_in-returns-in-Some-3 : goal.statement_in-returns-in-Some-3
statement_in-returns-in-Some-3 t c =
    made_repeat c.args.resolver.now c.args.statement.now c.in-Repeat.count c.in-Repeat.body c.as_slice-in-Ok.result.now
    c.in-Ok.count c.in-Some-3.body c.in-Repeat.is c.in-Ok.ensures.1 c.as_slice-in-Ok.ensures
    (said-by c.in_ok-block_in-in-Ok.field-0 (Denied c.as_slice-in-Ok.result.now)
    (Blocks c.args.resolver.now c.as_slice-in-Ok.result.now) c.in-Some-3.body c.in_ok-block_in-in-Ok.ensures
    c.in-Some-3.is)
