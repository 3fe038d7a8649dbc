-- What nodes and statements of trees say, by constructor.
use Rattle.std.proofs.Common.{◌≡◌, ℕ, List, [], map, Bool, Some, None, unwrap_or}
use Rattle.tdl_base.specs.declared.arithmetic.BinOp.{BinOp}
use Rattle.tdl_base.specs.declared.arithmetic.UnOp.{UnOp}
use Rattle.tdl_base.specs.Numbers.{truth}
use Rattle.tdl_body.specs.declared.tree.Expr.TheVariants as expr
use Rattle.tdl_body.specs.declared.tree.Stmt.{Stmt}
use Rattle.tdl_body.specs.declared.tree.Stmt.TheVariants as says
use Rattle.tdl_tree.specs.declared.expressions.ExprNode.TheOpen.{ExprNode-F}
use Rattle.tdl_tree.specs.declared.expressions.ExprNode.TheVariants as node
use Rattle.tdl_tree.specs.declared.expressions.ExprNode.TheViews.{roll-ExprNode}
use Rattle.tdl_tree.specs.declared.expressions.ExprTree.{ExprTree}
use Rattle.tdl_tree.specs.declared.names.Id.{Id}
use Rattle.tdl_tree.specs.declared.names.Num.{Num}
use Rattle.tdl_tree.specs.declared.statements.StmtTree.{StmtTree}
use Rattle.tdl_tree.specs.declared.statements.StmtTree.TheFolds.{fold-roll-StmtTree}
use Rattle.tdl_tree.specs.declared.statements.StmtTree.TheOpen.{StmtTree-F}
use Rattle.tdl_tree.specs.declared.statements.StmtTree.TheVariants as stmt
use Rattle.tdl_tree.specs.declared.statements.StmtTree.TheViews.{roll-StmtTree}
use Rattle.tdl_rules.specs.Naming.{Scope}
use Rattle.tdl_rules.specs.Meanings.{found}
use Rattle.tdl_program.specs.Literals.{number_of}
use Rattle.tdl_program.specs.Bodies.{cell_named, block_of, statement_step, statement_of}
use Rattle.tdl_program.specs.Expressions.{name_read, expression_of}
use Rattle.tdl_program.proofs.Equations.{expression_in, expression_in-roll}

-- ---- nodes

-- a number
pub expression_in-number : (scope : Scope) (n : Num) →
    expression_in scope (node.Number n) ≡ expr.Const (number_of n.value)
unfolding roll-ExprNode denote.Hole.Carrier.roll
expression_in-number scope n = expression_in-roll scope (ExprNode-F.Number n)

-- a truth value
pub expression_in-truth : (scope : Scope) (b : Bool) → expression_in scope (node.Truth b) ≡ expr.Const (truth b)
unfolding roll-ExprNode denote.Hole.Carrier.roll
expression_in-truth scope b = expression_in-roll scope (ExprNode-F.Truth b)

-- a name
pub expression_in-name : (scope : Scope) (parts : List Id) →
    expression_in scope (node.Name parts) ≡ name_read scope (found scope parts)
unfolding roll-ExprNode denote.Hole.Carrier.roll
expression_in-name scope parts = expression_in-roll scope (ExprNode-F.Name parts)

-- an operator of one operand
pub expression_in-un : (scope : Scope) (op : UnOp) (a : ExprTree) →
    expression_in scope (node.Un op a) ≡ expr.Un op (expression_of scope a)
unfolding roll-ExprNode denote.Hole.Carrier.roll
expression_in-un scope op a = expression_in-roll scope (ExprNode-F.Un op a)

-- an operator of two operands
pub expression_in-bin : (scope : Scope) (op : BinOp) (a b : ExprTree) →
    expression_in scope (node.Bin op a b) ≡ expr.Bin op (expression_of scope a) (expression_of scope b)
unfolding roll-ExprNode denote.Hole.Carrier.roll
expression_in-bin scope op a b = expression_in-roll scope (ExprNode-F.Bin op a b)

-- ---- statements

-- an assignment
pub statement_of-assign : (scope : Scope) (x : Id) (value : ExprTree) → statement_of scope (stmt.Assign x value)
    ≡ says.Assign (cell_named (unwrap_or scope.body []) x) (expression_of scope value)
unfolding statement_of roll-StmtTree denote.Hole.Carrier.roll
statement_of-assign scope x value = fold-roll-StmtTree Stmt (statement_step scope) (StmtTree-F.Assign x value)

-- an `if` without `else`
pub statement_of-if : (scope : Scope) (test : ExprTree) (then' : List StmtTree) →
    statement_of scope (stmt.If test then' None)
    ≡ says.If (expression_of scope test) (block_of (map (statement_of scope) then')) None
unfolding statement_of roll-StmtTree denote.Hole.Carrier.roll
statement_of-if scope test then' = fold-roll-StmtTree Stmt (statement_step scope) (StmtTree-F.If test then' None)

-- an `if` with `else`
pub statement_of-if_else : (scope : Scope) (test : ExprTree) (then' other : List StmtTree) →
    statement_of scope (stmt.If test then' (Some other))
    ≡ says.If (expression_of scope test) (block_of (map (statement_of scope) then'))
    (Some (block_of (map (statement_of scope) other)))
unfolding statement_of roll-StmtTree denote.Hole.Carrier.roll
statement_of-if_else scope test then' other =
    fold-roll-StmtTree Stmt (statement_step scope) (StmtTree-F.If test then' (Some other))

-- a `repeat`
pub statement_of-repeat : (scope : Scope) (count : Num) (body : List StmtTree) →
    statement_of scope (stmt.Repeat count body) ≡ says.Repeat count.value (block_of (map (statement_of scope) body))
unfolding statement_of roll-StmtTree denote.Hole.Carrier.roll
statement_of-repeat scope count body =
    fold-roll-StmtTree Stmt (statement_step scope) (StmtTree-F.Repeat count body)
