-- Trees as lists: the nodes of an expression, the statements of a body.
use Rattle.std.specs.Prelude.{ℕ, List, [], ◌∷◌, Option, Some, None, ◌+◌, ◌*◌, max, ◌++◌, unwrap_or}
use Rattle.tdl_tree.specs.declared.activities.Act.{Act}
use Rattle.tdl_tree.specs.declared.activities.ActKind.{ActKind}
use Rattle.tdl_tree.specs.declared.expressions.ExprNode.TheFolds.{para-ExprTree, para-ExprNode, fold-ExprTree, fold-ExprNode}
use Rattle.tdl_tree.specs.declared.expressions.ExprNode.TheOpen.{ExprNode-F, ExprTree-F}
use Rattle.tdl_tree.specs.declared.expressions.ExprNode.{ExprNode}
use Rattle.tdl_tree.specs.declared.expressions.ExprTree.{ExprTree}
use Rattle.tdl_tree.specs.declared.statements.StmtTree.TheFolds.{para-StmtTree, fold-StmtTree}
use Rattle.tdl_tree.specs.declared.statements.StmtTree.TheOpen.{StmtTree-F}
use Rattle.tdl_tree.specs.declared.statements.StmtTree.{StmtTree}
use Rattle.tdl_tree.specs.declared.activities.ActKind.TheVariants as act
use Rattle.tdl_rules.specs.Lists.{each, total}

-- ---- expressions

-- the expressions inside a node, given those of each operand
abbrev pub inner_of : ExprNode-F (ExprNode × List ExprTree) (ExprTree × List ExprTree) → List ExprTree
inner_of (ExprNode-F.Number n) = []
inner_of (ExprNode-F.Truth b) = []
inner_of (ExprNode-F.Name parts) = []
inner_of (ExprNode-F.Un op a) = a.1
inner_of (ExprNode-F.Bin op a b) = a.1 ++ b.1

-- an expression before those inside its node
abbrev pub with_inner : ExprTree-F (ExprNode × List ExprTree) (ExprTree × List ExprTree) → List ExprTree
with_inner tree = (record { line = tree.line; col = tree.col; node = tree.node.0 }) ∷ tree.node.1

-- an expression and all expressions inside it, each before those inside it
unfoldable pub within : ExprTree → List ExprTree
within = para-ExprTree (List ExprTree) (List ExprTree) inner_of with_inner

-- all expressions inside a node
unfoldable pub in_node : ExprNode → List ExprTree
in_node = para-ExprNode (List ExprTree) (List ExprTree) inner_of with_inner

-- the depth of a node, given that of its operands
abbrev pub node_depth : ExprNode-F ℕ ℕ → ℕ
node_depth (ExprNode-F.Un op a) = a + 1
node_depth (ExprNode-F.Bin op a b) = max a b + 1
node_depth _ = 1

-- how deep an expression is: a primary 1, an operator 1 more than its deepest operand
unfoldable pub depth : ExprTree → ℕ
depth = fold-ExprTree ℕ ℕ node_depth (λ tree. tree.node)

-- how deep a node is
unfoldable pub depth_in : ExprNode → ℕ
depth_in = fold-ExprNode ℕ ℕ node_depth (λ tree. tree.node)

-- ---- statements

-- a statement before those inside it
abbrev pub with_its_own : StmtTree × List StmtTree → List StmtTree
with_its_own statement = statement.0 ∷ statement.1

-- the statements inside the blocks of a statement, given those inside each of a block
abbrev pub inside : StmtTree-F (StmtTree × List StmtTree) → List StmtTree
inside (StmtTree-F.Assign target value) = []
inside (StmtTree-F.If cond then' other) = each with_its_own then' ++ each with_its_own (unwrap_or other [])
inside (StmtTree-F.Repeat count body) = each with_its_own body

-- the statements inside a statement, however deep
unfoldable pub statements_inside : StmtTree → List StmtTree
statements_inside = para-StmtTree (List StmtTree) inside

-- a statement and all statements inside it
abbrev pub statements_in : StmtTree → List StmtTree
statements_in statement = statement ∷ statements_inside statement

-- all statements of a body, however deep
abbrev pub body_statements : List StmtTree → List StmtTree
body_statements body = each statements_in body

-- the steps of a statement, given those of each statement of its blocks
abbrev pub step_count : StmtTree-F ℕ → ℕ
step_count (StmtTree-F.Assign target value) = 1
step_count (StmtTree-F.If cond then' other) = 1 + total then' + total (unwrap_or other [])
step_count (StmtTree-F.Repeat count body) = 1 + count.value * total body

-- how many steps a statement has: 1, and those of its blocks, of a `repeat` as often as it is done
unfoldable pub steps : StmtTree → ℕ
steps = fold-StmtTree ℕ step_count

-- ---- outermost expressions

-- the outermost expressions of a statement, without those inside its blocks
abbrev pub expressions_of : StmtTree-F StmtTree → List ExprTree
expressions_of (StmtTree-F.Assign target value) = value ∷ []
expressions_of (StmtTree-F.If cond then' other) = cond ∷ []
expressions_of (StmtTree-F.Repeat count body) = []

-- the arguments or the value of an activity
abbrev pub expressions_in : ActKind → List ExprTree
expressions_in (act.Task task args) = args
expressions_in (act.Update actuator value) = value ∷ []
expressions_in (act.Switch target) = []

-- the guard, where there is one
abbrev pub guard_expressions : Option ExprTree → List ExprTree
guard_expressions None = []
guard_expressions (Some guard) = guard ∷ []

-- the outermost expressions of an activity
abbrev pub activity_expressions : Act → List ExprTree
activity_expressions activity = expressions_in activity.what ++ guard_expressions activity.guard
