-- How large trees are: the nodes of an expression, and the blocks of a statement that stand in one another.
use Rattle.std.specs.Prelude.{ℕ, ◌+◌, max, [], unwrap_or}
use Rattle.tdl_body.specs.Bounds.{greatest}
use Rattle.tdl_tree.specs.declared.expressions.ExprNode.TheFolds.{fold-ExprTree, fold-ExprNode}
use Rattle.tdl_tree.specs.declared.expressions.ExprNode.TheOpen.{ExprNode-F}
use Rattle.tdl_tree.specs.declared.expressions.ExprNode.{ExprNode}
use Rattle.tdl_tree.specs.declared.expressions.ExprTree.{ExprTree}
use Rattle.tdl_tree.specs.declared.statements.StmtTree.TheFolds.{fold-StmtTree}
use Rattle.tdl_tree.specs.declared.statements.StmtTree.TheOpen.{StmtTree-F}
use Rattle.tdl_tree.specs.declared.statements.StmtTree.{StmtTree}

-- the operators, numbers, truths and names of a node, given those of its operands
abbrev pub node_count : ExprNode-F ℕ ℕ → ℕ
node_count (ExprNode-F.Un op a) = a + 1
node_count (ExprNode-F.Bin op a b) = a + b + 1
node_count _ = 1

-- how many nodes an expression has
unfoldable pub nodes : ExprTree → ℕ
nodes = fold-ExprTree ℕ ℕ node_count (λ tree. tree.node)

-- how many are in a node, itself among them
unfoldable pub nodes_in : ExprNode → ℕ
nodes_in = fold-ExprNode ℕ ℕ node_count (λ tree. tree.node)

-- the blocks of a statement that stand in one another, given those of each statement of its blocks
abbrev pub level_count : StmtTree-F ℕ → ℕ
level_count (StmtTree-F.Assign target value) = 0
level_count (StmtTree-F.If cond then' other) = max (greatest then') (greatest (unwrap_or other [])) + 1
level_count (StmtTree-F.Repeat count body) = greatest body + 1

-- how many blocks of a statement stand in one another
unfoldable pub levels : StmtTree → ℕ
levels = fold-StmtTree ℕ level_count
