-- The sizes of expressions and statements, by constructor.
use Rattle.std.proofs.Common.{◌≡◌, ℕ, ◌+◌, max, Bool, List, map, Some, None}
use Rattle.tdl_base.specs.declared.arithmetic.BinOp.{BinOp}
use Rattle.tdl_base.specs.declared.arithmetic.UnOp.{UnOp}
use Rattle.tdl_body.specs.Bounds.{greatest}
use Rattle.tdl_tree.specs.declared.expressions.ExprNode.TheFolds.{fold-roll-ExprTree, fold-roll-ExprNode}
use Rattle.tdl_tree.specs.declared.expressions.ExprNode.TheOpen.{ExprNode-F}
use Rattle.tdl_tree.specs.declared.expressions.ExprNode.TheVariants as node
use Rattle.tdl_tree.specs.declared.expressions.ExprNode.TheViews.{roll-ExprNode}
use Rattle.tdl_tree.specs.declared.expressions.ExprTree.{ExprTree}
use Rattle.tdl_tree.specs.declared.names.Id.{Id}
use Rattle.tdl_tree.specs.declared.names.Num.{Num}
use Rattle.tdl_tree.specs.declared.statements.StmtTree.TheFolds.{fold-roll-StmtTree}
use Rattle.tdl_tree.specs.declared.statements.StmtTree.TheOpen.{StmtTree-F}
use Rattle.tdl_tree.specs.declared.statements.StmtTree.TheVariants as stmt
use Rattle.tdl_tree.specs.declared.statements.StmtTree.TheViews.{roll-StmtTree}
use Rattle.tdl_tree.specs.declared.statements.StmtTree.{StmtTree}
use Rattle.tdl_size.specs.Sizes.{node_count, nodes, nodes_in, level_count, levels}

-- ---- the nodes of an expression

-- they are those in its node
pub nodes-node : (e : ExprTree) → nodes e ≡ nodes_in e.node
unfolding nodes nodes_in denote.Hole.Carrier.roll
nodes-node e =
    fold-roll-ExprTree ℕ ℕ node_count (λ tree. tree.node) (record { line = e.line; col = e.col; node = e.node })

-- a number is one
pub nodes_in-number : (n : Num) → nodes_in (node.Number n) ≡ 1
unfolding nodes_in roll-ExprNode denote.Hole.Carrier.roll
nodes_in-number n = fold-roll-ExprNode ℕ ℕ node_count (λ tree. tree.node) (ExprNode-F.Number n)

-- so is a truth value
pub nodes_in-truth : (b : Bool) → nodes_in (node.Truth b) ≡ 1
unfolding nodes_in roll-ExprNode denote.Hole.Carrier.roll
nodes_in-truth b = fold-roll-ExprNode ℕ ℕ node_count (λ tree. tree.node) (ExprNode-F.Truth b)

-- and a name
pub nodes_in-name : (parts : List Id) → nodes_in (node.Name parts) ≡ 1
unfolding nodes_in roll-ExprNode denote.Hole.Carrier.roll
nodes_in-name parts = fold-roll-ExprNode ℕ ℕ node_count (λ tree. tree.node) (ExprNode-F.Name parts)

-- an operator of one operand is one more
pub nodes_in-un : (op : UnOp) (a : ExprTree) → nodes_in (node.Un op a) ≡ nodes a + 1
unfolding nodes nodes_in roll-ExprNode denote.Hole.Carrier.roll
nodes_in-un op a = fold-roll-ExprNode ℕ ℕ node_count (λ tree. tree.node) (ExprNode-F.Un op a)

-- so is one of two operands
pub nodes_in-bin : (op : BinOp) (a b : ExprTree) → nodes_in (node.Bin op a b) ≡ nodes a + nodes b + 1
unfolding nodes nodes_in roll-ExprNode denote.Hole.Carrier.roll
nodes_in-bin op a b = fold-roll-ExprNode ℕ ℕ node_count (λ tree. tree.node) (ExprNode-F.Bin op a b)

-- ---- the blocks of a statement that stand in one another

-- an assignment has none
pub levels-assign : (target : Id) (value : ExprTree) → levels (stmt.Assign target value) ≡ 0
unfolding levels roll-StmtTree denote.Hole.Carrier.roll
levels-assign target value = fold-roll-StmtTree ℕ level_count (StmtTree-F.Assign target value)

-- a `repeat` has its own more than its statements have
pub levels-repeat : (count : Num) (body : List StmtTree) →
    levels (stmt.Repeat count body) ≡ greatest (map levels body) + 1
unfolding levels roll-StmtTree denote.Hole.Carrier.roll
levels-repeat count body = fold-roll-StmtTree ℕ level_count (StmtTree-F.Repeat count body)

-- so has an `if` without `else`
pub levels-if : (test : ExprTree) (then' : List StmtTree) →
    levels (stmt.If test then' None) ≡ max (greatest (map levels then')) 0 + 1
unfolding levels roll-StmtTree denote.Hole.Carrier.roll
levels-if test then' = fold-roll-StmtTree ℕ level_count (StmtTree-F.If test then' None)

-- with `else` it has one more than the deeper of both
pub levels-if_else : (test : ExprTree) (then' other : List StmtTree) →
    levels (stmt.If test then' (Some other)) ≡ max (greatest (map levels then')) (greatest (map levels other)) + 1
unfolding levels roll-StmtTree denote.Hole.Carrier.roll
levels-if_else test then' other = fold-roll-StmtTree ℕ level_count (StmtTree-F.If test then' (Some other))
