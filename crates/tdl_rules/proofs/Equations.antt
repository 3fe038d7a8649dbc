-- The folds over expressions and statements, by constructor.
use Rattle.std.proofs.Common.{◌≡◌, ℕ, ◌+◌, ◌*◌, max, Bool, List, [], ◌∷◌, ◌++◌, ap, ap₂, map, Some, None, ◌∙◌, refl}
use Rattle.std.proofs.lemmas.List.{append-nil}
use Rattle.tdl_base.specs.declared.arithmetic.BinOp.{BinOp}
use Rattle.tdl_base.specs.declared.arithmetic.UnOp.{UnOp}
use Rattle.tdl_tree.specs.declared.expressions.ExprNode.TheFolds.{para-roll-ExprTree, para-roll-ExprNode, fold-roll-ExprTree, fold-roll-ExprNode}
use Rattle.tdl_tree.specs.declared.expressions.ExprNode.TheOpen.{ExprNode-F}
use Rattle.tdl_tree.specs.declared.expressions.ExprNode.TheVariants as node
use Rattle.tdl_tree.specs.declared.expressions.ExprNode.TheViews.{roll-ExprNode}
use Rattle.tdl_tree.specs.declared.expressions.ExprTree.{ExprTree}
use Rattle.tdl_tree.specs.declared.names.Id.{Id}
use Rattle.tdl_tree.specs.declared.names.Num.{Num}
use Rattle.tdl_tree.specs.declared.statements.StmtTree.TheFolds.{para-roll-StmtTree, fold-roll-StmtTree}
use Rattle.tdl_tree.specs.declared.statements.StmtTree.TheOpen.{StmtTree-F}
use Rattle.tdl_tree.specs.declared.statements.StmtTree.TheVariants as stmt
use Rattle.tdl_tree.specs.declared.statements.StmtTree.TheViews.{roll-StmtTree}
use Rattle.tdl_tree.specs.declared.statements.StmtTree.{StmtTree}
use Rattle.tdl_rules.specs.Lists.{each, total}
use Rattle.tdl_rules.specs.Trees.{within, in_node, inner_of, with_inner, with_its_own, inside, statements_inside, statements_in, depth, depth_in, node_depth, steps, step_count}

-- ---- the expressions inside an expression

-- an expression comes before those inside its node
pub within-node : (e : ExprTree) → within e ≡ e ∷ in_node e.node
unfolding within in_node denote.Hole.Carrier.roll
within-node e =
    para-roll-ExprTree (List ExprTree) (List ExprTree) inner_of with_inner
    (record { line = e.line; col = e.col; node = e.node })

-- none inside a number
pub in_node-number : (n : Num) → in_node (node.Number n) ≡ []
unfolding within in_node roll-ExprNode denote.Hole.Carrier.roll
in_node-number n = para-roll-ExprNode (List ExprTree) (List ExprTree) inner_of with_inner (ExprNode-F.Number n)

-- none inside a truth value
pub in_node-truth : (b : Bool) → in_node (node.Truth b) ≡ []
unfolding within in_node roll-ExprNode denote.Hole.Carrier.roll
in_node-truth b = para-roll-ExprNode (List ExprTree) (List ExprTree) inner_of with_inner (ExprNode-F.Truth b)

-- none inside a name
pub in_node-name : (parts : List Id) → in_node (node.Name parts) ≡ []
unfolding within in_node roll-ExprNode denote.Hole.Carrier.roll
in_node-name parts = para-roll-ExprNode (List ExprTree) (List ExprTree) inner_of with_inner (ExprNode-F.Name parts)

-- the operand's inside an operator of one
pub in_node-un : (op : UnOp) (a : ExprTree) → in_node (node.Un op a) ≡ within a
unfolding within in_node roll-ExprNode denote.Hole.Carrier.roll
in_node-un op a = para-roll-ExprNode (List ExprTree) (List ExprTree) inner_of with_inner (ExprNode-F.Un op a)

-- the left operand's and then the right one's inside an operator of two
pub in_node-bin : (op : BinOp) (a b : ExprTree) → in_node (node.Bin op a b) ≡ within a ++ within b
unfolding within in_node roll-ExprNode denote.Hole.Carrier.roll
in_node-bin op a b = para-roll-ExprNode (List ExprTree) (List ExprTree) inner_of with_inner (ExprNode-F.Bin op a b)

-- ---- the depth of an expression

-- an expression is as deep as its node
pub depth-node : (e : ExprTree) → depth e ≡ depth_in e.node
unfolding depth depth_in denote.Hole.Carrier.roll
depth-node e =
    fold-roll-ExprTree ℕ ℕ node_depth (λ tree. tree.node) (record { line = e.line; col = e.col; node = e.node })

-- a number is 1 deep
pub depth_in-number : (n : Num) → depth_in (node.Number n) ≡ 1
unfolding depth_in roll-ExprNode denote.Hole.Carrier.roll
depth_in-number n = fold-roll-ExprNode ℕ ℕ node_depth (λ tree. tree.node) (ExprNode-F.Number n)

-- a truth value is 1 deep
pub depth_in-truth : (b : Bool) → depth_in (node.Truth b) ≡ 1
unfolding depth_in roll-ExprNode denote.Hole.Carrier.roll
depth_in-truth b = fold-roll-ExprNode ℕ ℕ node_depth (λ tree. tree.node) (ExprNode-F.Truth b)

-- a name is 1 deep
pub depth_in-name : (parts : List Id) → depth_in (node.Name parts) ≡ 1
unfolding depth_in roll-ExprNode denote.Hole.Carrier.roll
depth_in-name parts = fold-roll-ExprNode ℕ ℕ node_depth (λ tree. tree.node) (ExprNode-F.Name parts)

-- an operator of one operand is 1 deeper
pub depth_in-un : (op : UnOp) (a : ExprTree) → depth_in (node.Un op a) ≡ depth a + 1
unfolding depth depth_in roll-ExprNode denote.Hole.Carrier.roll
depth_in-un op a = fold-roll-ExprNode ℕ ℕ node_depth (λ tree. tree.node) (ExprNode-F.Un op a)

-- an operator of two operands is 1 deeper than the deeper one
pub depth_in-bin : (op : BinOp) (a b : ExprTree) → depth_in (node.Bin op a b) ≡ max (depth a) (depth b) + 1
unfolding depth depth_in roll-ExprNode denote.Hole.Carrier.roll
depth_in-bin op a b = fold-roll-ExprNode ℕ ℕ node_depth (λ tree. tree.node) (ExprNode-F.Bin op a b)

-- ---- the statements inside a statement

-- statements with those inside each are the statements in each
each-with_its_own : (xs : List StmtTree) →
    each with_its_own (map (λ (x : StmtTree). (x, statements_inside x)) xs) ≡ each statements_in xs
each-with_its_own [] = refl
each-with_its_own (x ∷ xs) = ap (λ (z : List StmtTree). x ∷ (statements_inside x ++ z)) (each-with_its_own xs)

-- none inside an assignment
pub statements_inside-assign : (target : Id) (value : ExprTree) → statements_inside (stmt.Assign target value) ≡ []
unfolding statements_inside roll-StmtTree denote.Hole.Carrier.roll
statements_inside-assign target value = para-roll-StmtTree (List StmtTree) inside (StmtTree-F.Assign target value)

-- those of its block inside a `repeat`
pub statements_inside-repeat : (count : Num) (body : List StmtTree) →
    statements_inside (stmt.Repeat count body) ≡ each statements_in body
unfolding statements_inside roll-StmtTree denote.Hole.Carrier.roll
statements_inside-repeat count body =
    para-roll-StmtTree (List StmtTree) inside (StmtTree-F.Repeat count body) ∙ each-with_its_own body

-- those of its block inside an `if` without `else`
pub statements_inside-if : (test : ExprTree) (then' : List StmtTree) →
    statements_inside (stmt.If test then' None) ≡ each statements_in then'
unfolding statements_inside roll-StmtTree denote.Hole.Carrier.roll
statements_inside-if test then' =
    para-roll-StmtTree (List StmtTree) inside (StmtTree-F.If test then' None) ∙ append-nil _ ∙ each-with_its_own then'

-- those of its two blocks inside an `if` with `else`
pub statements_inside-if_else : (test : ExprTree) (then' other : List StmtTree) →
    statements_inside (stmt.If test then' (Some other)) ≡ each statements_in then' ++ each statements_in other
unfolding statements_inside roll-StmtTree denote.Hole.Carrier.roll
statements_inside-if_else test then' other =
    para-roll-StmtTree (List StmtTree) inside (StmtTree-F.If test then' (Some other)) ∙
    ap₂ (λ (x y : List StmtTree). x ++ y) (each-with_its_own then') (each-with_its_own other)

-- ---- the steps of a statement

-- an assignment has 1
pub steps-assign : (target : Id) (value : ExprTree) → steps (stmt.Assign target value) ≡ 1
unfolding steps roll-StmtTree denote.Hole.Carrier.roll
steps-assign target value = fold-roll-StmtTree ℕ step_count (StmtTree-F.Assign target value)

-- a `repeat` has 1 and those of its block, as often as it says
pub steps-repeat : (count : Num) (body : List StmtTree) →
    steps (stmt.Repeat count body) ≡ 1 + count.value * total (map steps body)
unfolding steps roll-StmtTree denote.Hole.Carrier.roll
steps-repeat count body = fold-roll-StmtTree ℕ step_count (StmtTree-F.Repeat count body)

-- an `if` without `else` has 1 and those of its block
pub steps-if : (test : ExprTree) (then' : List StmtTree) →
    steps (stmt.If test then' None) ≡ 1 + total (map steps then') + 0
unfolding steps roll-StmtTree denote.Hole.Carrier.roll
steps-if test then' = fold-roll-StmtTree ℕ step_count (StmtTree-F.If test then' None)

-- an `if` with `else` has 1 and those of both blocks
pub steps-if_else : (test : ExprTree) (then' other : List StmtTree) →
    steps (stmt.If test then' (Some other)) ≡ 1 + total (map steps then') + total (map steps other)
unfolding steps roll-StmtTree denote.Hole.Carrier.roll
steps-if_else test then' other = fold-roll-StmtTree ℕ step_count (StmtTree-F.If test then' (Some other))
