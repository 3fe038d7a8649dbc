-- What the expression of a tree reads, node by node.
use Rattle.std.proofs.Common.{◌≡◌, ℤ, List, [], ◌∷◌, ◌++◌, Bool, ap}
use Rattle.tdl_base.specs.declared.arithmetic.BinOp.{BinOp}
use Rattle.tdl_base.specs.declared.arithmetic.UnOp.{UnOp}
use Rattle.tdl_base.specs.declared.numbers.Place.{Place}
use Rattle.tdl_body.specs.declared.tree.Expr.{Expr}
use Rattle.tdl_body.specs.declared.tree.Expr.TheVariants as expr
use Rattle.tdl_body.specs.declared.tree.Expr.TheOpen.{Expr-F}
use Rattle.tdl_body.specs.declared.tree.Expr.TheViews.{roll-Expr}
use Rattle.tdl_body.specs.Places.{places_of}
use Rattle.tdl_body.proofs.Equations.{places_of-roll}
use Rattle.tdl_tree.specs.declared.expressions.ExprNode.TheFolds.{fold-ExprNode, fold-roll-ExprTree, fold-roll-ExprNode, map-ExprNode, map-ExprTree}
use Rattle.tdl_tree.specs.declared.expressions.ExprNode.TheOpen.{ExprTree-F, ExprNode-F}
use Rattle.tdl_tree.specs.declared.expressions.ExprNode.TheViews.{roll-ExprNode, roll-ExprTree}
use Rattle.tdl_tree.specs.declared.expressions.ExprNode.{ExprNode}
use Rattle.tdl_tree.specs.declared.expressions.ExprTree.{ExprTree}
use Rattle.tdl_rules.specs.Naming.{Scope}
use Rattle.tdl_program.specs.Expressions.{node_of, expression_of}

-- ---- the expression of a tree

-- the expression that a node says
unfoldable pub expression_in : Scope → ExprNode → Expr
expression_in scope = fold-ExprNode Expr Expr (node_of scope) (λ tree. tree.node)

-- the expression of a node, from those of its operands
pub expression_in-roll : (scope : Scope) (node : ExprNode-F ExprNode ExprTree) →
    expression_in scope (roll-ExprNode node)
    ≡ node_of scope (map-ExprNode ExprNode ExprTree Expr Expr (expression_in scope) (expression_of scope) node)
unfolding expression_in expression_of
expression_in-roll scope node = fold-roll-ExprNode Expr Expr (node_of scope) (λ tree. tree.node) node

-- the expression of a tree is that of its node
pub expression_of-roll : (scope : Scope) (tree : ExprTree-F ExprNode ExprTree) →
    expression_of scope (roll-ExprTree tree) ≡ expression_in scope tree.node
unfolding expression_in expression_of
expression_of-roll scope tree = fold-roll-ExprTree Expr Expr (node_of scope) (λ tree. tree.node) tree

-- ---- what an expression reads

-- a constant reads nothing
pub places_of-const : (v : ℤ) → places_of (expr.Const v) ≡ []
unfolding roll-Expr denote.Hole.Carrier.roll
places_of-const v = places_of-roll (Expr-F.Const v)

-- what is read at a place reads it
pub places_of-load : (p : Place) → places_of (expr.Load p) ≡ p ∷ []
unfolding roll-Expr denote.Hole.Carrier.roll
places_of-load p = places_of-roll (Expr-F.Load p)

-- an operator of one operand reads what its operand does
pub places_of-un : (op : UnOp) (a : Expr) → places_of (expr.Un op a) ≡ places_of a
unfolding roll-Expr denote.Hole.Carrier.roll
places_of-un op a = places_of-roll (Expr-F.Un op a)

-- an operator of two operands reads what its operands do
pub places_of-bin : (op : BinOp) (a b : Expr) → places_of (expr.Bin op a b) ≡ places_of a ++ places_of b
unfolding roll-Expr denote.Hole.Carrier.roll
places_of-bin op a b = places_of-roll (Expr-F.Bin op a b)
