-- The sort of an expression: boolean, a number, or unknown.
use Rattle.std.specs.Prelude.{Bool, Option, Some, None, true, false}
use Rattle.tdl_base.specs.declared.arithmetic.BinOp.{BinOp}
use Rattle.tdl_base.specs.declared.arithmetic.UnOp.{UnOp}
use Rattle.tdl_base.specs.declared.kinds.Kind.{Kind}
use Rattle.tdl_rules.specs.declared.found.Found.TheVariants.{Is}
use Rattle.tdl_rules.specs.declared.found.Found.{Found}
use Rattle.tdl_tree.specs.declared.expressions.ExprNode.TheOpen.{ExprNode-F}
use Rattle.tdl_tree.specs.declared.expressions.ExprNode.TheViews.{out-ExprNode}
use Rattle.tdl_tree.specs.declared.expressions.ExprNode.{ExprNode}
use Rattle.tdl_tree.specs.declared.expressions.ExprTree.{ExprTree}
use Rattle.tdl_base.specs.declared.arithmetic.BinOp.TheVariants as bin
use Rattle.tdl_base.specs.declared.arithmetic.UnOp.TheVariants as un
use Rattle.tdl_base.specs.declared.kinds.Kind.TheVariants as kind
use Rattle.tdl_rules.specs.Naming.{Scope}
use Rattle.tdl_rules.specs.Meanings.{found}

-- a kind is boolean, or else a kind of numbers
abbrev pub is_truth : Kind → Bool
is_truth kind.Boolean = true
is_truth _ = false

-- the sort of what a name means: whether it is boolean, unknown where nothing is found
abbrev pub sort_of_found : Found → Option Bool
sort_of_found (Is kind target) = Some (is_truth kind)
sort_of_found _ = None

-- an operator of one operand gives a boolean
abbrev pub is_unary_truth : UnOp → Bool
is_unary_truth un.Neg = false
is_unary_truth un.Not = true

-- an operator of two operands gives a boolean
abbrev pub is_binary_truth : BinOp → Bool
is_binary_truth bin.Add = false
is_binary_truth bin.Sub = false
is_binary_truth bin.Mul = false
is_binary_truth bin.Div = false
is_binary_truth bin.Rem = false
is_binary_truth _ = true

-- the sort of a node: whether it is boolean, or unknown; an operator has its own
abbrev pub node_sort : Scope → ExprNode-F ExprNode ExprTree → Option Bool
node_sort scope (ExprNode-F.Number n) = Some false
node_sort scope (ExprNode-F.Truth b) = Some true
node_sort scope (ExprNode-F.Name parts) = sort_of_found (found scope parts)
node_sort scope (ExprNode-F.Un op a) = Some (is_unary_truth op)
node_sort scope (ExprNode-F.Bin op a b) = Some (is_binary_truth op)

-- the sort of an expression: that of its outermost node
abbrev pub sort_of : Scope → ExprTree → Option Bool
sort_of scope e = node_sort scope (out-ExprNode e.node)
