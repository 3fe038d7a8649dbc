-- What is counted along an expression that a tree says is what is counted along the tree.
use Rattle.std.proofs.Common.{◌≡◌, ℕ, ℤ, Bool, List, ap, ap₂, sym, ◌∙◌, subst}
use Rattle.tdl_base.specs.declared.arithmetic.BinOp.{BinOp}
use Rattle.tdl_base.specs.declared.arithmetic.UnOp.{UnOp}
use Rattle.tdl_base.specs.declared.numbers.Place.{Place}
use Rattle.tdl_body.specs.declared.tree.Expr.{Expr}
use Rattle.tdl_body.specs.declared.tree.Expr.TheVariants as expr
use Rattle.tdl_tree.specs.declared.expressions.ExprNode.TheFolds.{ind-ExprTree, map-ExprNode, map-ExprTree}
use Rattle.tdl_tree.specs.declared.expressions.ExprNode.TheOpen.{ExprTree-F, ExprNode-F}
use Rattle.tdl_tree.specs.declared.expressions.ExprNode.TheViews.{roll-ExprNode, roll-ExprTree}
use Rattle.tdl_tree.specs.declared.expressions.ExprNode.{ExprNode}
use Rattle.tdl_tree.specs.declared.expressions.ExprTree.{ExprTree}
use Rattle.tdl_tree.specs.declared.names.Id.{Id}
use Rattle.tdl_tree.specs.declared.names.Num.{Num}
use Rattle.tdl_rules.specs.declared.found.Found.{Found}
use Rattle.tdl_rules.specs.declared.found.Found.TheVariants.{Is, Lost, Unknown}
use Rattle.tdl_rules.specs.declared.found.Target.TheVariants as target
use Rattle.tdl_rules.specs.Meanings.{found}
use Rattle.tdl_rules.specs.Naming.{Scope}
use Rattle.tdl_program.specs.Expressions.{name_read, node_of, expression_of}
use Rattle.tdl_program.proofs.Equations.{expression_in, expression_in-roll, expression_of-roll}

-- a count along expressions, and the same along trees and nodes: a primary is 1, and an operator a step from the counts
-- of its operands
pub record IsMeasure (of_expression : Expr → ℕ) (in_node : ExprNode → ℕ) (in_tree : ExprTree → ℕ)
    (step : ExprNode-F ℕ ℕ → ℕ) : Type 0 where
  pub const : (v : ℤ) → of_expression (expr.Const v) ≡ 1
  pub load : (place : Place) → of_expression (expr.Load place) ≡ 1
  pub un : (op : UnOp) (a : Expr) → of_expression (expr.Un op a) ≡ step (ExprNode-F.Un op (of_expression a))
  pub bin : (op : BinOp) (a b : Expr) →
      of_expression (expr.Bin op a b) ≡ step (ExprNode-F.Bin op (of_expression a) (of_expression b))
  pub number : (n : Num) → step (ExprNode-F.Number n) ≡ 1
  pub truth : (b : Bool) → step (ExprNode-F.Truth b) ≡ 1
  pub name : (parts : List Id) → step (ExprNode-F.Name parts) ≡ 1
  pub node : (node : ExprNode-F ExprNode ExprTree) →
      in_node (roll-ExprNode node) ≡ step (map-ExprNode ExprNode ExprTree ℕ ℕ in_node in_tree node)
  pub tree : (tree : ExprTree-F ExprNode ExprTree) → in_tree (roll-ExprTree tree) ≡ in_node tree.node

module _ (scope : Scope) (of_expression : Expr → ℕ) (in_node : ExprNode → ℕ) (in_tree : ExprTree → ℕ)
    (step : ExprNode-F ℕ ℕ → ℕ) (is_measure : IsMeasure of_expression in_node in_tree step) where
  -- what a name reads is 1
  read-measured : (f : Found) → of_expression (name_read scope f) ≡ 1
  read-measured (Is kind (target.Port k)) = is_measure.load _
  read-measured (Is kind (target.Fixed literal)) = is_measure.const _
  read-measured (Is kind (target.Sensor k)) = is_measure.load _
  read-measured (Is kind (target.Output m k j)) = is_measure.load _
  read-measured (Lost rule at) = is_measure.const _
  read-measured Unknown = is_measure.const _

  -- what a node says has the node's count
  abbrev IsNode : ExprNode → Type 0
  IsNode node = of_expression (expression_in scope node) ≡ in_node node

  -- what a tree says has the tree's
  abbrev IsTree : ExprTree → Type 0
  IsTree e = of_expression (expression_of scope e) ≡ in_tree e

  -- a node and a tree of which this is known
  abbrev KnownNode : Type 0
  KnownNode = (node : ExprNode) × IsNode node

  abbrev KnownTree : Type 0
  KnownTree = (e : ExprTree) × IsTree e

  -- the node with its operands as trees
  abbrev plain : ExprNode-F KnownNode KnownTree → ExprNode-F ExprNode ExprTree
  plain node = map-ExprNode KnownNode KnownTree ExprNode ExprTree (λ e. e.0) (λ e. e.0) node

  -- a node whose operands are so
  node-measured : (node : ExprNode-F KnownNode KnownTree) →
      of_expression (node_of scope
      (map-ExprNode ExprNode ExprTree Expr Expr (expression_in scope) (expression_of scope) (plain node)))
      ≡ step (map-ExprNode ExprNode ExprTree ℕ ℕ in_node in_tree (plain node))
  node-measured (ExprNode-F.Number n) = is_measure.const _ ∙ sym (is_measure.number n)
  node-measured (ExprNode-F.Truth b) = is_measure.const _ ∙ sym (is_measure.truth b)
  node-measured (ExprNode-F.Name parts) = read-measured (found scope parts) ∙ sym (is_measure.name parts)
  node-measured (ExprNode-F.Un op a) =
      is_measure.un op (expression_of scope a.0) ∙ ap (λ n. step (ExprNode-F.Un op n)) a.1
  node-measured (ExprNode-F.Bin op a b) =
      is_measure.bin op (expression_of scope a.0) (expression_of scope b.0)
      ∙ ap₂ (λ m n. step (ExprNode-F.Bin op m n)) a.1 b.1

  -- whatever a tree says has the tree's count
  pub expression-measured : (e : ExprTree) → IsTree e
  expression-measured = ind-ExprTree IsNode IsTree (λ x node is.
      subst (λ z. IsNode (roll-ExprNode z)) is
      (ap of_expression (expression_in-roll scope (plain node)) ∙ node-measured node
      ∙ sym (is_measure.node (plain node))))
      (λ x t is.
      let tree = map-ExprTree KnownNode KnownTree ExprNode ExprTree (λ e. e.0) (λ e. e.0) t in
      subst (λ z. IsTree (roll-ExprTree z)) is
      (ap of_expression (expression_of-roll scope tree) ∙ t.node.1 ∙ sym (is_measure.tree tree)))
