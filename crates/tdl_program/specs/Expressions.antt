-- The expressions that those of the sources say.
use Rattle.std.specs.Prelude.{ℕ, pos, [], Option, option_map, unwrap_or}
use Rattle.tdl_base.specs.Numbers.{truth}
use Rattle.tdl_base.specs.declared.kinds.Kind.{Kind}
use Rattle.tdl_base.specs.declared.numbers.Place.TheVariants as place
use Rattle.tdl_base.specs.declared.numbers.PortKey.{PortKey}
use Rattle.tdl_body.specs.declared.tree.Expr.{Expr}
use Rattle.tdl_body.specs.declared.tree.Expr.TheVariants as expr
use Rattle.tdl_tree.specs.declared.expressions.ExprTree.{ExprTree}
use Rattle.tdl_tree.specs.declared.expressions.ExprNode.TheOpen.{ExprNode-F}
use Rattle.tdl_tree.specs.declared.expressions.ExprNode.TheFolds.{fold-ExprTree}
use Rattle.tdl_tree.specs.declared.declarations.Sort.TheVariants as sort
use Rattle.tdl_rules.specs.declared.found.Found.{Found}
use Rattle.tdl_rules.specs.declared.found.Found.TheVariants.{Is}
use Rattle.tdl_rules.specs.declared.found.Target.{Target}
use Rattle.tdl_rules.specs.declared.found.Target.TheVariants as target
use Rattle.tdl_rules.specs.Naming.{Scope}
use Rattle.tdl_rules.specs.Meanings.{found}
use Rattle.tdl_program.specs.Literals.{number_of, literal_of}
use Rattle.tdl_program.specs.Ordinals.{ordinal, is_sensor, is_task, port_ordinal, cell_of, declarations_of, ports_at}

-- output j of task declaration k of source m
abbrev pub output_key : Scope → (m k j : ℕ) → PortKey
output_key scope m k j = record {
  «module» = record { 0 = m };
  task = record { 0 = ordinal is_task (declarations_of scope.sources m) k };
  output = port_ordinal sort.Output (ports_at scope.sources m k) j;
}

-- what a name that is found reads; a constant is its number
abbrev pub target_of : Scope → Kind → Target → Expr
target_of scope kind (target.Port k) = expr.Load (place.Cell (cell_of (unwrap_or scope.body []) k))
target_of scope kind (target.Fixed literal) = expr.Const (literal_of kind literal)
target_of scope kind (target.Sensor k) = expr.Load (place.Sensor (ordinal is_sensor scope.tree.decls k))
target_of scope kind (target.Output m k j) = expr.Load (place.Port (output_key scope m k j))

-- what a name reads; 0 where nothing is found
abbrev pub name_read : Scope → Found → Expr
name_read scope (Is kind target) = target_of scope kind target
name_read scope _ = expr.Const (pos 0)

-- one node of an expression, given its operands
abbrev pub node_of : Scope → ExprNode-F Expr Expr → Expr
node_of scope (ExprNode-F.Number n) = expr.Const (number_of n.value)
node_of scope (ExprNode-F.Truth b) = expr.Const (truth b)
node_of scope (ExprNode-F.Name parts) = name_read scope (found scope parts)
node_of scope (ExprNode-F.Un op a) = expr.Un op a
node_of scope (ExprNode-F.Bin op a b) = expr.Bin op a b

-- the expression that a tree says
unfoldable pub expression_of : Scope → ExprTree → Expr
expression_of scope = fold-ExprTree Expr Expr (node_of scope) (λ tree. tree.node)

-- the guard, where there is one
abbrev pub guard_of : Scope → Option ExprTree → Option Expr
guard_of scope guard = option_map (expression_of scope) guard
