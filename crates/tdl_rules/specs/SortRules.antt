-- The rules on sorts and numbers: C5, C8.
use Rattle.std.specs.Prelude.{ℕ, Bool, List, [], ◌∷◌, Option, Some, None, if◌then◌else◌, true, false, ◌++◌, not, ◌==◌, nat_lt, ◌^◌, length}
use Rattle.tdl_base.specs.declared.arithmetic.BinOp.{BinOp}
use Rattle.tdl_base.specs.declared.arithmetic.UnOp.{UnOp}
use Rattle.tdl_base.specs.declared.kinds.Kind.{Kind}
use Rattle.tdl_rules.specs.declared.fault.Fault.{Fault}
use Rattle.tdl_rules.specs.declared.found.Found.TheVariants.{Is}
use Rattle.tdl_rules.specs.declared.found.Found.{Found}
use Rattle.tdl_tree.specs.declared.activities.Act.{Act}
use Rattle.tdl_tree.specs.declared.activities.ActKind.{ActKind}
use Rattle.tdl_tree.specs.declared.declarations.Decl.{Decl}
use Rattle.tdl_tree.specs.declared.declarations.PortDecl.{PortDecl}
use Rattle.tdl_tree.specs.declared.declarations.Tree.{Tree}
use Rattle.tdl_tree.specs.declared.expressions.ExprNode.TheOpen.{ExprNode-F}
use Rattle.tdl_tree.specs.declared.expressions.ExprNode.TheViews.{out-ExprNode}
use Rattle.tdl_tree.specs.declared.expressions.ExprNode.{ExprNode}
use Rattle.tdl_tree.specs.declared.expressions.ExprTree.{ExprTree}
use Rattle.tdl_tree.specs.declared.names.Lit.{Lit}
use Rattle.tdl_tree.specs.declared.names.LitValue.{LitValue}
use Rattle.tdl_tree.specs.declared.names.Num.{Num}
use Rattle.tdl_tree.specs.declared.statements.StmtTree.TheOpen.{StmtTree-F}
use Rattle.tdl_tree.specs.declared.statements.StmtTree.{StmtTree}
use Rattle.tdl_base.specs.declared.arithmetic.BinOp.TheVariants as bin
use Rattle.tdl_base.specs.declared.arithmetic.UnOp.TheVariants as un
use Rattle.tdl_tree.specs.declared.activities.ActKind.TheVariants as act
use Rattle.tdl_tree.specs.declared.declarations.Decl.TheVariants as decl
use Rattle.tdl_tree.specs.declared.names.LitValue.TheVariants as lit
use Rattle.tdl_rules.specs.Lists.{each}
use Rattle.tdl_rules.specs.Naming.{meant, Scope, TaskMeant, as_task, as_actuator, inputs}
use Rattle.tdl_rules.specs.Meanings.{found}
use Rattle.tdl_rules.specs.Sorts.{is_truth, sort_of}
use Rattle.tdl_rules.specs.Parts.{broken, spot_of_number, spot_of_expression, spot_of_literal, fault_if, in_declarations, in_statements, in_activities, in_expressions}

-- ---- C5 boolean where a number is needed or the reverse

-- a known sort that is not the needed one
abbrev pub differs : Option Bool → Bool → Bool
differs None needed = false
differs (Some here) needed = not (same here needed)
  where
    same : Bool → Bool → Bool
    same true b = b
    same false b = not b

-- an expression where a boolean is needed, or else a number
abbrev pub needs : Scope → ExprTree → Bool → List Fault
needs scope e needed = fault_if (differs (sort_of scope e) needed) (broken 5 scope.file (spot_of_expression e))

-- the sides of `==` or `!=`: the left side's sort is needed of the right
abbrev pub agrees : Scope → ExprTree → Option Bool → List Fault
agrees scope right None = []
agrees scope right (Some left) = needs scope right left

-- what an operator needs of two operands: a number, a boolean, or that both are of one sort
abbrev pub binary_operands : Scope → BinOp → ExprTree → ExprTree → List Fault
binary_operands scope bin.And left right = needs scope left true ++ needs scope right true
binary_operands scope bin.Or left right = needs scope left true ++ needs scope right true
binary_operands scope bin.Equal left right = agrees scope right (sort_of scope left)
binary_operands scope bin.NotEqual left right = agrees scope right (sort_of scope left)
binary_operands scope _ left right = needs scope left false ++ needs scope right false

-- what an operator needs of one operand
abbrev pub unary_operand : Scope → UnOp → ExprTree → List Fault
unary_operand scope un.Neg operand = needs scope operand false
unary_operand scope un.Not operand = needs scope operand true

-- what a node needs of its operands
abbrev pub operands : Scope → ExprNode-F ExprNode ExprTree → List Fault
operands scope (ExprNode-F.Un op operand) = unary_operand scope op operand
operands scope (ExprNode-F.Bin op left right) = binary_operands scope op left right
operands scope _ = []

-- what an expression needs of its operands
abbrev pub c5_operands : Scope → ExprTree → List Fault
c5_operands scope e = operands scope (out-ExprNode e.node)

-- a value that is assigned to what a name means, where it is found
abbrev pub needs_kind : Scope → ExprTree → Found → List Fault
needs_kind scope value (Is kind target) = needs scope value (is_truth kind)
needs_kind scope value _ = []

-- an assigned value and a condition
abbrev pub c5_statement : Scope → StmtTree-F StmtTree → List Fault
c5_statement scope (StmtTree-F.Assign x value) = needs_kind scope value (found scope (x ∷ []))
c5_statement scope (StmtTree-F.If cond then' other) = needs scope cond true
c5_statement scope (StmtTree-F.Repeat count body) = []

-- arguments against inputs, side by side
abbrev pub arguments_need : Scope → List ExprTree → List PortDecl → List Fault
arguments_need scope [] ports = []
arguments_need scope (e ∷ es) [] = []
arguments_need scope (e ∷ es) (port ∷ ports) = needs scope e (is_truth port.kind) ++ arguments_need scope es ports

-- the arguments of a task that is there, where they are as many as its inputs
abbrev pub task_needs : Scope → List ExprTree → Option TaskMeant → List Fault
task_needs scope args None = []
task_needs scope args (Some t) =
    if length args == length (inputs t.ports) then arguments_need scope args (inputs t.ports) else []

-- the value of an actuator that is there
abbrev pub update_needs : Scope → ExprTree → Option (ℕ × Kind) → List Fault
update_needs scope value None = []
update_needs scope value (Some (k, kind)) = needs scope value (is_truth kind)

-- the arguments or the value of an activity
abbrev pub what_needs : Scope → ActKind → List Fault
what_needs scope (act.Task task args) = task_needs scope args (as_task (meant scope.tree task.text))
what_needs scope (act.Update actuator value) = update_needs scope value (as_actuator (meant scope.tree actuator.text))
what_needs scope (act.Switch target) = []

-- a guard
abbrev pub guard_needs : Scope → Option ExprTree → List Fault
guard_needs scope None = []
guard_needs scope (Some guard) = needs scope guard true

-- the expressions of an activity
abbrev pub c5_activity : Scope → ℕ → Act → List Fault
c5_activity scope period activity = what_needs scope activity.what ++ guard_needs scope activity.guard

-- an initial literal with its kind, where there is one
abbrev pub initial_of : Kind → Option Lit → List (Kind × Lit)
initial_of kind None = []
initial_of kind (Some literal) = (kind, literal) ∷ []

-- the literals of a declaration, each with its kind
abbrev pub literals : Decl → List (Kind × Lit)
literals (decl.Const public kind name value) = (kind, value) ∷ []
literals (decl.Actuator kind name initial) = initial_of kind initial
literals (decl.Task public name worst ports body) = each (λ port. initial_of port.kind port.initial) ports
literals _ = []

-- a literal is boolean
abbrev pub is_truth_literal : LitValue → Bool
is_truth_literal (lit.Truth b) = true
is_truth_literal (lit.Number minus number) = false

-- a literal of a kind, in source k
abbrev pub c5_literal : ℕ → Kind → Lit → List Fault
c5_literal k kind literal =
    fault_if (differs (Some (is_truth_literal literal.value)) (is_truth kind)) (broken 5 k (spot_of_literal literal))

-- the literals of a declaration
abbrev pub c5_literals : Scope → Decl → List Fault
c5_literals scope d = each (λ literal. c5_literal scope.file literal.0 literal.1) (literals d)

-- the faults of C5
abbrev pub c5 : List Tree → List Fault
c5 sources =
    in_expressions c5_operands sources ++ in_statements c5_statement sources ++
    in_activities c5_activity sources ++ in_declarations c5_literals sources

-- ---- C8 a number in a literal or expression is above 9223372036854775807

-- a number that 64 signed bits hold: at most 9223372036854775807
abbrev pub fits_long : ℕ → Bool
fits_long n = nat_lt n (2 ^ 63)

-- a number in source k
abbrev pub too_great : ℕ → Num → List Fault
too_great k n = fault_if (not (fits_long n.value)) (broken 8 k (spot_of_number n))

-- the number of a literal
abbrev pub c8_literal : ℕ → LitValue → List Fault
c8_literal k (lit.Truth b) = []
c8_literal k (lit.Number minus number) = too_great k number

-- a number that is a node of an expression
abbrev pub c8_node : Scope → ExprNode-F ExprNode ExprTree → List Fault
c8_node scope (ExprNode-F.Number n) = too_great scope.file n
c8_node scope _ = []

-- the faults of C8
abbrev pub c8 : List Tree → List Fault
c8 sources =
    in_expressions (λ scope e. c8_node scope (out-ExprNode e.node)) sources ++
    in_declarations (λ scope d. each (λ literal. c8_literal scope.file literal.1.value) (literals d)) sources
