-- The parts of a program at which a rule may be broken.
use Rattle.std.specs.Prelude.{ℕ, Bool, List, [], ◌∷◌, Some, None, if◌then◌else◌, ◌++◌}
use Rattle.tdl_base.specs.Lists.{numbered}
use Rattle.tdl_rules.specs.declared.fault.Fault.{Fault}
use Rattle.tdl_rules.specs.declared.fault.Spot.{Spot}
use Rattle.tdl_tree.specs.declared.activities.Act.{Act}
use Rattle.tdl_tree.specs.declared.declarations.Decl.{Decl}
use Rattle.tdl_tree.specs.declared.declarations.Tree.{Tree}
use Rattle.tdl_tree.specs.declared.expressions.ExprTree.{ExprTree}
use Rattle.tdl_tree.specs.declared.names.Lit.{Lit}
use Rattle.tdl_tree.specs.declared.names.Num.{Num}
use Rattle.tdl_tree.specs.declared.statements.StmtTree.TheOpen.{StmtTree-F}
use Rattle.tdl_tree.specs.declared.statements.StmtTree.TheViews.{out-StmtTree}
use Rattle.tdl_tree.specs.declared.statements.StmtTree.{StmtTree}
use Rattle.tdl_tree.specs.declared.declarations.Decl.TheVariants as decl
use Rattle.tdl_rules.specs.Lists.{each}
use Rattle.tdl_rules.specs.Trees.{within, expressions_of, activity_expressions, body_statements}
use Rattle.tdl_rules.specs.Naming.{Scope}
use Rattle.tdl_rules.specs.Times.{time_us}

-- ---- faults and their places

-- rule r is broken at a place in source k
abbrev pub broken : ℕ → ℕ → Spot → Fault
broken r k at = record { rule = r; file = k; line = at.line; col = at.col }

-- where a number stands
abbrev pub spot_of_number : Num → Spot
spot_of_number n = record { line = n.line; col = n.col }

-- where an expression begins
abbrev pub spot_of_expression : ExprTree → Spot
spot_of_expression e = record { line = e.line; col = e.col }

-- where a literal begins
abbrev pub spot_of_literal : Lit → Spot
spot_of_literal l = record { line = l.line; col = l.col }

-- where an activity begins
abbrev pub spot_of_activity : Act → Spot
spot_of_activity a = record { line = a.line; col = a.col }

-- the fault, where the test holds
abbrev pub fault_if : Bool → Fault → List Fault
fault_if holds f = if holds then f ∷ [] else []

-- ---- the parts of a program

-- the modules, each as the scope of its own expressions outside bodies
abbrev pub modules : List Tree → List Scope
modules sources = numbered 0 (λ k tree. record { sources = sources; file = k; tree = tree; body = None }) sources

-- the faults that f gives of each declaration of each module
abbrev pub in_declarations : (Scope → Decl → List Fault) → List Tree → List Fault
in_declarations f sources = each (λ scope. each (f scope) scope.tree.decls) (modules sources)

-- the faults that f gives of each statement of a task's body, however deep, in the scope of the task's ports
abbrev pub at_statements : (Scope → StmtTree → List Fault) → Scope → Decl → List Fault
at_statements f scope (decl.Task public name worst ports body) =
    each (f (record scope { body = Some ports })) (body_statements body)
at_statements f scope _ = []

-- of each statement of each body
abbrev pub in_whole_statements : (Scope → StmtTree → List Fault) → List Tree → List Fault
in_whole_statements f = in_declarations (at_statements f)

-- the same, where f looks at a statement's outermost layer
abbrev pub in_statements : (Scope → StmtTree-F StmtTree → List Fault) → List Tree → List Fault
in_statements f = in_whole_statements (λ scope statement. f scope (out-StmtTree statement))

-- of each activity of a mode, with the mode's period in microseconds
abbrev pub at_activities : (Scope → ℕ → Act → List Fault) → Scope → Decl → List Fault
at_activities f scope (decl.Mode start name period acts) = each (f scope (time_us period)) acts
at_activities f scope _ = []

-- of each activity of each mode
abbrev pub in_activities : (Scope → ℕ → Act → List Fault) → List Tree → List Fault
in_activities f = in_declarations (at_activities f)

-- of each outermost expression of the program: those of statements, and those of activities
abbrev pub in_outermost : (Scope → ExprTree → List Fault) → List Tree → List Fault
in_outermost f sources =
    in_statements (λ scope statement. each (f scope) (expressions_of statement)) sources ++
    in_activities (λ scope period activity. each (f scope) (activity_expressions activity)) sources

-- of each expression of the program, however deep
abbrev pub in_expressions : (Scope → ExprTree → List Fault) → List Tree → List Fault
in_expressions f = in_outermost (λ scope e. each (f scope) (within e))

-- of the list of activities of a mode, with its period
abbrev pub at_mode : (Scope → ℕ → List Act → List Fault) → Scope → Decl → List Fault
at_mode f scope (decl.Mode start name period acts) = f scope (time_us period) acts
at_mode f scope _ = []

-- of the list of activities of each mode
abbrev pub in_modes : (Scope → ℕ → List Act → List Fault) → List Tree → List Fault
in_modes f = in_declarations (at_mode f)
