-- The rules on bounds: C18 to C21.
use Rattle.std.specs.Prelude.{ℕ, List, [], ◌∷◌, Option, Some, None, map, slice_get, if◌then◌else◌, ◌++◌, ◌-◌, nat_lt, length}
use Rattle.tdl_base.specs.declared.limits.TheConstants.{ACTUATORS, CONSTANTS, EXPRESSION_DEPTH, MODES, OCCURRENCES, PORTS, REPEAT, SENSORS, STEPS, TASKS}
use Rattle.tdl_rules.specs.declared.fault.Fault.{Fault}
use Rattle.tdl_tree.specs.declared.activities.Act.{Act}
use Rattle.tdl_tree.specs.declared.activities.ActKind.{ActKind}
use Rattle.tdl_tree.specs.declared.declarations.Decl.{Decl}
use Rattle.tdl_tree.specs.declared.declarations.Tree.{Tree}
use Rattle.tdl_tree.specs.declared.expressions.ExprTree.{ExprTree}
use Rattle.tdl_tree.specs.declared.names.Id.{Id}
use Rattle.tdl_tree.specs.declared.statements.StmtTree.TheOpen.{StmtTree-F}
use Rattle.tdl_tree.specs.declared.statements.StmtTree.{StmtTree}
use Rattle.tdl_tree.specs.declared.activities.ActKind.TheVariants as act
use Rattle.tdl_tree.specs.declared.declarations.Decl.TheVariants as decl
use Rattle.tdl_rules.specs.Lists.{each, total}
use Rattle.tdl_rules.specs.Trees.{depth, steps}
use Rattle.tdl_rules.specs.Naming.{spot_of, ports_in, Scope}
use Rattle.tdl_rules.specs.Times.{time_us, lets, times}
use Rattle.tdl_rules.specs.Parts.{broken, spot_of_number, spot_of_expression, spot_of_activity, fault_if, modules, in_declarations, in_statements, in_outermost}

-- ---- C18 a `repeat` count is above 1,000

-- the count of a `repeat`
abbrev pub c18_statement : Scope → StmtTree-F StmtTree → List Fault
c18_statement scope (StmtTree-F.Repeat count body) =
    fault_if (nat_lt REPEAT count.value) (broken 18 scope.file (spot_of_number count))
c18_statement scope _ = []

-- the faults of C18
abbrev pub c18 : List Tree → List Fault
c18 = in_statements c18_statement

-- ---- C19 an outermost expression is deeper than 32

-- an outermost expression
abbrev pub c19_outermost : Scope → ExprTree → List Fault
c19_outermost scope e =
    fault_if (nat_lt EXPRESSION_DEPTH (depth e)) (broken 19 scope.file (spot_of_expression e))

-- the faults of C19
abbrev pub c19 : List Tree → List Fault
c19 = in_outermost c19_outermost

-- ---- C20 a body has more than 100,000 steps

-- the body of a task
abbrev pub c20_declaration : Scope → Decl → List Fault
c20_declaration scope (decl.Task public name worst ports body) =
    fault_if (nat_lt STEPS (total (map steps body))) (broken 20 scope.file (spot_of name))
c20_declaration scope _ = []

-- the faults of C20
abbrev pub c20 : List Tree → List Fault
c20 = in_declarations c20_declaration

-- ---- C21 a count is passed

-- the item with which there are more than n
abbrev pub passing : {A : Type 0} → ℕ → List A → Option A
passing n xs = slice_get xs n

-- the name with which a count is passed, where there is one
abbrev pub past : Scope → Option Id → List Fault
past scope None = []
past scope (Some id) = broken 21 scope.file (spot_of id) ∷ []

-- the name of a task
abbrev pub task_names : Decl → List Id
task_names (decl.Task public name worst ports body) = name ∷ []
task_names _ = []

-- the name of a mode
abbrev pub mode_names : Decl → List Id
mode_names (decl.Mode start name period acts) = name ∷ []
mode_names _ = []

-- the name of a constant
abbrev pub constant_names : Decl → List Id
constant_names (decl.Const public kind name value) = name ∷ []
constant_names _ = []

-- the name of a sensor
abbrev pub sensor_names : Decl → List Id
sensor_names (decl.Sensor kind name) = name ∷ []
sensor_names _ = []

-- the name of an actuator
abbrev pub actuator_names : Decl → List Id
actuator_names (decl.Actuator kind name initial) = name ∷ []
actuator_names _ = []

-- the tasks, modes, constants, sensors and actuators of a module
abbrev pub c21_module : Scope → List Fault
c21_module scope =
    past scope (passing TASKS (each task_names scope.tree.decls)) ++
    past scope (passing MODES (each mode_names scope.tree.decls)) ++
    past scope (passing CONSTANTS (each constant_names scope.tree.decls)) ++
    past scope (passing SENSORS (each sensor_names scope.tree.decls)) ++
    past scope (passing ACTUATORS (each actuator_names scope.tree.decls))

-- the ports of a task
abbrev pub c21_ports : Scope → Decl → List Fault
c21_ports scope d = past scope (passing PORTS (map (λ port. port.name) (ports_in d)))

-- how many occurrences an activity has in a mode of this period
abbrev pub count_of : ℕ → Act → ActKind → ℕ
count_of period activity (act.Task task args) = length (lets period activity)
count_of period activity _ = length (times period activity)

-- the activities of a mode, each as the fault that it may be, with its occurrences
abbrev pub counted : Scope → Decl → List (Fault × ℕ)
counted scope (decl.Mode start name period acts) =
    map (λ activity. (fault_at activity, count_of (time_us period) activity activity.what)) acts
  where
    fault_at : Act → Fault
    fault_at activity = broken 21 scope.file (spot_of_activity activity)
counted scope _ = []

-- the first with which the sum of the numbers passes n
abbrev pub passes : ℕ → List (Fault × ℕ) → List Fault
passes n [] = []
passes n (first ∷ more) = if nat_lt n first.1 then first.0 ∷ [] else passes (n - first.1) more

-- the faults of C21
abbrev pub c21 : List Tree → List Fault
c21 sources =
    each c21_module (modules sources) ++ in_declarations c21_ports sources ++
    passes OCCURRENCES (each (λ scope. each (counted scope) scope.tree.decls) (modules sources))
