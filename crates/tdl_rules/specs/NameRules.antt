-- The rules on names and targets: C1, C2, C3, C4, C6, C7.
use Rattle.std.specs.Prelude.{ℕ, Bool, List, [], ◌∷◌, Option, Some, None, map, slice_get, if◌then◌else◌, true, false, ◌++◌, not, ◌==◌, length}
use Rattle.tdl_base.specs.Lists.{numbered}
use Rattle.tdl_rules.specs.declared.fault.Fault.{Fault}
use Rattle.tdl_rules.specs.declared.found.Found.TheVariants.{Is, Lost}
use Rattle.tdl_rules.specs.declared.found.Found.{Found}
use Rattle.tdl_tree.specs.declared.activities.Act.{Act}
use Rattle.tdl_tree.specs.declared.activities.ActKind.{ActKind}
use Rattle.tdl_tree.specs.declared.declarations.Decl.{Decl}
use Rattle.tdl_tree.specs.declared.declarations.PortDecl.{PortDecl}
use Rattle.tdl_tree.specs.declared.declarations.Tree.{Tree}
use Rattle.tdl_tree.specs.declared.expressions.ExprNode.TheOpen.{ExprNode-F}
use Rattle.tdl_tree.specs.declared.expressions.ExprNode.TheViews.{out-ExprNode}
use Rattle.tdl_tree.specs.declared.expressions.ExprNode.{ExprNode}
use Rattle.tdl_tree.specs.declared.expressions.ExprTree.{ExprTree}
use Rattle.tdl_tree.specs.declared.names.Id.{Id}
use Rattle.tdl_tree.specs.declared.statements.StmtTree.TheOpen.{StmtTree-F}
use Rattle.tdl_tree.specs.declared.statements.StmtTree.{StmtTree}
use Rattle.tdl_rules.specs.declared.found.Target.TheVariants as target
use Rattle.tdl_tree.specs.declared.activities.ActKind.TheVariants as act
use Rattle.tdl_rules.specs.Lists.{each, place_of, is_some}
use Rattle.tdl_rules.specs.Naming.{spot_of, space, meant, ports_in, Scope, exporter, activity_name, TaskMeant, as_task, is_activity_meant, is_input, inputs}
use Rattle.tdl_rules.specs.Meanings.{found}
use Rattle.tdl_rules.specs.Parts.{broken, fault_if, modules, in_declarations, in_statements, in_activities, in_expressions}

-- ---- C1 a name is declared a second time in its space

-- the name that is number k of its space is the first of its text, where the first is at this place
abbrev pub is_first_place : ℕ → Option ℕ → Bool
is_first_place k None = true
is_first_place k (Some j) = j == k

-- the names of a space that are not the first of their text
abbrev pub later_names : List Id → List Id
later_names ids =
    each (λ (place : ℕ × Id).
    if is_first_place place.0 (place_of place.1.text (map (λ id. id.text) ids)) then [] else place.1 ∷ [])
    (numbered 0 (λ k id. (k, id)) ids)

-- the space of the ports of a task
abbrev pub c1_ports : Scope → Decl → List Fault
c1_ports scope d = map (λ id. broken 1 scope.file (spot_of id)) (later_names (map (λ port. port.name) (ports_in d)))

-- the space of the modules: a module that is not the first of its name
abbrev pub c1_module : Scope → List Fault
c1_module scope =
    fault_if (is_some (exporter scope scope.tree.name.text)) (broken 1 scope.file (spot_of scope.tree.name))

-- the modules
abbrev pub c1_modules : List Tree → List Fault
c1_modules sources = each c1_module (modules sources)

-- the space of each module
abbrev pub c1_spaces : List Tree → List Fault
c1_spaces sources =
    each (λ scope. map (λ id. broken 1 scope.file (spot_of id)) (later_names (space scope.tree))) (modules sources)

-- the faults of C1
abbrev pub c1 : List Tree → List Fault
c1 sources = c1_modules sources ++ c1_spaces sources ++ in_declarations c1_ports sources

-- ---- C2 an import names no module of an earlier source

-- an import of a module
abbrev pub c2_import : Scope → Id → List Fault
c2_import scope id = fault_if (not (is_some (exporter scope id.text))) (broken 2 scope.file (spot_of id))

-- the faults of C2
abbrev pub c2 : List Tree → List Fault
c2 sources = each (λ scope. each (c2_import scope) scope.tree.imports) (modules sources)

-- ---- C3 and C4 a name's part is not found, or not as what is needed

-- the part that is lost, in source k
abbrev pub lost_at : ℕ → Found → List Fault
lost_at k (Lost r at) = broken r k at ∷ []
lost_at k _ = []

-- a name in an expression
abbrev pub lost_in : Scope → ExprNode-F ExprNode ExprTree → List Fault
lost_in scope (ExprNode-F.Name parts) = lost_at scope.file (found scope parts)
lost_in scope _ = []

-- the name that an expression may be
abbrev pub c3_name : Scope → ExprTree → List Fault
c3_name scope e = lost_in scope (out-ExprNode e.node)

-- the target of an assignment: neither a port nor a constant
abbrev pub c3_target : Scope → StmtTree-F StmtTree → List Fault
c3_target scope (StmtTree-F.Assign x value) = lost_at scope.file (found scope (x ∷ []))
c3_target scope _ = []

-- the task, actuator or target of an activity
abbrev pub c3_activity : Scope → ℕ → Act → List Fault
c3_activity scope period activity =
    fault_if (not (is_activity_meant scope activity.what)) (broken 3 scope.file (spot_of (activity_name activity.what)))

-- the faults of C3 and C4
abbrev pub c3_c4 : List Tree → List Fault
c3_c4 sources =
    in_expressions c3_name sources ++ in_statements c3_target sources ++ in_activities c3_activity sources

-- ---- C6 a body's target is an input or a constant

-- the port is there, and is an input
abbrev pub port_is_input : Option PortDecl → Bool
port_is_input None = false
port_is_input (Some port) = is_input port

-- what a name means is found, and no value can be assigned to it
abbrev pub no_target : Option (List PortDecl) → Found → Bool
no_target (Some ports) (Is kind (target.Port k)) = port_is_input (slice_get ports k)
no_target body (Is kind target) = true
no_target body _ = false

-- the target of an assignment
abbrev pub c6_statement : Scope → StmtTree-F StmtTree → List Fault
c6_statement scope (StmtTree-F.Assign x value) =
    fault_if (no_target scope.body (found scope (x ∷ []))) (broken 6 scope.file (spot_of x))
c6_statement scope _ = []

-- the faults of C6
abbrev pub c6 : List Tree → List Fault
c6 = in_statements c6_statement

-- ---- C7 the arguments are not as many as the inputs

-- the arguments of a task that is there
abbrev pub c7_what : Scope → ActKind → List Fault
c7_what scope (act.Task task args) = by_task (as_task (meant scope.tree task.text))
  where
    by_task : Option TaskMeant → List Fault
    by_task None = []
    by_task (Some t) =
        fault_if (not (length args == length (inputs t.ports))) (broken 7 scope.file (spot_of task))
c7_what scope _ = []

-- the faults of C7
abbrev pub c7 : List Tree → List Fault
c7 = in_activities (λ scope period activity. c7_what scope activity.what)
