-- Names: the spaces of a program, and what a name means in its space.
use Rattle.std.specs.Prelude.{ℕ, Bool, List, [], Option, Some, None, option_map, map, slice_get, if◌then◌else◌, true, false, ◌++◌, ◌-◌, nat_lt, length, filter}
use Rattle.tdl_base.specs.declared.kinds.Kind.{Kind}
use Rattle.tdl_rules.specs.declared.fault.Spot.{Spot}
use Rattle.tdl_tree.specs.declared.activities.ActKind.{ActKind}
use Rattle.tdl_tree.specs.declared.declarations.Decl.{Decl}
use Rattle.tdl_tree.specs.declared.declarations.PortDecl.{PortDecl}
use Rattle.tdl_tree.specs.declared.declarations.Sort.{Sort}
use Rattle.tdl_tree.specs.declared.declarations.Tree.{Tree}
use Rattle.tdl_tree.specs.declared.names.Id.{Id}
use Rattle.tdl_tree.specs.declared.names.Time.{Time}
use Rattle.tdl_tree.specs.declared.activities.ActKind.TheVariants as act
use Rattle.tdl_tree.specs.declared.declarations.Decl.TheVariants as decl
use Rattle.tdl_tree.specs.declared.declarations.Sort.TheVariants as sort
use Rattle.tdl_rules.specs.Lists.{place_of, first_named, is_some}

-- ---- spaces

-- where a name stands
abbrev pub spot_of : Id → Spot
spot_of id = record { line = id.line; col = id.col }

-- a declaration's name
abbrev pub name_of : Decl → Id
name_of (decl.Const public kind name value) = name
name_of (decl.Sensor kind name) = name
name_of (decl.Actuator kind name initial) = name
name_of (decl.Task public name worst ports body) = name
name_of (decl.Mode start name period acts) = name

-- a declaration's ports; none where it is no task
abbrev pub ports_in : Decl → List PortDecl
ports_in (decl.Task public name worst ports body) = ports
ports_in _ = []

-- the names of a module's space, in order of declaration
abbrev pub space : Tree → List Id
space tree = tree.imports ++ map name_of tree.decls

-- ---- what a name means in its space

-- what a name of a module means: an import, or a declaration with its number
pub data Meaning : Type 0 where
  Imported : Meaning
  Says : ℕ → Decl → Meaning

-- what stands at a place of the space
abbrev pub meaning_at : Tree → Option ℕ → Option Meaning
meaning_at tree None = None
meaning_at tree (Some k) =
    if nat_lt k (length tree.imports) then Some Imported
    else option_map (λ d. Says (k - length tree.imports) d) (slice_get tree.decls (k - length tree.imports))

-- the first declaration of a name is the one meant
abbrev pub meant : Tree → List ℕ → Option Meaning
meant tree x = meaning_at tree (place_of x (map (λ id. id.text) (space tree)))

-- the first of a task's ports with a name, with its number
abbrev pub port_named : List PortDecl → List ℕ → Option (ℕ × PortDecl)
port_named ports x = first_named (λ port. port.name.text) x ports

-- ---- where an expression stands

-- where an expression stands: in module `file` of the sources, in a body with these ports or outside of bodies
pub record Scope : Type 0 where
  pub sources : List Tree
  pub file : ℕ
  pub tree : Tree
  pub body : Option (List PortDecl)

-- a source whose number is below n
abbrev pub if_below : ℕ → Option (ℕ × Tree) → Option (ℕ × Tree)
if_below n None = None
if_below n (Some source) = if nat_lt source.0 n then Some source else None

-- the module of an earlier source that an import names, with its number
abbrev pub exporter : Scope → List ℕ → Option (ℕ × Tree)
exporter scope x = if_below scope.file (first_named (λ tree. tree.name.text) x scope.sources)

-- ---- what an activity names

-- the name in an activity
abbrev pub activity_name : ActKind → Id
activity_name (act.Task task args) = task
activity_name (act.Update actuator value) = actuator
activity_name (act.Switch target) = target

-- a declared task: its declaration's number, its worst case and its ports
pub record TaskMeant : Type 0 where
  pub number : ℕ
  pub worst : Time
  pub ports : List PortDecl

-- the task that a name means
abbrev pub as_task : Option Meaning → Option TaskMeant
as_task (Some (Says k (decl.Task public name worst ports body))) =
    Some (record { number = k; worst = worst; ports = ports })
as_task _ = None

-- the actuator that a name means: its declaration's number, and its kind
abbrev pub as_actuator : Option Meaning → Option (ℕ × Kind)
as_actuator (Some (Says k (decl.Actuator kind name initial))) = Some (k, kind)
as_actuator _ = None

-- the mode that a name means, by its declaration's number
abbrev pub as_mode : Option Meaning → Option ℕ
as_mode (Some (Says k (decl.Mode start name period acts))) = Some k
as_mode _ = None

-- what an activity names is there, and is a task, an actuator or a mode as the activity needs
abbrev pub is_activity_meant : Scope → ActKind → Bool
is_activity_meant scope (act.Task task args) = is_some (as_task (meant scope.tree task.text))
is_activity_meant scope (act.Update actuator value) = is_some (as_actuator (meant scope.tree actuator.text))
is_activity_meant scope (act.Switch target) = is_some (as_mode (meant scope.tree target.text))

-- a port is an input
abbrev pub is_input : PortDecl → Bool
is_input port = of_sort port.sort
  where
    of_sort : Sort → Bool
    of_sort sort.Input = true
    of_sort _ = false

-- the inputs of a task's ports
abbrev pub inputs : List PortDecl → List PortDecl
inputs ports = filter is_input ports
