-- The names of a module's parts and of a task's ports differ.
use Rattle.std.proofs.Common.{◌≡◌, ℕ, List, [], ◌∷◌, ◌++◌, map, get_or, Bool, true, false, length, refl, ap, subst}
use Rattle.std.specs.Prelude.{if◌then◌else◌, ◌||◌}
use Rattle.tdl_mode.specs.declared.program.PortDef.{PortDef}
use Rattle.tdl_tree.specs.declared.declarations.Decl.{Decl}
use Rattle.tdl_tree.specs.declared.declarations.Decl.TheVariants as decl
use Rattle.tdl_tree.specs.declared.declarations.PortDecl.{PortDecl}
use Rattle.tdl_tree.specs.declared.declarations.Sort.{Sort}
use Rattle.tdl_tree.specs.declared.declarations.Sort.TheVariants as sort
use Rattle.tdl_tree.specs.declared.names.Id.{Id}
use Rattle.tdl_rules.specs.Lists.{each}
use Rattle.tdl_rules.specs.Naming.{Scope, name_of}
use Rattle.tdl_program.specs.Ordinals.{is_sensor, is_actuator, is_task, is_mode, is_sort, ports_of}
use Rattle.tdl_program.specs.Programs.{constants_in, sensors_in, actuators_in, tasks_in, modes_in, module_of, port_of}
use Rattle.tdl_program.proofs.Counting.{IsSingle}
use Rattle.tdl_program.proofs.Singles.{single_sensor, single_actuator, single_task, single_mode}
use Rattle.tdl_kept.specs.Names.{Differ, part_names}
use Rattle.tdl_kept.proofs.Differing.{TextsDiffer}
use Rattle.tdl_kept.proofs.Drawn.{Drawn, drawn-append, drawn-each}

-- the name of the one item of a list
one_name : {B : Type 0} (name : B → List ℕ) (a b : B) → a ∷ [] ≡ b ∷ [] → name a ≡ name b
one_name name a b e = ap (λ bs. get_or (map name bs) 0 []) e

-- ---- declarations

-- a declaration of a constant
abbrev is_constant : Decl → Bool
is_constant (decl.Const public kind name value) = true
is_constant _ = false

-- one constant a declaration of one
single_constant : IsSingle is_constant constants_in
single_constant (decl.Const public kind name value) = refl
single_constant (decl.Sensor kind name) = refl
single_constant (decl.Actuator kind name initial) = refl
single_constant (decl.Task public name worst ports body) = refl
single_constant (decl.Mode start name period acts) = refl

-- what a declaration makes has its name, and passes the test of its sort
abbrev IsOwn : {B : Type 0} → (Decl → Bool) → (Decl → List B) → (B → List ℕ) → Type 0
IsOwn passes parts name = (d : Decl) (b : _) → parts d ≡ b ∷ [] → ((name_of d).text ≡ name b) × (passes d ≡ true)

-- a constant
own_constant : IsOwn is_constant constants_in (λ c. c.name)
own_constant (decl.Const public kind name value) b e = (one_name (λ c. c.name) _ b e, refl)
own_constant (decl.Sensor kind name) b e = absurd (cc e)
own_constant (decl.Actuator kind name initial) b e = absurd (cc e)
own_constant (decl.Task public name worst ports body) b e = absurd (cc e)
own_constant (decl.Mode start name period acts) b e = absurd (cc e)

-- a sensor
own_sensor : IsOwn is_sensor sensors_in (λ port. port.name)
own_sensor (decl.Sensor kind name) b e = (one_name (λ (p : PortDef). p.name) _ b e, refl)
own_sensor (decl.Const public kind name value) b e = absurd (cc e)
own_sensor (decl.Actuator kind name initial) b e = absurd (cc e)
own_sensor (decl.Task public name worst ports body) b e = absurd (cc e)
own_sensor (decl.Mode start name period acts) b e = absurd (cc e)

-- an actuator
own_actuator : IsOwn is_actuator actuators_in (λ port. port.name)
own_actuator (decl.Actuator kind name initial) b e = (one_name (λ (p : PortDef). p.name) _ b e, refl)
own_actuator (decl.Const public kind name value) b e = absurd (cc e)
own_actuator (decl.Sensor kind name) b e = absurd (cc e)
own_actuator (decl.Task public name worst ports body) b e = absurd (cc e)
own_actuator (decl.Mode start name period acts) b e = absurd (cc e)

-- a task
own_task : (scope : Scope) → IsOwn is_task (tasks_in scope) (λ task. task.name)
own_task scope (decl.Task public name worst ports body) b e = (one_name (λ task. task.name) _ b e, refl)
own_task scope (decl.Const public kind name value) b e = absurd (cc e)
own_task scope (decl.Sensor kind name) b e = absurd (cc e)
own_task scope (decl.Actuator kind name initial) b e = absurd (cc e)
own_task scope (decl.Mode start name period acts) b e = absurd (cc e)

-- a mode
own_mode : (scope : Scope) → IsOwn is_mode (modes_in scope) (λ mode. mode.name)
own_mode scope (decl.Mode start name period acts) b e = (one_name (λ mode. mode.name) _ b e, refl)
own_mode scope (decl.Const public kind name value) b e = absurd (cc e)
own_mode scope (decl.Sensor kind name) b e = absurd (cc e)
own_mode scope (decl.Actuator kind name initial) b e = absurd (cc e)
own_mode scope (decl.Task public name worst ports body) b e = absurd (cc e)

-- nothing passes both tests
abbrev Exclude : {A : Type 0} → (A → Bool) → (A → Bool) → Type 0
Exclude p q = (x : _) → p x ≡ true → q x ≡ true → ⊥

-- a task is no mode
task_or_mode : Exclude is_task is_mode
task_or_mode (decl.Task public name worst ports body) e f = cc f
task_or_mode (decl.Const public kind name value) e f = cc e
task_or_mode (decl.Sensor kind name) e f = cc e
task_or_mode (decl.Actuator kind name initial) e f = cc e
task_or_mode (decl.Mode start name period acts) e f = cc e

-- an actuator is neither
actuator_or_more : Exclude is_actuator (λ d. is_task d || is_mode d)
actuator_or_more (decl.Actuator kind name initial) e f = cc f
actuator_or_more (decl.Const public kind name value) e f = cc e
actuator_or_more (decl.Sensor kind name) e f = cc e
actuator_or_more (decl.Task public name worst ports body) e f = cc e
actuator_or_more (decl.Mode start name period acts) e f = cc e

-- a sensor is none of these
sensor_or_more : Exclude is_sensor (λ d. is_actuator d || (is_task d || is_mode d))
sensor_or_more (decl.Sensor kind name) e f = cc f
sensor_or_more (decl.Const public kind name value) e f = cc e
sensor_or_more (decl.Actuator kind name initial) e f = cc e
sensor_or_more (decl.Task public name worst ports body) e f = cc e
sensor_or_more (decl.Mode start name period acts) e f = cc e

-- nor is a constant
constant_or_more : Exclude is_constant (λ d. is_sensor d || (is_actuator d || (is_task d || is_mode d)))
constant_or_more (decl.Const public kind name value) e f = cc f
constant_or_more (decl.Sensor kind name) e f = cc e
constant_or_more (decl.Actuator kind name initial) e f = cc e
constant_or_more (decl.Task public name worst ports body) e f = cc e
constant_or_more (decl.Mode start name period acts) e f = cc e

-- where the names of declarations differ, so do those of the module's parts
pub parts-differ : (scope : Scope) → TextsDiffer (map name_of scope.tree.decls) → Differ (part_names (module_of scope))
parts-differ scope differ =
    let decls = scope.tree.decls in
    let constants = drawn-each name_of decls differ is_constant constants_in
    (λ c. c.name) single_constant own_constant in
    let sensors = drawn-each name_of decls differ is_sensor sensors_in (λ port. port.name) single_sensor own_sensor in
    let actuators =
    drawn-each name_of decls differ is_actuator actuators_in (λ port. port.name) single_actuator own_actuator in
    let tasks =
    drawn-each name_of decls differ is_task (tasks_in scope) (λ task. task.name) (single_task scope) (own_task scope) in
    let modes =
    drawn-each name_of decls differ is_mode (modes_in scope) (λ mode. mode.name) (single_mode scope) (own_mode scope) in
    (drawn-append name_of decls differ is_constant _ constant_or_more _ _ constants
    (drawn-append name_of decls differ is_sensor _ sensor_or_more _ _ sensors
    (drawn-append name_of decls differ is_actuator _ actuator_or_more _ _ actuators
    (drawn-append name_of decls differ is_task is_mode task_or_mode _ _ tasks modes)))).differ

-- ---- ports

-- the name of a port
abbrev port_name : PortDecl → Id
port_name port = port.name

-- a port is of a sort
abbrev is_of : Sort → PortDecl → Bool
is_of s port = is_sort s port.sort

-- the port of a sort that a declaration makes
abbrev made_of : Sort → PortDecl → List PortDef
made_of s port = if is_of s port then port_of port ∷ [] else []

-- the ports of a sort, one by one
ports-each : (s : Sort) (ports : List PortDecl) → each (made_of s) ports ≡ map port_of (ports_of s ports)
ports-each s [] = refl
ports-each s (port ∷ ports) = by_test (is_of s port) (ports-each s ports)
  where
    by_test : (t : Bool) → each (made_of s) ports ≡ map port_of (ports_of s ports) →
        (if t then port_of port ∷ [] else []) ++ each (made_of s) ports
        ≡ map port_of (if t then port ∷ ports_of s ports else ports_of s ports)
    by_test true rest = ap (λ (ps : List PortDef). port_of port ∷ ps) rest
    by_test false rest = rest

-- one of a port of the sort
single_port : (s : Sort) → IsSingle (is_of s) (made_of s)
single_port s port = by_test (is_of s port)
  where
    by_test : (t : Bool) → length (if t then port_of port ∷ [] else []) ≡ (if t then 1 else 0)
    by_test true = refl
    by_test false = refl

-- it has the port's name
own_port : (s : Sort) (port : PortDecl) (b : PortDef) → made_of s port ≡ b ∷ [] →
    ((port_name port).text ≡ b.name) × (is_of s port ≡ true)
own_port s port b e = by_test (is_of s port) refl e
  where
    by_test : (t : Bool) → is_of s port ≡ t → (if t then port_of port ∷ [] else []) ≡ b ∷ [] →
        ((port_name port).text ≡ b.name) × (is_of s port ≡ true)
    by_test true is e = (one_name (λ (p : PortDef). p.name) (port_of port) b e, is)
    by_test false is e = absurd (cc e)

-- an output is no local
output_or_local : Exclude (is_of sort.Output) (is_of sort.Local)
output_or_local port = by_sort port.sort
  where
    by_sort : (s : Sort) → is_sort sort.Output s ≡ true → is_sort sort.Local s ≡ true → ⊥
    by_sort sort.Input e f = cc e
    by_sort sort.Output e f = cc f
    by_sort sort.Local e f = cc e

-- an input is neither
input_or_more : Exclude (is_of sort.Input) (λ port. is_of sort.Output port || is_of sort.Local port)
input_or_more port = by_sort port.sort
  where
    by_sort : (s : Sort) → is_sort sort.Input s ≡ true → (is_sort sort.Output s || is_sort sort.Local s) ≡ true → ⊥
    by_sort sort.Input e f = cc f
    by_sort sort.Output e f = cc e
    by_sort sort.Local e f = cc e

-- the names of the ports of a sort
drawn-ports : (ports : List PortDecl) → TextsDiffer (map port_name ports) → (s : Sort) →
    Drawn port_name ports (is_of s) (map (λ port. port.name) (map port_of (ports_of s ports)))
drawn-ports ports differ s =
    subst (λ (ps : List PortDef). Drawn port_name ports (is_of s) (map (λ port. port.name) ps)) (ports-each s ports)
    (drawn-each port_name ports differ (is_of s) (made_of s) (λ port. port.name) (single_port s) (own_port s))

-- where the names of ports differ, so do those of the task's
pub ports-differ : (ports : List PortDecl) → TextsDiffer (map port_name ports) →
    Differ (map (λ (port : PortDef). port.name) (map port_of (ports_of sort.Input ports))
    ++ (map (λ (port : PortDef). port.name) (map port_of (ports_of sort.Output ports))
    ++ map (λ (port : PortDef). port.name) (map port_of (ports_of sort.Local ports))))
ports-differ ports differ =
    (drawn-append port_name ports differ (is_of sort.Input) _ input_or_more _ _ (drawn-ports ports differ sort.Input)
    (drawn-append port_name ports differ (is_of sort.Output) (is_of sort.Local) output_or_local _ _
    (drawn-ports ports differ sort.Output) (drawn-ports ports differ sort.Local))).differ
