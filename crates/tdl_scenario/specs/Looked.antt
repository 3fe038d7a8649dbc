-- Names that are looked up: of several things with one name the first by number is meant.
use Rattle.std.specs.Prelude.{ℕ, ◌+◌, Bool, true, false, nat_le, List, [], ◌∷◌, Option, Some, None, option_map, option_and_then, if◌then◌else◌, find, bytes_eq}
use Rattle.tdl_base.specs.declared.kinds.Kind.{Kind}
use Rattle.tdl_base.specs.declared.numbers.ModuleId.{ModuleId}
use Rattle.tdl_base.specs.declared.numbers.NodeId.{NodeId}
use Rattle.tdl_base.specs.declared.numbers.TaskId.{TaskId}
use Rattle.tdl_base.specs.declared.numbers.Us.{Us}
use Rattle.tdl_trace.specs.declared.names.Names.{Names}
use Rattle.tdl_trace.specs.declared.names.ModuleNames.{ModuleNames}
use Rattle.tdl_trace.specs.declared.names.Named.{Named}
use Rattle.tdl_trace.specs.declared.names.TaskNames.{TaskNames}
use Rattle.tdl_scenario.specs.declared.entry.Part.{Part}

-- a number of 16 bits; things with greater numbers are not found
abbrev pub short : ℕ → Option ℕ
short number = if nat_le number 65535 then Some number else None

-- the number of the first thing that passes, and f of the thing; the first of all has the number k
abbrev pub first_from : {A B : Type 0} → (A → Bool) → (A → B) → ℕ → List A → Option (ℕ × B)
first_from passes f k [] = None
first_from passes f k (x ∷ xs) =
    if passes x then option_map (λ number. (number, f x)) (short k) else first_from passes f (k + 1) xs

-- the module of a name
abbrev pub module_named : Names → List ℕ → Option ModuleNames
module_named names name = find (λ m. bytes_eq m.name name) names.modules

-- the number and the kind of the sensor or actuator of a name
abbrev pub port_named : List Named → List ℕ → Option (ℕ × Kind)
port_named ports name = first_from (λ (p : Named). bytes_eq p.name name) (λ (p : Named). p.kind) 0 ports

-- the number and the worst case of the task of a name
abbrev pub task_named : List TaskNames → List ℕ → Option (ℕ × Us)
task_named tasks name = first_from (λ (t : TaskNames). bytes_eq t.name name) (λ (t : TaskNames). t.worst) 0 tasks

-- the node of a name
abbrev pub node_named : List (List ℕ) → List ℕ → Option NodeId
node_named nodes name =
    option_map (λ found. record { 0 = found.0 })
    (first_from (λ (n : List ℕ). bytes_eq n name) (λ (n : List ℕ). n) 0 nodes)

-- the sensor of a module
abbrev pub sensor_at : Names → List ℕ → List ℕ → Option (ModuleId × ℕ × Kind)
sensor_at names module_name name =
    option_and_then (λ (m : ModuleNames). option_map (λ found. (m.number, found.0, found.1))
    (port_named m.sensors name))
    (module_named names module_name)

-- the task of a module
abbrev pub task_at : Names → List ℕ → List ℕ → Option (ModuleId × TaskId × Us)
task_at names module_name name =
    option_and_then (λ (m : ModuleNames). option_map (λ found. (m.number, record { 0 = found.0 }, found.1))
    (task_named m.tasks name))
    (module_named names module_name)

-- what is found first, or else what is found second
abbrev pub or_else : {A : Type 0} → Option A → Option A → Option A
or_else (Some x) second = Some x
or_else None second = second

-- a sensor or an actuator of a module
abbrev pub part_of : Bool → ModuleNames → Option (ℕ × Kind) → Option Part
part_of sensor m found =
    option_map (λ f. record { sensor = sensor; «module» = m.number; index = f.0 }) found

-- the sensor of a module, or else the actuator
abbrev pub part_at : Names → List ℕ → List ℕ → Option Part
part_at names module_name name =
    option_and_then (λ (m : ModuleNames).
    or_else (part_of true m (port_named m.sensors name)) (part_of false m (port_named m.actuators name)))
    (module_named names module_name)
