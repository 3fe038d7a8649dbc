-- What a line of a scenario says.
use Rattle.std.specs.Prelude.{ℕ, ℤ, List, [], ◌∷◌, Option, Some, None, option_map, option_and_then, unwrap_or, if◌then◌else◌, bytes_eq, codes}
use Rattle.tdl_base.specs.declared.kinds.Kind.{Kind}
use Rattle.tdl_base.specs.declared.numbers.ModuleId.{ModuleId}
use Rattle.tdl_base.specs.declared.numbers.TaskId.{TaskId}
use Rattle.tdl_base.specs.declared.numbers.Us.{Us}
use Rattle.tdl_trace.specs.declared.names.Names.{Names}
use Rattle.tdl_scen.specs.Lines.{number_of, signed_of}
use Rattle.tdl_lines.specs.DottedWords.{parts_of, pair_in}
use Rattle.tdl_scenario.specs.declared.entry.Entry.{Entry}
use Rattle.tdl_scenario.specs.declared.entry.Entry.TheVariants.{Formless, Unknown, Horizon, Sense, Exec, Order, Bind}
use Rattle.tdl_scenario.specs.declared.entry.Part.{Part}
use Rattle.tdl_scenario.specs.declared.plants.PlantPorts.{PlantPorts}
use Rattle.tdl_scenario.specs.KindRanges.{value_in}
use Rattle.tdl_scenario.specs.Looked.{sensor_at, task_at, part_at, node_named}
use Rattle.tdl_scenario.specs.Plants.{plug_of}

-- what f gives of each item, where it gives something of all
abbrev pub all_of : {A B : Type 0} → (A → Option B) → List A → Option (List B)
all_of f [] = Some []
all_of f (x ∷ xs) = option_and_then (λ y. option_map (λ ys. y ∷ ys) (all_of f xs)) (f x)

-- a value of a sensor that is looked up
abbrev pub sensed : ℕ → ℤ → Option (ModuleId × ℕ × Kind) → Entry
sensed at v None = Unknown
sensed at v (Some found) = Sense found.0 found.1 (record { 0 = at }) (value_in found.2 v)

-- times of a task that is looked up
abbrev pub timed : List ℕ → Option (ModuleId × TaskId × Us) → Entry
timed times None = Unknown
timed times (Some found) = Exec found.2 (record { «module» = found.0; task = found.1; times = times })

-- a port of a plant for a sensor or an actuator that is looked up
abbrev pub bound : List PlantPorts → ℕ → ℕ → Option Part → Entry
bound plants plant port None = Unknown
bound plants plant port (Some part) = Bind part (plug_of plants part.sensor plant port)

-- `horizon T`
abbrev pub horizon_said : List (List ℕ) → Option Entry
horizon_said (time ∷ []) = option_map (λ t. Horizon (record { 0 = t })) (number_of time)
horizon_said words = None

-- `sense M.S T V`
abbrev pub sense_said : Names → List (List ℕ) → Option Entry
sense_said names (name ∷ time ∷ value ∷ []) =
    option_and_then (λ pair. option_and_then (λ at. option_map (λ v. sensed at v (sensor_at names pair.0 pair.1))
    (signed_of value)) (number_of time)) (pair_in (parts_of name))
sense_said names words = None

-- `exec M.T E E`, with one or more times
abbrev pub exec_said : Names → List (List ℕ) → Option Entry
exec_said names (name ∷ time ∷ times) =
    option_and_then (λ pair. option_map (λ all. timed all (task_at names pair.0 pair.1)) (all_of number_of (time
    ∷ times)))
    (pair_in (parts_of name))
exec_said names words = None

-- `order NODE NODE`, with one or more names
abbrev pub order_said : Names → List (List ℕ) → Option Entry
order_said names [] = None
order_said names (node ∷ nodes) = Some (Order (all_of (node_named names.nodes) (node ∷ nodes)))

-- `bind M.X PLANT PORT`
abbrev pub bind_said : Names → List PlantPorts → List (List ℕ) → Option Entry
bind_said names plants (name ∷ plant ∷ port ∷ []) =
    option_and_then (λ pair. option_and_then (λ k. option_map (λ n. bound plants k n (part_at names pair.0 pair.1))
    (number_of port)) (number_of plant)) (pair_in (parts_of name))
bind_said names plants words = None

-- what words say after their first
abbrev pub said_after : Names → List PlantPorts → List ℕ → List (List ℕ) → Option Entry
said_after names plants key words =
    if bytes_eq key (codes "horizon") then horizon_said words
    else if bytes_eq key (codes "sense") then sense_said names words
    else if bytes_eq key (codes "exec") then exec_said names words
    else if bytes_eq key (codes "order") then order_said names words
    else if bytes_eq key (codes "bind") then bind_said names plants words
    else None

-- what the words of a line say, where there are these names and these plants
abbrev pub entry_of : Names → List PlantPorts → List (List ℕ) → Entry
entry_of names plants [] = Formless
entry_of names plants (key ∷ words) = unwrap_or (said_after names plants key words) Formless
