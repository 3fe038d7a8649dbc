-- What the line of each form says of the names.
use Rattle.std.proofs.Common.{◌≡◌, ℕ, ◌+◌, ℤ, Bool, true, false, List, [], ◌∷◌, map, Option, Some, None, option_map, option_and_then, unwrap_or, if◌then◌else◌, slice_get, bytes_eq, codes, refl, ap, subst, arith}
use Rattle.std.specs.List.{AllByRecursion}
use Rattle.tdl_base.specs.declared.kinds.Kind.{Kind}
use Rattle.tdl_base.specs.declared.numbers.Us.{Us}
use Rattle.tdl_base.specs.declared.numbers.ModuleId.{ModuleId}
use Rattle.tdl_trace.specs.declared.names.ModuleNames.{ModuleNames}
use Rattle.tdl_trace.specs.declared.names.Named.{Named}
use Rattle.tdl_trace.specs.declared.names.Names.{Names}
use Rattle.tdl_trace.specs.declared.names.TaskNames.{TaskNames}
use Rattle.tdl_lines.specs.declared.said.Said.{Said}
use Rattle.tdl_lines.specs.DottedWords.{parts_of, pair_in}
use Rattle.tdl_lines.specs.SaidLines.{NumberedLine, words_said}
use Rattle.tdl_scen.specs.Lines.{number_of, signed_of}
use Rattle.tdl_scen.specs.declared.entries.TaskTimes.{TaskTimes}
use Rattle.tdl_scenario.specs.declared.entry.Entry.{Entry}
use Rattle.tdl_scenario.specs.declared.entry.Entry.TheVariants.{Formless, Horizon, Sense, Exec}
use Rattle.tdl_scenario.specs.declared.entry.Part.{Part}
use Rattle.tdl_scenario.specs.declared.plants.PlantPorts.{PlantPorts}
use Rattle.tdl_scenario.specs.Entries.{all_of, sensed, timed, bound, horizon_said, sense_said, exec_said, order_said, bind_said, entry_of}
use Rattle.tdl_scenario.specs.KindRanges.{value_in}
use Rattle.tdl_scenario.specs.LawfulScenario.{HasModule}
use Rattle.tdl_scenario.specs.Looked.{module_named, port_named, task_named, sensor_at, task_at, part_at}
use Rattle.tdl_scenario.proofs.FirstThings.{find_at, first_at}

-- the sensor of a line is there, and the value is looked for in its kind
pub record SensorSaid (names : Names) (m : ModuleId) (k : ℕ) (v : Option ℤ) : Type 0 where
  pub home : ModuleNames
  pub sensor : Named
  pub raw : ℤ
  pub within : HasModule names m home
  pub is : slice_get home.sensors k ≡ Some sensor
  pub value : v ≡ value_in sensor.kind raw

-- the task of a line is there, with its worst case
pub record TaskSaid (names : Names) (worst : Us) (times : TaskTimes) : Type 0 where
  pub home : ModuleNames
  pub task : TaskNames
  pub within : HasModule names times.«module» home
  pub is : slice_get home.tasks times.task.0 ≡ Some task
  pub most : worst ≡ task.worst

-- what a line says is there
abbrev pub IsThere : Names → Entry → Type 0
IsThere names (Sense m k at v) = SensorSaid names m k v
IsThere names (Exec worst times) = TaskSaid names worst times
IsThere names e = Unit {0}

-- the same of a line that may be of no form
abbrev IsFormed : Names → Option Entry → Type 0
IsFormed names said = IsThere names (unwrap_or said Formless)

-- a module that is found by its name
has_module : (names : Names) (name : List ℕ) (m : ModuleNames) → module_named names name ≡ Some m →
    HasModule names m.number m
has_module names name m e =
    let found = find_at (λ (n : ModuleNames). bytes_eq n.name name) names.modules m e in
    record { place = found.place; is = found.is; number = refl }

-- a sensor that is looked up
sensor_there : (names : Names) (a b : List ℕ) (at : ℕ) (v : ℤ) → IsThere names (sensed at v (sensor_at names a b))
sensor_there names a b at v = by_module (module_named names a) refl
  where
    by_sensor : (m : ModuleNames) → HasModule names m.number m → (o : Option (ℕ × Kind)) → port_named m.sensors b ≡ o →
        IsThere names (sensed at v (option_map (λ found. (m.number, found.0, found.1)) o))
    by_sensor m has None e = tt
    by_sensor m has (Some found) e =
        let f = first_at (λ (p : Named). bytes_eq p.name b) (λ (p : Named). p.kind) m.sensors 0 found e in
        let number : found.0 ≡ 0 + f.place = f.number in
        let place : f.place ≡ found.0 = omega (arith, number) in
        record {
          home = m;
          sensor = f.thing;
          raw = v;
          within = has;
          is = subst (λ (n : ℕ). slice_get m.sensors n ≡ Some f.thing) place f.is;
          value = ap (λ (kind : Kind). value_in kind v) f.gives;
        }

    by_module : (o : Option ModuleNames) → module_named names a ≡ o →
        IsThere names (sensed at v (option_and_then (λ (m : ModuleNames). option_map
        (λ found. (m.number, found.0, found.1)) (port_named m.sensors b)) o))
    by_module None e = tt
    by_module (Some m) e = by_sensor m (has_module names a m e) (port_named m.sensors b) refl

-- a task that is looked up
task_there : (names : Names) (a b : List ℕ) (times : List ℕ) → IsThere names (timed times (task_at names a b))
task_there names a b times = by_module (module_named names a) refl
  where
    by_task : (m : ModuleNames) → HasModule names m.number m → (o : Option (ℕ × Us)) → task_named m.tasks b ≡ o →
        IsThere names (timed times (option_map (λ found. (m.number, record { 0 = found.0 }, found.1)) o))
    by_task m has None e = tt
    by_task m has (Some found) e =
        let f = first_at (λ (t : TaskNames). bytes_eq t.name b) (λ (t : TaskNames). t.worst) m.tasks 0 found e in
        let number : found.0 ≡ 0 + f.place = f.number in
        let place : f.place ≡ found.0 = omega (arith, number) in
        record {
          home = m;
          task = f.thing;
          within = has;
          is = subst (λ (n : ℕ). slice_get m.tasks n ≡ Some f.thing) place f.is;
          most = f.gives;
        }

    by_module : (o : Option ModuleNames) → module_named names a ≡ o →
        IsThere names (timed times (option_and_then (λ (m : ModuleNames). option_map
        (λ found. (m.number, record { 0 = found.0 }, found.1)) (task_named m.tasks b)) o))
    by_module None e = tt
    by_module (Some m) e = by_task m (has_module names a m e) (task_named m.tasks b) refl

-- a horizon
horizon_there : (names : Names) (words : List (List ℕ)) → IsFormed names (horizon_said words)
horizon_there names [] = tt
horizon_there names (a ∷ []) = by_time (number_of a)
  where
    by_time : (o : Option ℕ) → IsFormed names (option_map (λ t. Horizon (record { 0 = t })) o)
    by_time None = tt
    by_time (Some t) = tt
horizon_there names (a ∷ b ∷ more) = tt

-- a value of a sensor
sense_there : (names : Names) (words : List (List ℕ)) → IsFormed names (sense_said names words)
sense_there names [] = tt
sense_there names (a ∷ []) = tt
sense_there names (a ∷ b ∷ []) = tt
sense_there names (a ∷ b ∷ c ∷ []) = by_parts (pair_in (parts_of a)) (number_of b) (signed_of c)
  where
    by_parts : (o : Option (List ℕ × List ℕ)) (t : Option ℕ) (v : Option ℤ) →
        IsFormed names (option_and_then (λ pair. option_and_then (λ at. option_map (λ v. sensed at v
        (sensor_at names pair.0 pair.1)) v) t) o)
    by_parts None t v = tt
    by_parts (Some pair) None v = tt
    by_parts (Some pair) (Some at) None = tt
    by_parts (Some pair) (Some at) (Some v) = sensor_there names pair.0 pair.1 at v
sense_there names (a ∷ b ∷ c ∷ d ∷ more) = tt

-- times of a task
exec_there : (names : Names) (words : List (List ℕ)) → IsFormed names (exec_said names words)
exec_there names [] = tt
exec_there names (a ∷ []) = tt
exec_there names (a ∷ b ∷ more) = by_parts (pair_in (parts_of a)) (all_of number_of (b ∷ more))
  where
    by_parts : (o : Option (List ℕ × List ℕ)) (t : Option (List ℕ)) →
        IsFormed names (option_and_then (λ pair. option_map (λ all. timed all (task_at names pair.0 pair.1)) t) o)
    by_parts None t = tt
    by_parts (Some pair) None = tt
    by_parts (Some pair) (Some times) = task_there names pair.0 pair.1 times

-- an order
order_there : (names : Names) (words : List (List ℕ)) → IsFormed names (order_said names words)
order_there names [] = tt
order_there names (a ∷ more) = tt

-- a port of a plant
bind_there : (names : Names) (plants : List PlantPorts) (words : List (List ℕ)) → IsFormed names
    (bind_said names plants words)
bind_there names plants [] = tt
bind_there names plants (a ∷ []) = tt
bind_there names plants (a ∷ b ∷ []) = tt
bind_there names plants (a ∷ b ∷ c ∷ []) = by_parts (pair_in (parts_of a)) (number_of b) (number_of c)
  where
    by_part : (k n : ℕ) (o : Option Part) → IsThere names (bound plants k n o)
    by_part k n None = tt
    by_part k n (Some part) = tt

    by_parts : (o : Option (List ℕ × List ℕ)) (k n : Option ℕ) →
        IsFormed names (option_and_then (λ pair. option_and_then (λ k. option_map (λ n. bound plants k n
        (part_at names pair.0 pair.1)) n) k) o)
    by_parts None k n = tt
    by_parts (Some pair) None n = tt
    by_parts (Some pair) (Some k) None = tt
    by_parts (Some pair) (Some k) (Some n) = by_part k n (part_at names pair.0 pair.1)
bind_there names plants (a ∷ b ∷ c ∷ d ∷ more) = tt

-- one of two
either : (names : Names) (b : Bool) (x y : Option Entry) → IsFormed names x → IsFormed names y →
    IsFormed names (if b then x else y)
either names true x y one other = one
either names false x y one other = other

-- the words of a line
entry_there : (names : Names) (plants : List PlantPorts) (words : List (List ℕ)) → IsThere names
    (entry_of names plants words)
entry_there names plants [] = tt
entry_there names plants (key ∷ words) =
    either names (bytes_eq key (codes "horizon")) _ _ (horizon_there names words)
    (either names (bytes_eq key (codes "sense")) _ _ (sense_there names words)
    (either names (bytes_eq key (codes "exec")) _ _ (exec_there names words)
    (either names (bytes_eq key (codes "order")) _ _ (order_there names words)
    (either names (bytes_eq key (codes "bind")) (bind_said names plants words) None
    (bind_there names plants words) tt))))

-- what the lines of a file say
pub lines_there : (names : Names) (plants : List PlantPorts) (lines : List NumberedLine) →
    AllByRecursion (λ (x : Said Entry). IsThere names x.what)
    (map (λ (line : NumberedLine). record {
      line = line.number;
      what = entry_of names plants
          (words_said line.text);
    }) lines)
lines_there names plants [] = tt
lines_there names plants (line ∷ lines) = (
  entry_there names plants
      (words_said line.text),
  lines_there names plants lines,
)
