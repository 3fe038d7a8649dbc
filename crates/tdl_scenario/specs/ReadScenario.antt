-- What a scenario says.
use Rattle.std.specs.Prelude.{List, [], map, filter_map, fold, Option, Some, None}
use Rattle.std.specs.List.{flat_map}
use Rattle.tdl_base.specs.declared.numbers.NodeId.{NodeId}
use Rattle.tdl_base.specs.declared.numbers.Us.{Us}
use Rattle.tdl_lines.specs.declared.fault.Fault.{Fault}
use Rattle.tdl_lines.specs.declared.said.Said.{Said}
use Rattle.tdl_lines.specs.Faults.{IsFirst}
use Rattle.tdl_scen.specs.declared.entries.Scenario.{Scenario}
use Rattle.tdl_scen.specs.declared.entries.Sense.{Sense as SenseEntry}
use Rattle.tdl_scen.specs.declared.entries.TaskTimes.{TaskTimes}
use Rattle.tdl_scen.specs.declared.entries.Bind.{Bind as Binding}
use Rattle.tdl_scenario.specs.declared.entry.Entry.{Entry}
use Rattle.tdl_scenario.specs.declared.entry.Entry.TheVariants.{Horizon, Sense, Exec, Order, Bind}
use Rattle.tdl_scenario.specs.declared.entry.Part.{Part}
use Rattle.tdl_scenario.specs.declared.entry.Plug.{Plug}
use Rattle.tdl_scenario.specs.declared.error.ScenError.{ScenError}
use Rattle.tdl_scenario.specs.declared.error.ScenError.TheVariants.{BadScenario, NoMemory}

-- the horizon once one more line is read
abbrev pub horizon_in : Us → Entry → Us
horizon_in before (Horizon time) = time
horizon_in before e = before

-- a value that is sensed
abbrev pub sense_in : Entry → Option SenseEntry
sense_in (Sense m k at (Some v)) = Some (record { «module» = m; sensor = k; at = at; value = v })
sense_in e = None

-- times of a task
abbrev pub times_in : Entry → Option TaskTimes
times_in (Exec worst times) = Some times
times_in e = None

-- the nodes of an order
abbrev pub order_in : Entry → List NodeId
order_in (Order (Some nodes)) = nodes
order_in e = []

-- a sensor or an actuator, and its port
abbrev pub binding : Part → Plug → Binding
binding part plug = record {
  sensor = part.sensor;
  «module» = part.«module»;
  index = part.index;
  plant = plug.plant;
  port = plug.port;
}

-- a binding
abbrev pub bind_in : Entry → Option Binding
bind_in (Bind part (Some plug)) = Some (binding part plug)
bind_in e = None

-- what entries say, each list in their order; where no rule is broken there is one horizon, and one order at most
abbrev pub scenario_of : List Entry → Scenario
scenario_of entries = record {
  horizon = fold horizon_in (record { 0 = 0 }) entries;
  senses = filter_map sense_in entries;
  times = filter_map times_in entries;
  order = flat_map order_in entries;
  binds = filter_map bind_in entries;
}

-- what lines say
abbrev pub scenario_said : List (Said Entry) → Scenario
scenario_said lines = scenario_of (map (λ (line : Said Entry). line.what) lines)

-- the fault is the first of them; nothing where memory is wanting
abbrev pub TellsFirst : ScenError → List Fault → Type 0
TellsFirst (BadScenario f) faults = IsFirst f faults
TellsFirst NoMemory faults = Unit {0}
