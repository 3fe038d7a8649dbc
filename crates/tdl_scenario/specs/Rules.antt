-- The rules of scenarios: what each line breaks after what the lines before it say.
use Rattle.std.specs.Prelude.{ℕ, zero, suc, Bool, true, false, not, ◌==◌, nat_lt, nat_le, ◌&&◌, ◌||◌, List, [], ◌∷◌, ◌++◌, length, count_by, Option, Some, None, is_some, is_none, if◌then◌else◌}
use Rattle.std.specs.List.{list_any}
use Rattle.tdl_base.specs.declared.limits.TheConstants.{HORIZON_US}
use Rattle.tdl_base.specs.declared.numbers.NodeId.{NodeId}
use Rattle.tdl_trace.specs.declared.names.Names.{Names}
use Rattle.tdl_lines.specs.declared.fault.Fault.{Fault}
use Rattle.tdl_lines.specs.declared.said.Said.{Said}
use Rattle.tdl_lines.specs.Faults.{fault_if, faults_from}
use Rattle.tdl_lines.specs.SaidLines.{statements, number_after}
use Rattle.tdl_scenario.specs.declared.entry.Entry.{Entry}
use Rattle.tdl_scenario.specs.declared.entry.Entry.TheVariants.{Formless, Unknown, Horizon, Sense, Exec, Order, Bind}
use Rattle.tdl_scenario.specs.declared.entry.Part.{Part}
use Rattle.tdl_scenario.specs.declared.plants.PlantPorts.{PlantPorts}
use Rattle.tdl_scenario.specs.declared.seen.Seen.{Seen as Held}
use Rattle.tdl_scenario.specs.Entries.{entry_of}
use Rattle.tdl_scenario.specs.Tables.{nowhere, put_at, numbers_in}

-- what the lines before a line say, as far as the rules ask: whether there was a horizon and an order, the last time
-- of each sensor by module and place, and the sensors and the actuators that are bound, each with 0
pub record Seen : Type 0 where
  pub horizon : Bool
  pub order : Bool
  pub latest : ℕ → ℕ → Option ℕ
  pub sensors : ℕ → ℕ → Option ℕ
  pub actuators : ℕ → ℕ → Option ℕ

-- what tables hold of it
abbrev pub seen_in : Held → Seen
seen_in s = record {
  horizon = s.horizon;
  order = s.order;
  latest = numbers_in s.latest;
  sensors = numbers_in s.sensors;
  actuators = numbers_in s.actuators;
}

-- no line was read
abbrev pub unseen : Seen
unseen = record { horizon = false; order = false; latest = nowhere; sensors = nowhere; actuators = nowhere }

-- what is known of a part that is bound
abbrev pub with_part : Part → Seen → Seen
with_part part s =
    if part.sensor
    then record {
      horizon = s.horizon;
      order = s.order;
      latest = s.latest;
      sensors = put_at s.sensors part.«module».0 part.index 0;
      actuators = s.actuators;
    }
    else record {
      horizon = s.horizon;
      order = s.order;
      latest = s.latest;
      sensors = s.sensors;
      actuators = put_at s.actuators part.«module».0 part.index 0;
    }

-- what is known once one more line is over
abbrev pub after : Entry → Seen → Seen
after (Horizon time) s =
    record { horizon = true; order = s.order; latest = s.latest; sensors = s.sensors; actuators = s.actuators }
after (Sense m k at v) s = record {
  horizon = s.horizon;
  order = s.order;
  latest = put_at s.latest m.0 k at.0;
  sensors = s.sensors;
  actuators = s.actuators;
}
after (Order nodes) s =
    record { horizon = s.horizon; order = true; latest = s.latest; sensors = s.sensors; actuators = s.actuators }
after (Bind part plug) s = with_part part s
after e s = s

-- what is known after lines, the latest first
abbrev pub seen_of : List Entry → Seen
seen_of [] = unseen
seen_of (e ∷ before) = after e (seen_of before)

-- N1: the line is of no form, or a second horizon or order
abbrev pub breaks_form : Seen → Entry → Bool
breaks_form s Formless = true
breaks_form s (Horizon time) = s.horizon
breaks_form s (Order nodes) = s.order
breaks_form s e = false

-- N2: it names a module, sensor, task or actuator that is not there
abbrev pub is_unknown : Entry → Bool
is_unknown Unknown = true
is_unknown e = false

-- an instant is not above the one before it, where there is one
abbrev pub is_not_above : ℕ → Option ℕ → Bool
is_not_above at None = false
is_not_above at (Some last) = nat_le at last

-- N3: the sensor's time is not above its time before
abbrev pub breaks_time : Seen → Entry → Bool
breaks_time s (Sense m k at v) = is_not_above at.0 (s.latest m.0 k)
breaks_time s e = false

-- N4: the value is outside the sensor's kind
abbrev pub breaks_kind : Entry → Bool
breaks_kind (Sense m k at v) = is_none v
breaks_kind e = false

-- a time is 0 or above the worst case
abbrev pub is_wrong : ℕ → ℕ → Bool
is_wrong worst time = time == 0 || nat_lt worst time

-- N5: a time is 0 or above the task's worst case
abbrev pub breaks_worst : Entry → Bool
breaks_worst (Exec worst times) = list_any (is_wrong worst.0) times.times
breaks_worst e = false

-- N6: the horizon is above the limit
abbrev pub breaks_limit : Entry → Bool
breaks_limit (Horizon time) = nat_lt HORIZON_US time.0
breaks_limit e = false

-- p passes each number below n
abbrev pub all_below : (ℕ → Bool) → ℕ → Bool
all_below p zero = true
all_below p (suc n) = all_below p n && p n

-- there are as many nodes as these, and each stands among them once
abbrev pub names_each : ℕ → List NodeId → Bool
names_each nodes order =
    length order == nodes && all_below (λ k. count_by (λ (n : NodeId). n.0 == k) order == 1) nodes

-- N7: the order does not name each of so many nodes once
abbrev pub breaks_order : ℕ → Entry → Bool
breaks_order nodes (Order None) = true
breaks_order nodes (Order (Some order)) = not (names_each nodes order)
breaks_order nodes e = false

-- a sensor or an actuator is bound
abbrev pub is_bound : Seen → Part → Bool
is_bound s part =
    if part.sensor then is_some (s.sensors part.«module».0 part.index)
    else is_some (s.actuators part.«module».0 part.index)

-- it is a sensor that is sensed
abbrev pub is_sensed : Seen → Part → Bool
is_sensed s part = part.sensor && is_some (s.latest part.«module».0 part.index)

-- N8: there is no such port, or a part is bound twice, or a sensor is both bound and sensed
abbrev pub breaks_bind : Seen → Entry → Bool
breaks_bind s (Bind part plug) = is_none plug || is_bound s part || is_sensed s part
breaks_bind s (Sense m k at v) = is_some (s.sensors m.0 k)
breaks_bind s e = false

-- the faults of a line, rule by rule, where there are so many nodes
abbrev pub line_faults : ℕ → Seen → Said Entry → List Fault
line_faults nodes s x =
    fault_if (breaks_form s x.what) x.line 1
    ++ fault_if (is_unknown x.what) x.line 2
    ++ fault_if (breaks_time s x.what) x.line 3
    ++ fault_if (breaks_kind x.what) x.line 4
    ++ fault_if (breaks_worst x.what) x.line 5
    ++ fault_if (breaks_limit x.what) x.line 6
    ++ fault_if (breaks_order nodes x.what) x.line 7
    ++ fault_if (breaks_bind s x.what) x.line 8

-- a line is a horizon
abbrev pub is_horizon : Said Entry → Bool
is_horizon x = is_horizon_entry x.what
  where
    is_horizon_entry : Entry → Bool
    is_horizon_entry (Horizon time) = true
    is_horizon_entry e = false

-- the faults of lines after others, the latest first
abbrev pub faults_after : ℕ → List Entry → List (Said Entry) → List Fault
faults_after nodes before lines = faults_from (λ before x. line_faults nodes (seen_of before) x) before lines

-- the faults of lines, the last of them that no line is a horizon
abbrev pub faults_of : ℕ → ℕ → List (Said Entry) → List Fault
faults_of nodes after_all lines =
    faults_after nodes [] lines ++ fault_if (not (list_any is_horizon lines)) after_all 1

-- what the lines of a file say
abbrev pub lines_said : Names → List PlantPorts → List ℕ → List (Said Entry)
lines_said names plants bytes = statements (entry_of names plants) bytes

-- the faults of a file
abbrev pub scenario_faults : Names → List PlantPorts → List ℕ → List Fault
scenario_faults names plants bytes = faults_of (length names.nodes) (number_after bytes) (lines_said names plants bytes)
