-- Worked examples of scenarios: what they say, and what breaks each rule.
use Rattle.std.proofs.Common.{◌≡◌, ℕ, true, false, pos, neg_ℤ, List, [], ◌∷◌, ◌++◌, codes, refl}
use Rattle.std.specs.List.{flat_map}
use Rattle.tdl_base.specs.declared.kinds.Kind.TheVariants.{Boolean, Int}
use Rattle.tdl_trace.specs.declared.names.Names.{Names}
use Rattle.tdl_trace.specs.declared.names.ModuleNames.{ModuleNames}
use Rattle.tdl_lines.specs.declared.fault.Fault.{Fault}
use Rattle.tdl_scen.specs.declared.entries.Scenario.{Scenario}
use Rattle.tdl_scenario.specs.declared.plants.PlantPorts.{PlantPorts}
use Rattle.tdl_scenario.specs.ReadScenario.{scenario_said}
use Rattle.tdl_scenario.specs.Rules.{scenario_faults, lines_said}

-- a module that is the fourth source: an integer and a boolean sensor, an actuator, and a task of at most 200 us
abbrev home : ModuleNames
home = record {
  number = record { 0 = 3 };
  node = record { 0 = 0 };
  name = codes "P";
  sensors = record { kind = Int; name = codes "s" } ∷ record { kind = Boolean; name = codes "b" } ∷ [];
  actuators = record { kind = Int; name = codes "v" } ∷ [];
  tasks = record { name = codes "inc"; worst = record { 0 = 200 }; outputs = [] } ∷ [];
  modes = [];
}

-- it is hosted on the first of two nodes
abbrev names : Names
names = record { nodes = codes "n1" ∷ codes "n2" ∷ []; modules = home ∷ [] }

-- a plant with two ports to sense and one to settle
abbrev plants : List PlantPorts
plants = record { senses = 2; settles = 1 } ∷ []

-- lines that each end with LF
abbrev file : List (List ℕ) → List ℕ
file lines = flat_map (λ (line : List ℕ). line ++ 10 ∷ []) lines

-- the faults of lines
abbrev faults : List (List ℕ) → List Fault
faults lines = scenario_faults names plants (file lines)

-- the faults of lines after a horizon
abbrev later : List (List ℕ) → List Fault
later lines = faults (codes "horizon 9" ∷ lines)

-- a fault
abbrev at : ℕ → ℕ → Fault
at line rule = record { line = line; rule = rule }

-- every form: a sensor that is sensed and one that is bound, a task's times in two lines
abbrev whole : List (List ℕ)
whole =
    codes "# a scenario" ∷ codes "horizon 1000000" ∷ codes "sense P.s 0 -7" ∷ codes "exec P.inc 1 200"
    ∷ codes "order n2 n1" ∷ codes "exec P.inc 30" ∷ codes "sense P.s 5 8" ∷ codes "bind P.b 0 1"
    ∷ codes "bind P.v 0 0" ∷ []

-- what it says
abbrev said : Scenario
said = record {
  horizon = record { 0 = 1000000 };
  senses =
      record { «module» = record { 0 = 3 }; sensor = 0; at = record { 0 = 0 }; value = neg_ℤ (pos 7) }
      ∷ record { «module» = record { 0 = 3 }; sensor = 0; at = record { 0 = 5 }; value = pos 8 } ∷ [];
  times =
      record { «module» = record { 0 = 3 }; task = record { 0 = 0 }; times = 1 ∷ 200 ∷ [] }
      ∷ record { «module» = record { 0 = 3 }; task = record { 0 = 0 }; times = 30 ∷ [] } ∷ [];
  order = record { 0 = 1 } ∷ record { 0 = 0 } ∷ [];
  binds =
      record { sensor = true; «module» = record { 0 = 3 }; index = 1; plant = 0; port = 1 }
      ∷ record { sensor = false; «module» = record { 0 = 3 }; index = 0; plant = 0; port = 0 } ∷ [];
}

pub whole_says : scenario_said (lines_said names plants (file whole)) ≡ said
whole_says = refl

-- it breaks no rule
pub whole_lawful : faults whole ≡ []
whole_lawful = refl

-- without a horizon the fault has the number after the last line
pub missing_horizon : faults (codes "sense P.s 0 1" ∷ []) ≡ at 2 1 ∷ []
missing_horizon = refl

-- a second horizon or order, and lines of no form
pub second_horizon : later (codes "horizon 9" ∷ []) ≡ at 2 1 ∷ []
second_horizon = refl

pub second_order : later (codes "order n1 n2" ∷ codes "order n1 n2" ∷ []) ≡ at 3 1 ∷ []
second_order = refl

pub formless : later (codes "exec P.inc" ∷ codes "sense P.s.x 0 1" ∷ codes "horizon 0x" ∷ []) ≡ at 2 1 ∷ at 3 1
    ∷ at 4 1 ∷ []
formless = refl

-- a sensor is no task, and an actuator is no sensor; a form comes before a name
pub unknown : later (codes "exec P.s 1" ∷ codes "sense P.v 0 1" ∷ codes "bind P.x 7 7" ∷ codes "exec Q.inc x" ∷ [])
    ≡ at 2 2 ∷ at 3 2 ∷ at 4 2 ∷ at 5 1 ∷ []
unknown = refl

-- a time again, or an earlier one; each sensor has its own times
pub not_above : later (codes "sense P.s 5 1" ∷ codes "sense P.b 4 1" ∷ codes "sense P.s 5 1" ∷ []) ≡ at 4 3 ∷ []
not_above = refl

-- a value outside the kind; a boolean is 0 or 1
pub outside : later (codes "sense P.s 0 2147483647" ∷ codes "sense P.s 1 2147483648" ∷ codes "sense P.b 0 2" ∷ [])
    ≡ at 3 4 ∷ at 4 4 ∷ []
outside = refl

-- a time of 0, and one above the worst case
pub wrong_times : later (codes "exec P.inc 200" ∷ codes "exec P.inc 5 0" ∷ codes "exec P.inc 201" ∷ []) ≡ at 3 5
    ∷ at 4 5 ∷ []
wrong_times = refl

-- a horizon above the limit
pub above_limit : faults (codes "horizon 1000001" ∷ []) ≡ at 1 6 ∷ []
above_limit = refl

-- a node twice, a node left out, and a name that is no node's
pub wrong_orders : later (codes "order n1 n1" ∷ []) ≡ at 2 7 ∷ []
wrong_orders = refl

pub short_order : later (codes "order n1" ∷ []) ≡ at 2 7 ∷ []
short_order = refl

pub lost_node : later (codes "order n1 n3" ∷ []) ≡ at 2 7 ∷ []
lost_node = refl

-- a plant and ports that do not exist
pub lost_ports : later (codes "bind P.s 1 0" ∷ codes "bind P.b 0 2" ∷ codes "bind P.v 0 1" ∷ []) ≡ at 2 8 ∷ at 3 8
    ∷ at 4 8 ∷ []
lost_ports = refl

-- a part that is bound twice, and sensors that are both bound and sensed
pub bound_twice : later (codes "bind P.v 0 0" ∷ codes "bind P.v 0 0" ∷ []) ≡ at 3 8 ∷ []
bound_twice = refl

pub bound_and_sensed : later (codes "sense P.s 0 1" ∷ codes "bind P.b 0 0" ∷ codes "bind P.s 0 1"
    ∷ codes "sense P.b 0 1" ∷ [])
    ≡ at 4 8 ∷ at 5 8 ∷ []
bound_and_sensed = refl
