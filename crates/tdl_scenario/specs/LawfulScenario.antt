-- What a scenario that breaks no rule keeps.
use Rattle.std.specs.Prelude.{◌≡◌, ◌≤◌, ◌<◌, ℕ, true, List, [], ◌∷◌, length, slice_get, Some, All, ◌⊎◌}
use Rattle.tdl_base.specs.declared.limits.TheConstants.{HORIZON_US}
use Rattle.tdl_base.specs.declared.numbers.ModuleId.{ModuleId}
use Rattle.tdl_trace.specs.declared.names.ModuleNames.{ModuleNames}
use Rattle.tdl_trace.specs.declared.names.Named.{Named}
use Rattle.tdl_trace.specs.declared.names.Names.{Names}
use Rattle.tdl_trace.specs.declared.names.TaskNames.{TaskNames}
use Rattle.tdl_scen.specs.declared.entries.Scenario.{Scenario}
use Rattle.tdl_scen.specs.declared.entries.Sense.{Sense}
use Rattle.tdl_scen.specs.declared.entries.TaskTimes.{TaskTimes}
use Rattle.tdl_scenario.specs.KindRanges.{value_in}
use Rattle.tdl_scenario.specs.Rules.{names_each}

-- a module of this number is among the names
pub record HasModule (names : Names) (m : ModuleId) (home : ModuleNames) : Type 0 where
  pub place : ℕ
  pub is : slice_get names.modules place ≡ Some home
  pub number : home.number ≡ m

-- a sensor that is there reads a value of its kind
pub record IsSensed (names : Names) (e : Sense) : Type 0 where
  pub home : ModuleNames
  pub sensor : Named
  pub within : HasModule names e.«module» home
  pub is : slice_get home.sensors e.sensor ≡ Some sensor
  pub fits : value_in sensor.kind e.value ≡ Some e.value

-- the jobs of a task that is there take from 1 us to its worst case
pub record AreTimes (names : Names) (t : TaskTimes) : Type 0 where
  pub home : ModuleNames
  pub task : TaskNames
  pub within : HasModule names t.«module» home
  pub is : slice_get home.tasks t.task.0 ≡ Some task
  pub times : All (λ (time : ℕ). (1 ≤ time) × (time ≤ task.worst.0)) t.times

-- each entry of a sensor is earlier than all later entries of that sensor
abbrev pub AreRising : List Sense → Type 0
AreRising [] = Unit {0}
AreRising (e ∷ more) =
    All (λ (f : Sense). f.«module».0 ≡ e.«module».0 → f.sensor ≡ e.sensor → e.at.0 < f.at.0) more × AreRising more

-- a scenario for parts of these names
pub record IsLawful (names : Names) (s : Scenario) : Type 0 where
  pub horizon : s.horizon.0 ≤ HORIZON_US
  pub senses : All (IsSensed names) s.senses
  pub rising : AreRising s.senses
  pub times : All (AreTimes names) s.times
  -- there is no order, or one that names each node once
  pub order : (s.order ≡ []) ⊎ (names_each (length names.nodes) s.order ≡ true)
