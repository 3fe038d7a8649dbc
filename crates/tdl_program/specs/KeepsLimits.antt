-- What else holds of the program of sources that break no rule: its entries' order, and its counts.
use Rattle.std.specs.Prelude.{◌≡◌, ℕ, ◌<◌, ◌≤◌, length, Some, slice_get}
use Rattle.tdl_base.specs.declared.limits.TheConstants.{ACTUATORS, CONSTANTS, MODES, SENSORS, TASKS}
use Rattle.tdl_mode.specs.declared.program.Program.{Program}
use Rattle.tdl_mode.specs.declared.program.Module.{Module}
use Rattle.tdl_mode.specs.declared.program.Mode.{Mode}
use Rattle.tdl_mode.specs.declared.program.Invocation.{Invocation}
use Rattle.tdl_mode.specs.declared.program.Update.{Update}
use Rattle.tdl_mode.specs.declared.program.Switch.{Switch}

-- the entries of a mode stand in order of their activities
pub record InOrder (mode : Mode) : Type 0 where
  pub invocations : (q r : ℕ) (i j : Invocation) → q < r →
      slice_get mode.invocations q ≡ Some i → slice_get mode.invocations r ≡ Some j → i.act ≤ j.act
  pub updates : (q r : ℕ) (u v : Update) → q < r →
      slice_get mode.updates q ≡ Some u → slice_get mode.updates r ≡ Some v → u.act ≤ v.act
  pub switches : (q r : ℕ) (w v : Switch) → q < r →
      slice_get mode.switches q ≡ Some w → slice_get mode.switches r ≡ Some v → w.act ≤ v.act

-- a module has at most so many parts of each sort, and modes whose entries are in order
pub record KeepsLimits (m : Module) : Type 0 where
  pub tasks : length m.tasks ≤ TASKS
  pub modes : length m.modes ≤ MODES
  pub constants : length m.constants ≤ CONSTANTS
  pub sensors : length m.sensors ≤ SENSORS
  pub actuators : length m.actuators ≤ ACTUATORS
  pub order : (n : ℕ) (mode : Mode) → slice_get m.modes n ≡ Some mode → InOrder mode

-- each module of a program does
pub record AllKeepLimits (program : Program) : Type 0 where
  pub modules : (k : ℕ) (m : Module) → slice_get program.modules k ≡ Some m → KeepsLimits m
