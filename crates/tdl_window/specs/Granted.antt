-- What the test of a schedule is granted.
use Rattle.std.specs.Prelude.{◌≡◌, ℕ, ◌≤◌, length, Some, slice_get}
use Rattle.tdl_base.specs.declared.limits.TheConstants.{MODES, OCCURRENCES, SOURCES, WINDOWS}
use Rattle.tdl_mode.specs.declared.program.Program.{Program}
use Rattle.tdl_mode.specs.declared.program.Module.{Module}
use Rattle.tdl_mode.specs.declared.program.Mode.{Mode}
use Rattle.tdl_deploy.specs.declared.schedule.Schedule.{Schedule}
use Rattle.tdl_deploy.specs.declared.schedule.Window.{Window}
use Rattle.tdl_deploy.specs.Passes.{Invoked}

-- the invocation of each window is there
abbrev pub AreInvoked : Program → Schedule → Type 0
AreInvoked program schedule = (q : ℕ) (w : Window) → slice_get schedule.windows q ≡ Some w →
    Invoked program w.«module».0 w.mode.0 w.invocation

-- a module has few modes, and each has few invocations
pub record IsSmall (m : Module) : Type 0 where
  pub modes : length m.modes ≤ MODES
  pub invocations : (k : ℕ) (mode : Mode) → slice_get m.modes k ≡ Some mode → length mode.invocations ≤ OCCURRENCES

-- a program has few modules, each with few modes and few invocations
pub record AreSmall (program : Program) : Type 0 where
  pub modules : length program.modules ≤ SOURCES
  pub each : (m : ℕ) (owner : Module) → slice_get program.modules m ≡ Some owner → IsSmall owner

-- the schedule has few windows, whose invocations are there, and the program is small
pub record IsGranted (program : Program) (schedule : Schedule) : Type 0 where
  pub few : length schedule.windows ≤ WINDOWS
  pub invoked : AreInvoked program schedule
  pub small : AreSmall program
