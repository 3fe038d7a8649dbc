-- Schedules whose windows are of a program, and programs whose names tell their parts apart.
use Rattle.std.specs.Prelude.{◌≡◌, ◌≤◌, ◌<◌, ◌^◌, ℕ, List, [], length, Some, slice_get, IsTrue}
use Rattle.tdl_base.specs.Letters.{is_word}
use Rattle.tdl_base.specs.declared.limits.TheConstants.{WINDOWS, IDENTIFIER_BYTES}
use Rattle.tdl_mode.specs.declared.program.Program.{Program}
use Rattle.tdl_mode.specs.declared.program.Module.{Module}
use Rattle.tdl_mode.specs.declared.program.Mode.{Mode}
use Rattle.tdl_mode.specs.declared.program.Invocation.{Invocation}
use Rattle.tdl_mode.specs.States.{invocation_of}
use Rattle.tdl_deploy.specs.declared.schedule.Schedule.{Schedule}
use Rattle.tdl_deploy.specs.declared.schedule.Window.{Window}
use Rattle.tdl_lines.specs.declared.lines.TheConstants.{FILE_BYTES}
use Rattle.tdl_sched.specs.ReadSchedule.{schedule_said}
use Rattle.tdl_sched.specs.ScheduleRules.{schedule_faults}
use Rattle.tdl_sched.specs.ScheduleText.{schedule_text}

-- module m, its mode k and invocation n of that are there
pub record IsThere (program : Program) (m k n : ℕ) : Type 0 where
  pub owner : Module
  pub mode : Mode
  pub invocation : Invocation
  pub owner_at : slice_get program.modules m ≡ Some owner
  pub mode_at : slice_get owner.modes k ≡ Some mode
  pub invocation_at : invocation_of mode.invocations n ≡ Some invocation

-- those of each window are, and there are not too many
pub record IsOf (program : Program) (schedule : Schedule) : Type 0 where
  pub there : (q : ℕ) (w : Window) → slice_get schedule.windows q ≡ Some w →
      IsThere program w.«module».0 w.mode.0 w.invocation
  pub few : length schedule.windows ≤ WINDOWS

-- the numbers of a window have no more bits than its type gives them
pub record IsInRange (w : Window) : Type 0 where
  pub owner : w.«module».0 < 2 ^ 16
  pub mode : w.mode.0 < 2 ^ 16
  pub invocation : w.invocation < 2 ^ 16
  pub offset : w.offset < 2 ^ 32
  pub size : w.length < 2 ^ 32

-- an identifier
pub record IsName (name : List ℕ) : Type 0 where
  pub word : IsTrue (is_word name)
  pub short : length name ≤ IDENTIFIER_BYTES

-- modules have identifiers as names that differ, and so have the modes of each module
pub record WellNamed (program : Program) : Type 0 where
  pub owner : (m : ℕ) (a : Module) → slice_get program.modules m ≡ Some a → IsName a.name
  pub owners : (m n : ℕ) (a b : Module) → slice_get program.modules m ≡ Some a → slice_get program.modules n ≡ Some b →
      a.name ≡ b.name → m ≡ n
  pub mode : (m k : ℕ) (a : Module) (c : Mode) → slice_get program.modules m ≡ Some a → slice_get a.modes k ≡ Some c →
      IsName c.name
  pub modes : (m k n : ℕ) (a : Module) (c d : Mode) → slice_get program.modules m ≡ Some a →
      slice_get a.modes k ≡ Some c → slice_get a.modes n ≡ Some d → c.name ≡ d.name → k ≡ n

-- the text of a schedule is short enough to be read, breaks no rule, and says the schedule
pub record IsReadBack (program : Program) (schedule : Schedule) : Type 0 where
  pub short : length (schedule_text schedule program) ≤ FILE_BYTES
  pub lawful : schedule_faults program (schedule_text schedule program) ≡ []
  pub said : schedule_said program (schedule_text schedule program) ≡ schedule
