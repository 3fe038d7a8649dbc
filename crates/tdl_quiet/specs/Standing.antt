-- A module stands at an instant: in a cycle that has begun and is not over.
use Rattle.std.specs.Prelude.{◌≡◌, ℕ, ◌+◌, ◌<◌, ◌≤◌, Some, slice_get}
use Rattle.tdl_mode.specs.declared.program.Mode.{Mode}
use Rattle.tdl_mode.specs.declared.program.Invocation.{Invocation}
use Rattle.tdl_mode.specs.States.{Job, TaskState, ModuleState, State, present, invocation_of}

-- the module has its mode, and x lies in the present cycle, before its end
pub record Stands (x : ℕ) (m : ModuleState) : Type 0 where
  pub mode : Mode
  pub now : present m ≡ Some mode
  pub begun : m.base ≤ x
  pub within : x < m.base + mode.period.0

-- all modules of the state stand at x
abbrev pub AllStand : ℕ → State → Type 0
AllStand x state = (k : ℕ) (m : ModuleState) → slice_get state k ≡ Some m → Stands x m

-- the job of task t is of an invocation of the present mode that has started and has not ended at x
pub record IsOpen (x : ℕ) (m : ModuleState) (t : ℕ) (job : Job) : Type 0 where
  pub mode : Mode
  pub now : present m ≡ Some mode
  pub own : job.mode ≡ m.mode
  pub invocation : Invocation
  pub there : invocation_of mode.invocations job.invocation ≡ Some invocation
  pub task : invocation.task.0 ≡ t
  pub started : m.base + invocation.s.0 ≤ x
  pub unended : x < m.base + invocation.e.0

-- so is the job of each task of the module that has one
abbrev pub JobsOpen : ℕ → ModuleState → Type 0
JobsOpen x m = (t : ℕ) (u : TaskState) (job : Job) →
    slice_get m.tasks t ≡ Some u → u.active ≡ Some job → IsOpen x m t job
