-- The receive entries of a stub, and the active jobs whose results they wait for.
use Rattle.std.specs.Prelude.{List, Some, slice_get, ℕ, ℤ, ◌+◌, ◌<◌, ◌≡◌, ◌≤◌, ◌⊎◌}
use Rattle.tdl_image.specs.declared.stub.Receive.{Receive}
use Rattle.tdl_mode.specs.States.{Job, ModuleState, TaskState, invocation_of, result_of}
use Rattle.tdl_mode.specs.declared.program.Invocation.{Invocation}
use Rattle.tdl_mode.specs.declared.program.Mode.{Mode}
use Rattle.tdl_mode.specs.declared.program.Module.{Module}
use Rattle.tdl_verify.specs.States.{EntryNow}

-- an active job of task t before instant x: it began before x and ends at x or later
pub record ActiveJob (m : Module) (x : ℕ) (r : ModuleState) (t : ℕ) : Type 0 where
  pub mode : Mode
  pub mode_at : slice_get m.modes r.mode ≡ Some mode
  pub state : TaskState
  pub there : slice_get r.tasks t ≡ Some state
  pub job : Job
  pub active : state.active ≡ Some job
  pub job_mode : job.mode ≡ r.mode
  pub invocation : Invocation
  pub at : invocation_of mode.invocations job.invocation ≡ Some invocation
  pub task : invocation.task.0 ≡ t
  pub begun : r.base + invocation.s.0 < x
  pub open' : x ≤ r.base + invocation.e.0

-- when an active job ends
abbrev pub job_end : (m : Module) (x : ℕ) (r : ModuleState) (t : ℕ) → ActiveJob m x r t → ℕ
job_end m x r t a = r.base + a.invocation.e.0

-- what comes of an active job
abbrev pub made_by : (m : Module) (x : ℕ) (r : ModuleState) (t : ℕ) → ActiveJob m x r t → List ℤ
made_by m x r t a = result_of a.state.definition a.job.inputs a.state.outputs

-- an entry that waits until instant `at`: the end of its invocation's active job, of which its copy is the result
pub record Waits (m : Module) (x : ℕ) (r : ModuleState) (e : Receive) (now : EntryNow) (at : ℕ) : Type 0 where
  pub job : ActiveJob m x r e.task
  pub mode' : e.mode ≡ r.mode
  pub invocation : e.invocation ≡ job.job.invocation
  pub when : at ≡ job_end m x r e.task job
  pub copy : now.copy ≡ made_by m x r e.task job

-- an entry with a trigger waits until it
abbrev pub EntryFact : Module → ℕ → ModuleState → Receive → EntryNow → Type 0
EntryFact m x r e now = (at : ℕ) → now.due ≡ Some at → Waits m x r e now at

-- the converse: where the entry's job is active and its frame has arrived below instant y, the trigger stands at the
-- job's end, or the commit is gone
abbrev pub Got : (ℕ → Type 0) → Module → (y x : ℕ) → ModuleState → Receive → EntryNow → Type 0
Got gone m y x r e now = (a : ActiveJob m x r e.task) → e.mode ≡ r.mode → e.invocation ≡ a.job.invocation →
    job_end m x r e.task a < y + e.delta → (now.due ≡ Some (job_end m x r e.task a)) ⊎ gone (job_end m x r e.task a)
