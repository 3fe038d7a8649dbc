-- What stands for tasks and modules between instants.
use Rattle.std.specs.Prelude.{◌≡◌, ℕ, ◌+◌, ◌-◌, ℤ, pos, List, ◌++◌, length, replicate, Option, Some, option_map, []}
use Rattle.tdl_base.specs.declared.kinds.Kind.{Kind}
use Rattle.tdl_mode.specs.declared.program.Task.{Task}
use Rattle.tdl_mode.specs.States.{Job, TaskState, ModuleState, kinds_of}
use Rattle.tdl_logic.specs.declared.task_now.Origin.{Origin}
use Rattle.tdl_logic.specs.declared.moment.Moment.{Moment}
use Rattle.tdl_logic.specs.declared.turn.Cycle.{Cycle}

-- the job of an invocation with these inputs
abbrev pub job_of : List ℤ → Origin → Job
job_of inputs origin = record { mode = origin.mode.0; invocation = origin.invocation; inputs = inputs }

-- the task with a job of this origin and these inputs
abbrev pub with_job : Origin → List ℤ → TaskState → TaskState
with_job origin inputs u = record u { active = Some (job_of inputs origin) }

-- a task with these outputs, and a job with these inputs where one is active
abbrev pub task_state : Task → List ℤ → Option Origin → List ℤ → TaskState
task_state task outputs active inputs =
    record { definition = task; outputs = outputs; active = option_map (job_of inputs) active }

-- the kinds of the cells of a task's jobs
abbrev pub cell_kinds : Task → List Kind
cell_kinds task = kinds_of task.inputs ++ kinds_of task.outputs ++ kinds_of task.locals

-- lists that have room for the numbers of a task and its jobs
pub record HasRoom (task : Task) (outputs inputs cells : List ℤ) (kinds : List Kind) : Type 0 where
  pub outputs_fit : length outputs ≡ length task.outputs
  pub inputs_fit : length inputs ≡ length task.inputs
  pub kinds_are : kinds ≡ cell_kinds task
  pub cells_fit : length cells ≡ length kinds

-- the numbers of so many cells when a job begins to work: inputs, outputs, and 0 in each local
abbrev pub filled : (inputs outputs : List ℤ) → ℕ → List ℤ
filled inputs outputs count =
    inputs ++ outputs ++ replicate (count - (length inputs + length outputs)) (pos 0)

-- a module at a moment, of which neither its tasks nor its actuators matter
abbrev pub bare : Moment → ModuleState
bare moment = record {
  definition = moment.module.now;
  mode = moment.mode.0;
  base = moment.base.0;
  tasks = [];
  actuators = [];
}

-- a module in a cycle
abbrev pub in_cycle : Cycle → ModuleState → ModuleState
in_cycle cycle m = record m { mode = cycle.mode.0; base = cycle.base.0 }
