-- What the states of a task's slot hold.
use Rattle.std.specs.Prelude.{ℕ, ◌+◌, ◌-◌, ℤ, pos, false, List, [], ◌∷◌, ◌++◌, length, take, drop, replicate}
use Rattle.tdl_base.specs.declared.kinds.Kind.{Kind}
use Rattle.tdl_base.specs.Numbers.{narrowed}
use Rattle.tdl_stack.specs.declared.instr.Instr.{Instr}
use Rattle.tdl_stack.specs.Lawful.{CodeShape}
use Rattle.tdl_stack.specs.Running.{cells_after}
use Rattle.tdl_task.specs.declared.job.Job.{Job}
use Rattle.tdl_task.specs.declared.job.TaskShape.{TaskShape}

-- the cells of a task: their kinds, of which the first are inputs and the next are outputs
pub record TaskCells : Type 0 where
  pub kinds : List Kind
  pub inputs : ℕ
  pub outputs : ℕ

-- the cells of a task with these inputs, outputs and locals
abbrev pub cells_of_shape : TaskShape → TaskCells
cells_of_shape shape = record {
  kinds = shape.inputs ++ shape.outputs ++ shape.locals;
  inputs = length shape.inputs;
  outputs = length shape.outputs;
}

-- the cells of a task and their numbers
pub record HeldCells : Type 0 where
  pub task : TaskCells
  pub values : List ℤ

-- a job that runs: how many microseconds it has left, and its cells as they were at its release
pub record ReadyJob : Type 0 where
  pub job : Job
  pub remaining : ℕ
  pub held : HeldCells

-- a job that is done, and its cells
pub record DoneJob : Type 0 where
  pub job : Job
  pub held : HeldCells

-- numbers, each narrowed to its kind
abbrev pub narrowed_each : List Kind → List ℤ → List ℤ
narrowed_each [] vs = []
narrowed_each ks [] = []
narrowed_each (k ∷ ks) (v ∷ vs) = narrowed k v ∷ narrowed_each ks vs

-- the numbers of cells of these kinds at a release: the narrowed inputs, the outputs, and 0 in each local
abbrev pub released_values : List Kind → (inputs outputs : List ℤ) → List ℤ
released_values kinds inputs outputs =
    narrowed_each kinds inputs ++ outputs ++ replicate (length kinds - (length inputs + length outputs)) (pos 0)

-- the same of a task's cells
abbrev pub released : TaskCells → (inputs outputs : List ℤ) → List ℤ
released task inputs outputs = released_values task.kinds inputs outputs

-- the code of a task's body is made for as many cells
abbrev pub body_shape : TaskCells → CodeShape
body_shape task = record { cells = length task.kinds; sensors = 0; keys = []; expression = false }

-- what a code leaves in cells
abbrev pub values_after : List Instr → HeldCells → List ℤ
values_after code h = (cells_after code (record { kinds = h.task.kinds; values = h.values })).values

-- the outputs among cells
abbrev pub outputs_of_cells : HeldCells → List ℤ
outputs_of_cells h = take h.task.outputs (drop h.task.inputs h.values)
