-- The tables of a hosted module that its machine runs: their codes are lawful, and their sizes fit.
use Rattle.std.specs.Prelude.{◌≡◌, ◌<◌, ◌≤◌, ℕ, ◌++◌, All, List, length, map, Some, slice_get}
use Rattle.tdl_stack.specs.declared.instr.Code.{Code}
use Rattle.tdl_stack.specs.Lawful.{IsLawful}
use Rattle.tdl_image.specs.declared.bundle.Bundle.{Bundle}
use Rattle.tdl_image.specs.declared.bundle.Image.{Image}
use Rattle.tdl_image.specs.declared.hosted.Hosted.{Hosted}
use Rattle.tdl_image.specs.declared.hosted.TaskTable.{TaskTable}
use Rattle.tdl_image.specs.declared.hosted.CallEntry.{CallEntry}
use Rattle.tdl_image.specs.declared.hosted.Driver.{Driver}
use Rattle.tdl_exec.specs.Going.{IsChecked}
use Rattle.tdl_task.specs.Jobs.{TaskCells, body_shape}

-- a code is lawful for some shape
abbrev pub IsCheckedCode : Code → Type 0
IsCheckedCode code = IsChecked code.instrs

-- the cells of a task
abbrev pub cells_of_table : TaskTable → TaskCells
cells_of_table t = record {
  kinds = t.inputs ++ map (λ o. o.kind) t.outputs ++ t.locals;
  inputs = length t.inputs;
  outputs = length t.outputs;
}

-- the body of a task is lawful for its cells, and its jobs take some time
pub record IsCheckedTask (t : TaskTable) : Type 0 where
  pub body : IsLawful t.body.instrs (body_shape (cells_of_table t))
  pub takes_time : 0 < t.worst

-- the arguments of a call are lawful, and as many as the inputs of its task
pub record IsCheckedCall (tasks : List TaskTable) (call : CallEntry) : Type 0 where
  pub arguments : All IsCheckedCode call.args
  pub count : (t : TaskTable) → slice_get tasks call.task ≡ Some t → length call.args ≡ length t.inputs

-- the codes of a module are lawful: the bodies of its tasks, the arguments of its calls, its guards, and the numbers
-- of its drivers
pub record HasCheckedCodes (h : Hosted) : Type 0 where
  pub tasks : All IsCheckedTask h.tasks
  pub calls : All (IsCheckedCall h.tasks) h.calls
  pub guards : All IsCheckedCode h.guards
  pub drivers : All (λ (d : Driver). IsCheckedCode d.value) h.drivers

-- so are those of all modules that a bundle hosts
abbrev pub HasCheckedModules : Bundle → Type 0
HasCheckedModules b = All (λ (image : Image). All HasCheckedCodes image.hosted) b.images

-- no call has more arguments than this
abbrev pub HasRoom : Hosted → ℕ → Type 0
HasRoom h count = All (λ (call : CallEntry). length call.args ≤ count) h.calls
