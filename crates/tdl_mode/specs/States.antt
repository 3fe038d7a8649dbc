-- The logical state of modules, and what a module may read.
use Rattle.std.specs.Prelude.{ℕ, zero, suc, ℤ, pos, List, [], ◌++◌, map, length, take, drop, replicate, Option, None, option_map, unwrap_or, slice_get, slice_index_or, if◌then◌else◌, ◌==◌}
use Rattle.tdl_base.specs.Sensed.{Sensed}
use Rattle.tdl_base.specs.declared.kinds.Kind.{Kind}
use Rattle.tdl_base.specs.declared.numbers.PortKey.{PortKey}
use Rattle.tdl_body.specs.Values.{Look}
use Rattle.tdl_base.specs.Cells.{Cells}
use Rattle.tdl_body.specs.Effects.{effect_of}
use Rattle.tdl_mode.specs.declared.program.Module.{Module}
use Rattle.tdl_mode.specs.declared.program.Task.{Task}
use Rattle.tdl_mode.specs.declared.program.Mode.{Mode}
use Rattle.tdl_mode.specs.declared.program.PortDef.{PortDef}
use Rattle.tdl_mode.specs.declared.program.Invocation.{Invocation}

-- an active job: the mode and number of its invocation, and the inputs that were copied at its release
pub record Job : Type 0 where
  pub mode : ℕ
  pub invocation : ℕ
  pub inputs : List ℤ

-- a task with its committed outputs, and its active job or none
pub record TaskState : Type 0 where
  pub definition : Task
  pub outputs : List ℤ
  pub active : Option Job

-- a module with its mode, the instant at which the present cycle began, its tasks and its actuators
pub record ModuleState : Type 0 where
  pub definition : Module
  pub mode : ℕ
  pub base : ℕ
  pub tasks : List TaskState
  pub actuators : List ℤ

-- all modules, in order of their numbers
abbrev pub State : Type 0
State = List ModuleState

-- the kinds of ports
abbrev pub kinds_of : List PortDef → List Kind
kinds_of ports = map (λ p. p.kind) ports

-- the numbers that ports begin with
abbrev pub initials_of : List PortDef → List ℤ
initials_of ports = map (λ p. p.initial) ports

-- the outputs after a job: the body over the inputs, the outputs before it, and locals that are 0
unfoldable pub result_of : Task → List ℤ → List ℤ → List ℤ
result_of task inputs old =
    take (length task.outputs) (drop (length task.inputs) (effect_of task.body cells).values)
  where
    cells : Cells
    cells = record {
      kinds = kinds_of task.inputs ++ kinds_of task.outputs ++ kinds_of task.locals;
      values = inputs ++ old ++ replicate (length task.locals) (pos 0);
    }

-- the mode that a module is in, where it has it
abbrev pub present : ModuleState → Option Mode
present m = slice_get m.definition.modes m.mode

-- the invocation of number k, from 1
abbrev pub invocation_of : List Invocation → ℕ → Option Invocation
invocation_of is zero = None
invocation_of is (suc k) = slice_get is k

-- the invocations of the mode that a module is in
abbrev pub invocations_now : ModuleState → List Invocation
invocations_now m = unwrap_or (option_map (λ mode. mode.invocations) (present m)) []

-- an output of a task of a module, 0 where there is none
abbrev pub output_at : List TaskState → ℕ → ℕ → ℤ
output_at tasks t o = slice_index_or (unwrap_or (option_map (λ u. u.outputs) (slice_get tasks t)) []) o (pos 0)

-- the outputs of all modules, by key
abbrev pub outputs_in : State → PortKey → ℤ
outputs_in state key =
    unwrap_or (option_map (λ m. output_at m.tasks key.task.0 key.output) (slice_get state key.module.0)) (pos 0)

-- what module k may read: its sensors, the outputs of its own tasks, and those of other modules as `seen`
abbrev pub look_of : ℕ → List TaskState → Sensed → (PortKey → ℤ) → Look
look_of k tasks sensed seen = record {
  cell = λ _. pos 0;
  sensor = sensed k;
  port = λ key. if key.module.0 == k then output_at tasks key.task.0 key.output else seen key;
}
