-- The releases of a module, and the arguments that they need.
use Rattle.std.specs.Prelude.{◌≡◌, ◌≤◌, ◌&&◌, ◌==◌, ◌+◌, ℕ, ℤ, true, List, [], length, map, take, Some, slice_get, unwrap_or, if◌then◌else◌}
use Rattle.tdl_base.specs.Lists.{changed_at}
use Rattle.tdl_body.specs.Values.{Look, holds}
use Rattle.tdl_mode.specs.declared.program.Task.{Task}
use Rattle.tdl_mode.specs.declared.program.Invocation.{Invocation}
use Rattle.tdl_mode.specs.States.{TaskState, ModuleState, invocations_now, kinds_of}
use Rattle.tdl_mode.specs.Phases.{released, narrowed_args}
use Rattle.tdl_logic.specs.declared.moment.Moment.{Moment}
use Rattle.tdl_logic.specs.declared.seen.Seen.{Seen}

-- the tasks of a module after its invocation of number k, where that starts now and its guard holds
abbrev pub release_here : Moment → Look → ℕ → Invocation → List TaskState → List TaskState
release_here moment look k i tasks =
    if moment.base.0 + i.s.0 == moment.at.0 && holds i.guard look
    then changed_at i.task.0 (released moment.mode.0 k i look) tasks else tasks

-- the tasks of all modules, without what changes
abbrev pub definitions_of : List (List TaskState) → List (List Task)
definitions_of all = map (λ tasks. map (λ u. u.definition) tasks) all

-- an invocation of module k has an argument for each input of its task
abbrev pub HasArguments : Invocation → ℕ → List (List TaskState) → Type 0
HasArguments i k all = (tasks : List Task) (task : Task) → slice_get (definitions_of all) k ≡ Some tasks →
    slice_get tasks i.task.0 ≡ Some task → length i.args ≡ length task.inputs

-- so has each of the present mode, and no more than n
abbrev pub HasArgumentsOf : ModuleState → ℕ → ℕ → List (List TaskState) → Type 0
HasArgumentsOf m k n all = (q : ℕ) (i : Invocation) → slice_get (invocations_now m) q ≡ Some i →
    HasArguments i k all × (length i.args ≤ n)

-- the tasks of the module that reads
abbrev pub own_tasks : Seen → List TaskState
own_tasks seen = unwrap_or (slice_get seen.tasks.now seen.module.0) []

-- the invocation is to be released, and the numbers begin with the inputs of its job
pub record IsPrepared (moment : Moment) (look : Look) (i : Invocation) (tasks : List TaskState) (numbers : List ℤ)
    : Type 0 where
  pub starts : (moment.base.0 + i.s.0 == moment.at.0 && holds i.guard look) ≡ true
  pub inputs : (u : TaskState) → slice_get tasks i.task.0 ≡ Some u →
      take (length i.args) numbers ≡ narrowed_args (kinds_of u.definition.inputs) i.args look
