-- The four phases of an instant, for one module.
use Rattle.std.specs.Prelude.{ℕ, suc, ◌+◌, ℤ, Bool, false, ◌&&◌, List, [], ◌∷◌, map, Option, Some, None, option_map, unwrap_or, slice_get, if◌then◌else◌, ◌==◌, find}
use Rattle.tdl_base.specs.Lists.{changed_at, numbered}
use Rattle.tdl_base.specs.declared.kinds.Kind.{Kind}
use Rattle.tdl_base.specs.declared.kinds.Kind.TheVariants.{Long}
use Rattle.tdl_base.specs.Numbers.{narrowed}
use Rattle.tdl_body.specs.declared.tree.Expr.{Expr}
use Rattle.tdl_body.specs.Values.{Look, value_of, holds}
use Rattle.tdl_mode.specs.declared.program.Invocation.{Invocation}
use Rattle.tdl_mode.specs.declared.program.Update.{Update}
use Rattle.tdl_mode.specs.declared.program.Switch.{Switch}
use Rattle.tdl_mode.specs.States.{Job, TaskState, ModuleState, result_of, present, invocation_of, invocations_now, kinds_of}

-- 1. Termination: each invocation of the present mode that ends at x and whose job is active

-- the job's invocation, of the module's present mode, ends at x
abbrev pub job_ends : ModuleState → ℕ → Job → Bool
job_ends m x job = job.mode == m.mode && ends (invocation_of (invocations_now m) job.invocation)
  where
    ends : Option Invocation → Bool
    ends None = false
    ends (Some i) = m.base + i.e.0 == x

-- the outputs of the task become the job's result, and the job is no longer active
abbrev pub ended : TaskState → Job → TaskState
ended u job = record u { outputs = result_of u.definition job.inputs u.outputs; active = None }

-- the task has an active job, and it ends at x
abbrev pub has_ended : ModuleState → ℕ → TaskState → Bool
has_ended m x u = unwrap_or (option_map (job_ends m x) u.active) false

-- the task after its termination at x, if it has one
abbrev pub task_after : ModuleState → ℕ → TaskState → TaskState
task_after m x u = if has_ended m x u then unwrap_or (option_map (ended u) u.active) u else u

-- termination, task by task
abbrev pub phase_one : ℕ → ModuleState → ModuleState
phase_one x m = record m { tasks = map (task_after m x) m.tasks }

-- 2. Update: each actuator that has an update at this offset whose guard holds

-- the updates of the mode that a module is in
abbrev pub updates_now : ModuleState → List Update
updates_now m = unwrap_or (option_map (λ mode. mode.updates) (present m)) []

-- the update of actuator a that is taken at x
abbrev pub taken_update : ModuleState → ℕ → Look → ℕ → Option Update
taken_update m x look a = find (λ u. u.actuator == a && (m.base + u.at.0 == x && holds u.guard look)) (updates_now m)

-- the number that actuator a takes at x, or none
abbrev pub update_value : ModuleState → ℕ → Look → ℕ → Option ℤ
update_value m x look a =
    option_map
    (λ u. narrowed (unwrap_or (option_map (λ p. p.kind) (slice_get m.definition.actuators a)) Long)
    (value_of u.value look)) (taken_update m x look a)

-- updates, actuator by actuator
abbrev pub phase_two : ℕ → Look → ModuleState → ModuleState
phase_two x look m = record m { actuators = numbered 0 (λ a v. unwrap_or (update_value m x look a) v) m.actuators }

-- 3. Mode switch: the first at this offset, in order of the source, whose guard holds; else the period may be over

-- the switches of the mode that a module is in
abbrev pub switches_now : ModuleState → List Switch
switches_now m = unwrap_or (option_map (λ mode. mode.switches) (present m)) []

-- the mode that is switched to at x
abbrev pub switch_target : ModuleState → ℕ → Look → Option ℕ
switch_target m x look = option_map (λ s. s.target.0) (find (λ s. m.base + s.at.0 == x && holds s.guard look) (switches_now m))

-- the period of the present cycle ends at x
abbrev pub is_over : ModuleState → ℕ → Bool
is_over m x = unwrap_or (option_map (λ mode. m.base + mode.period.0 == x) (present m)) false

-- the module in its new mode, or at the start of its next cycle, or as it is
abbrev pub switched : ℕ → ModuleState → Option ℕ → ModuleState
switched x m (Some target) = record m { mode = target; base = x }
switched x m None = if is_over m x then record m { base = x } else m

-- the mode switch, or the next cycle
abbrev pub phase_three : ℕ → Look → ModuleState → ModuleState
phase_three x look m = switched x m (switch_target m x look)

-- 4. Release: each invocation of the present mode that starts at x and whose guard holds

-- the numbers of the arguments, each narrowed to its input's kind
abbrev pub narrowed_args : List Kind → List Expr → Look → List ℤ
narrowed_args kinds [] look = []
narrowed_args [] (e ∷ es) look = narrowed Long (value_of e look) ∷ narrowed_args [] es look
narrowed_args (k ∷ ks) (e ∷ es) look = narrowed k (value_of e look) ∷ narrowed_args ks es look

-- the job becomes active with its arguments, narrowed to the inputs' kinds
abbrev pub released : ℕ → ℕ → Invocation → Look → TaskState → TaskState
released mode k i look u =
    record u { active = Some (record { mode = mode; invocation = k; inputs = narrowed_args (kinds_of u.definition.inputs) i.args look }) }

-- the invocations from number k on, in order
abbrev pub releases : ModuleState → ℕ → Look → ℕ → List Invocation → List TaskState → List TaskState
releases m x look k [] tasks = tasks
releases m x look k (i ∷ is) tasks =
    releases m x look (suc k) is
    (if m.base + i.s.0 == x && holds i.guard look then changed_at i.task.0 (released m.mode k i look) tasks else tasks)

-- releases, invocation by invocation
abbrev pub phase_four : ℕ → Look → ModuleState → ModuleState
phase_four x look m = record m { tasks = releases m x look 1 (invocations_now m) m.tasks }
