-- The states of a run keep the sizes of their program: tasks, outputs and actuators.
use Rattle.std.proofs.Common.{◌≡◌, ℕ, zero, suc, ℤ, ◌+◌, ◌≤◌, List, [], ◌∷◌, map, take, length, Bool, true, false, ◌&&◌, ◌==◌, Option, Some, None, refl, sym, ◌∙◌, subst, arith}
use Rattle.std.specs.Prelude.{option_map, unwrap_or, if◌then◌else◌}
use Rattle.std.proofs.lemmas.List.{length-map, length-take}
use Rattle.tdl_base.specs.Lists.{Zip, changed_at}
use Rattle.tdl_base.specs.Sensed.{Sensed, Course}
use Rattle.tdl_base.specs.declared.numbers.PortKey.{PortKey}
use Rattle.tdl_body.specs.Values.{Look, holds}
use Rattle.tdl_mode.specs.declared.program.Program.{Program}
use Rattle.tdl_mode.specs.declared.program.Module.{Module}
use Rattle.tdl_mode.specs.declared.program.Task.{Task}
use Rattle.tdl_mode.specs.declared.program.Invocation.{Invocation}
use Rattle.tdl_mode.specs.States.{Job, TaskState, ModuleState, State, result_of, invocations_now, look_of, outputs_in}
use Rattle.tdl_mode.specs.Phases.{ended, has_ended, task_after, phase_one, update_value, phase_two, phase_three, switched, switch_target, is_over, released, releases, phase_four}
use Rattle.tdl_mode.specs.Instants.{look_in, begun_task, entered, begun, alone, state_at}
use Rattle.tdl_mode.proofs.ModuleByModule.{logical-alone}
use Rattle.tdl_mode.proofs.StateLength.{length-numbered}
use Rattle.tdl_quiet.proofs.Totals.{zip-numbered, zip-map, zip-changed, zip-made}

-- the state of a task: it has no more outputs than the task
pub record TaskSized (u : TaskState) (t : Task) : Type 0 where
  pub definition : u.definition ≡ t
  pub outputs : length u.outputs ≤ length t.outputs

-- the state of a module: it has the module's tasks and actuators
pub record Sized (m : ModuleState) (d : Module) : Type 0 where
  pub tasks : Zip TaskSized m.tasks d.tasks
  pub actuators : length m.actuators ≡ length d.actuators

-- no more than n items are taken
take-within : {A : Type 0} (n : ℕ) (xs : List A) → length (take n xs) ≤ n
take-within n xs = let e = length-take n xs in omega (arith, e)

-- a job's result has no more numbers than its task has outputs
result_of-within : (t : Task) (inputs old : List ℤ) → length (result_of t inputs old) ≤ length t.outputs
unfolding result_of
result_of-within t inputs old = take-within (length t.outputs) _

-- ---- an instant

-- a termination keeps the sizes of its task
pub task_after-sized : (m : ModuleState) (x : ℕ) (u : TaskState) (t : Task) → TaskSized u t →
    TaskSized (task_after m x u) t
task_after-sized m x u t s = by_test (has_ended m x u) u.active
  where
    by_test : (b : Bool) (a : Option Job) → TaskSized (if b then unwrap_or (option_map (ended u) a) u else u) t
    by_test true None = s
    by_test true (Some job) = record {
      definition = s.definition;
      outputs = subst (λ t. length (result_of u.definition job.inputs u.outputs) ≤ length t.outputs) s.definition
          (result_of-within u.definition job.inputs u.outputs);
    }
    by_test false a = s

-- terminations do
pub phase_one-sized : (x : ℕ) (m : ModuleState) (d : Module) → Sized m d → Sized (phase_one x m) d
phase_one-sized x m d s = record {
  tasks = zip-map TaskSized (task_after m x) (task_after-sized m x) m.tasks d.tasks s.tasks;
  actuators = s.actuators;
}

-- updates do
phase_two-sized : (x : ℕ) (look : Look) (m : ModuleState) (d : Module) → Sized m d → Sized (phase_two x look m) d
phase_two-sized x look m d s = record {
  tasks = s.tasks;
  actuators = length-numbered (λ a v. unwrap_or (update_value m x look a) v) 0 m.actuators ∙ s.actuators;
}

-- a switch, or the next cycle, does
switched-sized : (x : ℕ) (m : ModuleState) (d : Module) → Sized m d → (target : Option ℕ) →
    Sized (switched x m target) d
switched-sized x m d s (Some target) = record { tasks = s.tasks; actuators = s.actuators }
switched-sized x m d s None = by_over (is_over m x)
  where
    by_over : (b : Bool) → Sized (if b then record m { base = x } else m) d
    by_over true = record { tasks = s.tasks; actuators = s.actuators }
    by_over false = s

-- releases do
releases-sized : (m : ModuleState) (x : ℕ) (look : Look) (k : ℕ) (is : List Invocation) (us : List TaskState)
    (ts : List Task) → Zip TaskSized us ts → Zip TaskSized (releases m x look k is us) ts
releases-sized m x look k [] us ts z = z
releases-sized m x look k (i ∷ is) us ts z =
    releases-sized m x look (suc k) is _ ts (by_test (m.base + i.s.0 == x && holds i.guard look))
  where
    by_test : (b : Bool) →
        Zip TaskSized (if b then changed_at i.task.0 (released m.mode k i look) us else us) ts
    by_test true =
        zip-changed TaskSized (released m.mode k i look)
        (λ u t s. record { definition = s.definition; outputs = s.outputs }) i.task.0 us ts z
    by_test false = z

-- so they do as a phase
phase_four-sized : (x : ℕ) (look : Look) (m : ModuleState) (d : Module) → Sized m d → Sized (phase_four x look m) d
phase_four-sized x look m d s = record {
  tasks = releases-sized m x look 1 (invocations_now m) m.tasks d.tasks s.tasks;
  actuators = s.actuators;
}

-- and so does the whole instant
alone-sized : (k x : ℕ) (sensed : Sensed) (seen : PortKey → ℤ) (m : ModuleState) (d : Module) → Sized m d →
    Sized (alone k x sensed seen m) d
unfolding alone
alone-sized k x sensed seen m d s =
    let look : Look = look_of k (phase_one x m).tasks sensed seen in
    let two : ModuleState = phase_two x look (phase_one x m) in
    phase_four-sized x look (phase_three x look two) d
    (switched-sized x two d (phase_two-sized x look (phase_one x m) d (phase_one-sized x m d s))
    (switch_target two x look))

-- ---- a run

-- a module begins with the sizes of its definition
entered-sized : (d : Module) → Sized (entered d) d
entered-sized d = record {
  tasks = zip-made TaskSized begun_task
      (λ t. record {
        definition = refl;
        outputs = let e = length-map t.outputs (λ p. p.initial) in omega (arith, e);
      }) d.tasks;
  actuators = length-map d.actuators (λ p. p.initial);
}

-- at each instant all modules have the sizes of their definitions
pub state_at-sized : (program : Program) (course : Course) (x : ℕ) →
    Zip Sized (state_at program course x) program.modules
unfolding state_at begun
state_at-sized program course zero =
    let first : State = map entered program.modules in
    zip-numbered Sized (λ k m. phase_four 0 (look_in first (course 0) k m) m)
    (λ k m d s. phase_four-sized 0 (look_in first (course 0) k m) m d s) 0 first program.modules
    (zip-made Sized entered entered-sized program.modules)
state_at-sized program course (suc x) =
    let before : State = state_at program course x in
    let seen : PortKey → ℤ = outputs_in (map (phase_one (suc x)) before) in
    subst (λ s. Zip Sized s program.modules) (sym (logical-alone (suc x) (course (suc x)) before))
    (zip-numbered Sized (λ k m. alone k (suc x) (course (suc x)) seen m)
    (λ k m d s. alone-sized k (suc x) (course (suc x)) seen m d s) 0 before program.modules
    (state_at-sized program course x))
