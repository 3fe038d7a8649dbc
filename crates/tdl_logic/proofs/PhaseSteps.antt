-- What a termination or the releases of one module make of it among all.
use Rattle.std.proofs.Common.{◌≡◌, ℕ, List, [], ◌∷◌, map, Bool, true, false, Option, Some, None, slice_get, refl, ap, ap₂, sym, ◌∙◌}
use Rattle.std.specs.Prelude.{if◌then◌else◌, option_map, unwrap_or}
use Rattle.std.proofs.lemmas.Option.{same_Some}
use Rattle.tdl_base.specs.Lists.{changed_at}
use Rattle.tdl_body.specs.Values.{Look}
use Rattle.tdl_mode.specs.declared.program.Module.{Module}
use Rattle.tdl_mode.specs.States.{Job, TaskState, ModuleState, invocations_now}
use Rattle.tdl_mode.specs.Phases.{task_after, has_ended, ended, phase_one, phase_four, releases}
use Rattle.tdl_logic.specs.declared.module_now.ModuleNow.{ModuleNow}
use Rattle.tdl_logic.specs.Releases.{definitions_of}
use Rattle.tdl_logic.specs.Wholes.{standing, all_standing}
use Rattle.tdl_logic.proofs.Placing.{map-changed}
use Rattle.tdl_logic.proofs.Standings.{tasks-changed, releases-same}

-- a module without its tasks and its actuators
abbrev pub alone_now : Module → ModuleNow → ModuleState
alone_now m now =
    record { definition = m; mode = now.cycle.mode.0; base = now.cycle.base.0; tasks = []; actuators = [] }

-- the tasks of a module after their terminations
abbrev pub ended_tasks : ℕ → Module → ModuleNow → List TaskState → List TaskState
ended_tasks x m now tasks = map (task_after (alone_now m now) x) tasks

-- a termination leaves the task's definition
ended-definition : (m : ModuleState) (x : ℕ) (u : TaskState) → (task_after m x u).definition ≡ u.definition
ended-definition m x u = by_test (has_ended m x u)
  where
    by_job : (active : Option Job) → (unwrap_or (option_map (ended u) active) u).definition ≡ u.definition
    by_job None = refl
    by_job (Some job) = refl

    by_test : (t : Bool) →
        (if t then unwrap_or (option_map (ended u) u.active) u else u).definition ≡ u.definition
    by_test true = by_job u.active
    by_test false = refl

-- the same of all tasks
ended-definitions : (m : ModuleState) (x : ℕ) (tasks : List TaskState) →
    map (λ u. u.definition) (map (task_after m x) tasks) ≡ map (λ u. u.definition) tasks
ended-definitions m x [] = refl
ended-definitions m x (u ∷ us) = ap₂ (λ d ds. d ∷ ds) (ended-definition m x u) (ended-definitions m x us)

-- and of all modules
pub ended-kept : (x k : ℕ) (m : Module) (now : ModuleNow) (all : List (List TaskState)) →
    definitions_of (changed_at k (ended_tasks x m now) all) ≡ definitions_of all
ended-kept x k m now all =
    map-changed (λ tasks. map (λ u. u.definition) tasks) (ended_tasks x m now) k all
    (λ tasks. ended-definitions (alone_now m now) x tasks)

-- the termination of one module
pub ended-standing : (x k : ℕ) (ms : List Module) (nows : List ModuleNow) (all : List (List TaskState)) (m : Module)
    (now : ModuleNow) → slice_get ms k ≡ Some m → slice_get nows k ≡ Some now →
    all_standing ms nows (changed_at k (ended_tasks x m now) all)
    ≡ changed_at k (phase_one x) (all_standing ms nows all)
ended-standing x k ms nows all m now em en =
    tasks-changed k (ended_tasks x m now) (phase_one x) ms nows all
    (λ m' now' tasks em' en' at.
    ap₂ (λ d n. standing m' now' (ended_tasks x d n tasks)) (same_Some m m' (sym em ∙ em'))
    (same_Some now now' (sym en ∙ en')))

-- the releases of one module
pub released-standing : (x : ℕ) (look : Look) (m m' : Module) (now now' : ModuleNow) (tasks : List TaskState) →
    m' ≡ m → now' ≡ now →
    standing m now (releases (alone_now m' now') x look 1 (invocations_now (alone_now m' now')) tasks)
    ≡ phase_four x look (standing m now tasks)
released-standing x look m m' now now' tasks em en =
    ap₂ (λ d n. standing m now (releases (alone_now d n) x look 1 (invocations_now (alone_now d n)) tasks)) em en
    ∙ ap (standing m now)
    (releases-same (alone_now m now) (standing m now tasks) x 1 look (invocations_now (alone_now m now)) tasks refl
    refl)
