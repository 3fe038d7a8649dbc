-- The faults of a schedule: rule by rule the windows, the invocations or the pairs of windows that break it.
use Rattle.std.specs.Prelude.{◌≡◌, ℕ, suc, Bool, List, [], ◌∷◌, ◌++◌, map, Some, if◌then◌else◌}
use Rattle.tdl_base.specs.Lists.{joined, numbered, first_of}
use Rattle.tdl_mode.specs.declared.program.Program.{Program}
use Rattle.tdl_mode.specs.declared.program.Module.{Module}
use Rattle.tdl_mode.specs.declared.program.Mode.{Mode}
use Rattle.tdl_mode.specs.declared.program.Invocation.{Invocation}
use Rattle.tdl_deploy.specs.declared.placement.Placement.{Placement}
use Rattle.tdl_deploy.specs.declared.schedule.Schedule.{Schedule}
use Rattle.tdl_deploy.specs.declared.schedule.Window.{Window}
use Rattle.tdl_window.specs.declared.error.SchedAt.{SchedAt}
use Rattle.tdl_window.specs.declared.error.SchedAt.TheVariants as at
use Rattle.tdl_window.specs.declared.error.Fault.{Fault}
use Rattle.tdl_window.specs.declared.error.TestError.{TestError}
use Rattle.tdl_window.specs.declared.error.TestError.TheVariants.{BadSchedule, NoMemory}
use Rattle.tdl_window.specs.Broken.{lasts_no_time, is_untimely, holds_no_frame, lacks_time, has_other_buses, overlap, meet_on_node, meet_on_bus}
use Rattle.tdl_window.specs.GrainOf.{grains_of}

-- ---- where a rule is broken

-- the places of the items that break it, the first item being at place k
abbrev pub places_of : {A : Type 0} → (ℕ → SchedAt) → (ℕ → A → Bool) → ℕ → List A → List SchedAt
places_of named breaks k [] = []
places_of named breaks k (x ∷ xs) =
    if breaks k x then named k ∷ places_of named breaks (suc k) xs else places_of named breaks (suc k) xs

-- the windows that break a rule, numbered from 1
abbrev pub windows_breaking : (Window → Bool) → List Window → List SchedAt
windows_breaking breaks windows = places_of at.Window (λ q w. breaks w) 1 windows

-- the windows from number k on that break it with window q
abbrev pub partners_of : (Window → Window → Bool) → ℕ → Window → ℕ → List Window → List SchedAt
partners_of breaks q v k windows = places_of (at.Pair q) (λ r w. breaks v w) k windows

-- the pairs that break it, by the first window and then the second; the first window of all has number k
abbrev pub pairs_breaking : (Window → Window → Bool) → ℕ → List Window → List SchedAt
pairs_breaking breaks k [] = []
pairs_breaking breaks k (v ∷ vs) = partners_of breaks k v (suc k) vs ++ pairs_breaking breaks (suc k) vs

-- a rule on invocations: module number, module, mode number, number and invocation
abbrev pub OnCall : Type 0
OnCall = ℕ → Module → ℕ → ℕ → Invocation → Bool

-- the invocations of mode k of module m that break it, numbered from 1
abbrev pub mode_breaking : OnCall → ℕ → Module → ℕ → Mode → List SchedAt
mode_breaking breaks m owner k mode =
    places_of (at.Invocation (record { 0 = m }) (record { 0 = k })) (breaks m owner k) 1 mode.invocations

-- those of module m, by mode
abbrev pub module_breaking : OnCall → ℕ → Module → List SchedAt
module_breaking breaks m owner = joined (numbered 0 (mode_breaking breaks m owner) owner.modes)

-- those of all modules, by module
abbrev pub calls_breaking : OnCall → Program → List SchedAt
calls_breaking breaks program = joined (numbered 0 (module_breaking breaks) program.modules)

-- ---- all faults

-- a rule is broken at each of these places
abbrev pub told : ℕ → List SchedAt → List Fault
told rule places = map (λ p. record { rule = rule; at = p }) places

-- S2 and S3
abbrev pub window_faults : Program → Schedule → List Fault
window_faults program schedule =
    told 2 (windows_breaking lasts_no_time schedule.windows)
    ++ told 3 (windows_breaking (is_untimely program schedule) schedule.windows)

-- S4 and S5
abbrev pub call_faults : Program → Placement → Schedule → List Fault
call_faults program placement schedule =
    told 4 (calls_breaking (lacks_time schedule.windows) program)
    ++ told 5 (calls_breaking (has_other_buses program placement schedule.windows) program)

-- S6
abbrev pub frame_faults : Program → Placement → Schedule → List Fault
frame_faults program placement schedule =
    told 6 (windows_breaking (holds_no_frame program placement) schedule.windows)

-- S7, S8 and S9
abbrev pub pair_faults : Placement → List ℕ → Schedule → List Fault
pair_faults placement grains schedule =
    told 7 (pairs_breaking overlap 1 schedule.windows)
    ++ (told 8 (pairs_breaking (meet_on_node placement grains) 1 schedule.windows)
    ++ told 9 (pairs_breaking (meet_on_bus grains) 1 schedule.windows))

-- the faults of S2, of S3 and so on to S9
unfoldable pub sched_faults : Program → Placement → Schedule → List Fault
sched_faults program placement schedule =
    window_faults program schedule
    ++ (call_faults program placement schedule
    ++ (frame_faults program placement schedule
    ++ pair_faults placement (grains_of program) schedule))

-- the fault is the first of them; nothing where memory is wanting
abbrev pub TellsFirst : TestError → List Fault → Type 0
TellsFirst (BadSchedule rule p) faults = first_of faults ≡ Some (record { rule = rule; at = p })
TellsFirst NoMemory faults = Unit {0}
