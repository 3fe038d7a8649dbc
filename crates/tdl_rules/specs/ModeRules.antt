-- The rules on modes and their times: C9 to C17.
use Rattle.std.specs.List.{list_any}
use Rattle.std.specs.Prelude.{ℕ, Bool, List, [], ◌∷◌, Option, Some, None, map, true, false, ◌++◌, ◌-◌, not, ◌&&◌, ◌==◌, nat_lt, nat_le}
use Rattle.tdl_base.specs.Lists.{numbered}
use Rattle.tdl_base.specs.declared.limits.TheConstants.{LEAST_US, WORST_CASE_US}
use Rattle.tdl_base.specs.declared.kinds.Kind.{Kind}
use Rattle.tdl_rules.specs.declared.fault.Fault.{Fault}
use Rattle.tdl_tree.specs.declared.activities.Act.{Act}
use Rattle.tdl_tree.specs.declared.activities.ActKind.{ActKind}
use Rattle.tdl_tree.specs.declared.activities.Slots.{Slots}
use Rattle.tdl_tree.specs.declared.declarations.Decl.{Decl}
use Rattle.tdl_tree.specs.declared.declarations.Tree.{Tree}
use Rattle.tdl_tree.specs.declared.names.Id.{Id}
use Rattle.tdl_tree.specs.declared.activities.ActKind.TheVariants as act
use Rattle.tdl_tree.specs.declared.declarations.Decl.TheVariants as decl
use Rattle.tdl_rules.specs.Lists.{each, clashes}
use Rattle.tdl_rules.specs.Naming.{spot_of, meant, Scope, TaskMeant, as_task, as_actuator, as_mode}
use Rattle.tdl_rules.specs.Times.{time_us, in_ten_seconds, divides, bad_range, Let, lets, times}
use Rattle.tdl_rules.specs.Parts.{broken, spot_of_number, fault_if, modules, in_declarations, in_activities, in_modes}

-- ---- C9 a period is below 1 us or above 10 s

-- the period of a mode
abbrev pub c9_declaration : Scope → Decl → List Fault
c9_declaration scope (decl.Mode start name period acts) =
    fault_if (not (in_ten_seconds (time_us period))) (broken 9 scope.file (spot_of_number period.number))
c9_declaration scope _ = []

-- the faults of C9
abbrev pub c9 : List Tree → List Fault
c9 = in_declarations c9_declaration

-- ---- C10 a frequency is 0, above 1,000, or does not divide the period

-- the frequency of an activity
abbrev pub c10_activity : Scope → ℕ → Act → List Fault
c10_activity scope period activity =
    fault_if (not (divides activity.freq.value period)) (broken 10 scope.file (spot_of_number activity.freq))

-- the faults of C10
abbrev pub c10 : List Tree → List Fault
c10 = in_activities c10_activity

-- ---- C11 ranges are not 1 <= i <= j <= f, each above the one before

-- the range that is bad, where there is one, in source k
abbrev pub bad_at : ℕ → Option Slots → List Fault
bad_at k None = []
bad_at k (Some range) = broken 11 k (spot_of_number range.first) ∷ []

-- the ranges of an activity
abbrev pub c11_activity : Scope → ℕ → Act → List Fault
c11_activity scope period activity = bad_at scope.file (bad_range activity.freq.value 0 activity.slots)

-- the faults of C11
abbrev pub c11 : List Tree → List Fault
c11 = in_activities c11_activity

-- ---- C12 a module has no start mode; a second one

-- the name of a start mode
abbrev pub start_of : Decl → List Id
start_of (decl.Mode true name period acts) = name ∷ []
start_of _ = []

-- the start modes of a module: none, or each after the first
abbrev pub starts_broken : Scope → List Id → List Fault
starts_broken scope [] = broken 12 scope.file (spot_of scope.tree.name) ∷ []
starts_broken scope (first ∷ more) = map (λ id. broken 12 scope.file (spot_of id)) more

-- the faults of C12
abbrev pub c12 : List Tree → List Fault
c12 sources = each (λ scope. starts_broken scope (each start_of scope.tree.decls)) (modules sources)

-- ---- C13 two LETs of one task in one mode overlap

-- an invocation: its task's declaration, the task's name in its activity, its LET
pub record Invoked : Type 0 where
  pub task : ℕ
  pub name : Id
  pub span : Let

-- the invocations of an activity of a mode of this period, where its task is there
abbrev pub invoked : Scope → ℕ → Act → ActKind → List Invoked
invoked scope period activity (act.Task task args) = by_task (as_task (meant scope.tree task.text))
  where
    by_task : Option TaskMeant → List Invoked
    by_task None = []
    by_task (Some t) = map (λ span. record { task = t.number; name = task; span = span }) (lets period activity)
invoked scope period activity _ = []

-- two invocations of one task of which each starts before the other ends
abbrev pub overlap : Invoked → Invoked → Bool
overlap i j = i.task == j.task && (nat_lt i.span.s j.span.e && nat_lt j.span.s i.span.e)

-- the invocations of a mode, in order of their numbers
abbrev pub c13_mode : Scope → ℕ → List Act → List Fault
c13_mode scope period acts =
    map (λ i. broken 13 scope.file (spot_of i.name))
    (clashes overlap (each (λ activity. invoked scope period activity activity.what) acts))

-- the faults of C13
abbrev pub c13 : List Tree → List Fault
c13 = in_modes c13_mode

-- ---- C14 one actuator is updated twice at one offset of a mode

-- an update: its actuator's declaration, the actuator's name in its activity, its offset
pub record Updated : Type 0 where
  pub actuator : ℕ
  pub name : Id
  pub time : ℕ

-- the updates of an activity of a mode of this period, where its actuator is there
abbrev pub updated : Scope → ℕ → Act → ActKind → List Updated
updated scope period activity (act.Update actuator value) = by_actuator (as_actuator (meant scope.tree actuator.text))
  where
    by_actuator : Option (ℕ × Kind) → List Updated
    by_actuator None = []
    by_actuator (Some declared) =
        map (λ time. record { actuator = declared.0; name = actuator; time = time }) (times period activity)
updated scope period activity _ = []

-- two updates of one actuator at one offset
abbrev pub same_update : Updated → Updated → Bool
same_update u v = u.actuator == v.actuator && u.time == v.time

-- the updates of a mode, in order of the source
abbrev pub c14_mode : Scope → ℕ → List Act → List Fault
c14_mode scope period acts =
    map (λ u. broken 14 scope.file (spot_of u.name))
    (clashes same_update (each (λ activity. updated scope period activity activity.what) acts))

-- the faults of C14
abbrev pub c14 : List Tree → List Fault
c14 = in_modes c14_mode

-- ---- C15 a switch offset t has an invocation of its mode with s < t < e

-- the LETs of an activity of a mode of this period, whether or not its task is there
abbrev pub task_lets : ℕ → Act → ActKind → List Let
task_lets period activity (act.Task task args) = lets period activity
task_lets period activity _ = []

-- an offset stands inside one of the LETs
abbrev pub cuts : List Let → ℕ → Bool
cuts spans t = list_any (λ span. nat_lt span.s t && nat_lt t span.e) spans

-- an activity of a mode that has these LETs
abbrev pub c15_activity : Scope → ℕ → List Let → Act → ActKind → List Fault
c15_activity scope period spans activity (act.Switch target) =
    fault_if (list_any (cuts spans) (times period activity)) (broken 15 scope.file (spot_of target))
c15_activity scope period spans activity _ = []

-- the LETs of a mode
abbrev pub mode_lets : ℕ → List Act → List Let
mode_lets period acts = each (λ activity. task_lets period activity activity.what) acts

-- the switches of a mode
abbrev pub c15_mode : Scope → ℕ → List Act → List Fault
c15_mode scope period acts =
    each (λ activity. c15_activity scope period (mode_lets period acts) activity activity.what) acts

-- the faults of C15
abbrev pub c15 : List Tree → List Fault
c15 = in_modes c15_mode

-- ---- C16 a switch names its own mode

-- an activity of the mode that is declaration k
abbrev pub c16_activity : Scope → ℕ → ActKind → List Fault
c16_activity scope k (act.Switch target) =
    fault_if (is_own (as_mode (meant scope.tree target.text))) (broken 16 scope.file (spot_of target))
  where
    is_own : Option ℕ → Bool
    is_own None = false
    is_own (Some j) = j == k
c16_activity scope k _ = []

-- the activities of a declaration with its number
abbrev pub c16_mode : Scope → ℕ × Decl → List Fault
c16_mode scope (k, decl.Mode start name period acts) = each (λ activity. c16_activity scope k activity.what) acts
c16_mode scope _ = []

-- the faults of C16
abbrev pub c16 : List Tree → List Fault
c16 sources = each (λ scope. each (c16_mode scope) (numbered 0 (λ k d. (k, d)) scope.tree.decls)) (modules sources)

-- ---- C17 a worst case is 0 or above 10 s; is above a LET of its task

-- a number of microseconds that a worst case may have: 1 us to 10 s
abbrev pub is_worst_case : ℕ → Bool
is_worst_case us = nat_le LEAST_US us && nat_le us WORST_CASE_US

-- the worst case of a task
abbrev pub c17_declaration : Scope → Decl → List Fault
c17_declaration scope (decl.Task public name worst ports body) =
    fault_if (not (is_worst_case (time_us worst))) (broken 17 scope.file (spot_of_number worst.number))
c17_declaration scope _ = []

-- an activity of a mode of this period, where its task is there: one of its LETs is too short
abbrev pub c17_what : Scope → ℕ → Act → ActKind → List Fault
c17_what scope period activity (act.Task task args) = by_task (as_task (meant scope.tree task.text))
  where
    by_task : Option TaskMeant → List Fault
    by_task None = []
    by_task (Some t) =
        fault_if (list_any (λ span. nat_lt (span.e - span.s) (time_us t.worst)) (lets period activity))
        (broken 17 scope.file (spot_of task))
c17_what scope period activity _ = []

-- the faults of C17
abbrev pub c17 : List Tree → List Fault
c17 sources =
    in_declarations c17_declaration sources ++
    in_activities (λ scope period activity. c17_what scope period activity activity.what) sources
