-- How many declarations of each sort stand before one.
use Rattle.std.specs.Prelude.{◌≡◌, ℕ, ◌+◌, ◌≤◌, List, filter, length, take, slice_get, unwrap_or}
use Rattle.tdl_base.specs.declared.limits.TheConstants.{ACTUATORS, MODES, SENSORS, TASKS}
use Rattle.tdl_tree.specs.declared.declarations.Decl.{Decl}
use Rattle.tdl_tree.specs.declared.declarations.Decl.TheVariants as decl
use Rattle.tdl_program.specs.Ordinals.{is_sensor, is_actuator, is_task, is_mode}
use Rattle.tdl_resolve.specs.declared.numbers.Counts.{Counts}

-- how many of each sort there are
abbrev pub counts_in : List Decl → Counts
counts_in decls = record {
  sensors = length (filter is_sensor decls);
  actuators = length (filter is_actuator decls);
  tasks = length (filter is_task decls);
  modes = length (filter is_mode decls);
}

-- how many of each sort stand before declaration k
abbrev pub counts_at : List Decl → ℕ → Counts
counts_at decls k = counts_in (take k decls)

-- with one declaration more
abbrev pub and_one : Counts → Decl → Counts
and_one counts (decl.Sensor kind name) = record counts { sensors = counts.sensors + 1 }
and_one counts (decl.Actuator kind name initial) = record counts { actuators = counts.actuators + 1 }
and_one counts (decl.Task public name worst ports body) = record counts { tasks = counts.tasks + 1 }
and_one counts (decl.Mode start name period acts) = record counts { modes = counts.modes + 1 }
and_one counts (decl.Const public kind name value) = counts

-- there are no more of each sort than a module may have
pub record IsSmall (counts : Counts) : Type 0 where
  pub sensors : counts.sensors ≤ SENSORS
  pub actuators : counts.actuators ≤ ACTUATORS
  pub tasks : counts.tasks ≤ TASKS
  pub modes : counts.modes ≤ MODES

-- the same of declarations
abbrev pub AreFew : List Decl → Type 0
AreFew decls = IsSmall (counts_in decls)

-- the counts before each declaration, and of all
abbrev pub EachCounted : List Decl → List Counts → Counts → Type 0
EachCounted decls before all = (k : ℕ) → unwrap_or (slice_get before k) all ≡ counts_at decls k
