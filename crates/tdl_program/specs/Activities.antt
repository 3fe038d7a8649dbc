-- The invocations, updates and switches that the activities of a mode say.
use Rattle.std.specs.Prelude.{ℕ, List, [], map, option_map, unwrap_or}
use Rattle.tdl_base.specs.Lists.{numbered, joined}
use Rattle.tdl_base.specs.declared.numbers.TaskId.{TaskId}
use Rattle.tdl_base.specs.declared.numbers.ModeId.{ModeId}
use Rattle.tdl_mode.specs.declared.program.Invocation.{Invocation}
use Rattle.tdl_mode.specs.declared.program.Update.{Update}
use Rattle.tdl_mode.specs.declared.program.Switch.{Switch}
use Rattle.tdl_tree.specs.declared.activities.Act.{Act}
use Rattle.tdl_tree.specs.declared.activities.ActKind.{ActKind}
use Rattle.tdl_tree.specs.declared.activities.ActKind.TheVariants as act
use Rattle.tdl_tree.specs.declared.expressions.ExprTree.{ExprTree}
use Rattle.tdl_tree.specs.declared.names.Id.{Id}
use Rattle.tdl_rules.specs.Naming.{Scope, meant, as_task, as_actuator, as_mode}
use Rattle.tdl_rules.specs.Times.{Let, lets, times}
use Rattle.tdl_program.specs.Ordinals.{ordinal, is_task, is_actuator, is_mode}
use Rattle.tdl_program.specs.Expressions.{expression_of, guard_of}

-- ---- what activities name

-- the number of the task that a name means; 0 where it means none
abbrev pub task_number : Scope → Id → TaskId
task_number scope x = record {
  0 = unwrap_or (option_map (λ t. ordinal is_task scope.tree.decls t.number) (as_task (meant scope.tree x.text))) 0;
}

-- the number of the actuator that a name means
abbrev pub actuator_number : Scope → Id → ℕ
actuator_number scope x =
    unwrap_or (option_map (λ a. ordinal is_actuator scope.tree.decls a.0) (as_actuator (meant scope.tree x.text))) 0

-- the number of the mode that a name means
abbrev pub mode_number : Scope → Id → ModeId
mode_number scope x = record {
  0 = unwrap_or (option_map (λ k. ordinal is_mode scope.tree.decls k) (as_mode (meant scope.tree x.text))) 0;
}

-- ---- invocations

-- activity n as the invocation of a task over this logical execution time
abbrev pub invocation_over : Scope → ℕ → Act → Id → List ExprTree → Let → Invocation
invocation_over scope n activity task args span = record {
  act = n;
  task = task_number scope task;
  s = record { 0 = span.s };
  e = record { 0 = span.e };
  guard = guard_of scope activity.guard;
  args = map (expression_of scope) args;
}

-- the invocations of activity n of a mode of this period: one for each range
abbrev pub invocations_in : Scope → ℕ → ℕ → Act → ActKind → List Invocation
invocations_in scope period n activity (act.Task task args) =
    map (invocation_over scope n activity task args) (lets period activity)
invocations_in scope period n activity _ = []

-- the invocations of a mode, in order of its activities
abbrev pub invocations_of : Scope → ℕ → List Act → List Invocation
invocations_of scope period acts =
    joined (numbered 0 (λ n activity. invocations_in scope period n activity activity.what) acts)

-- ---- updates

-- activity n as the update of an actuator at this offset
abbrev pub update_at : Scope → ℕ → Act → Id → ExprTree → ℕ → Update
update_at scope n activity actuator value at = record {
  act = n;
  actuator = actuator_number scope actuator;
  at = record { 0 = at };
  value = expression_of scope value;
  guard = guard_of scope activity.guard;
}

-- the updates of activity n: one for each chosen slot
abbrev pub updates_in : Scope → ℕ → ℕ → Act → ActKind → List Update
updates_in scope period n activity (act.Update actuator value) =
    map (update_at scope n activity actuator value) (times period activity)
updates_in scope period n activity _ = []

-- the updates of a mode
abbrev pub updates_of : Scope → ℕ → List Act → List Update
updates_of scope period acts =
    joined (numbered 0 (λ n activity. updates_in scope period n activity activity.what) acts)

-- ---- switches

-- activity n as a switch at this offset
abbrev pub switch_at : Scope → ℕ → Act → Id → ℕ → Switch
switch_at scope n activity target at = record {
  act = n;
  at = record { 0 = at };
  target = mode_number scope target;
  guard = guard_of scope activity.guard;
}

-- the switches of activity n: one for each chosen slot
abbrev pub switches_in : Scope → ℕ → ℕ → Act → ActKind → List Switch
switches_in scope period n activity (act.Switch target) =
    map (switch_at scope n activity target) (times period activity)
switches_in scope period n activity _ = []

-- the switches of a mode
abbrev pub switches_of : Scope → ℕ → List Act → List Switch
switches_of scope period acts =
    joined (numbered 0 (λ n activity. switches_in scope period n activity activity.what) acts)
