-- The worst case of an activity's task, where the task is there.
use Rattle.std.proofs.Common.{◌≡◌, ℕ, ◌-◌, List, Some, nat_lt, refl}
use Rattle.std.specs.List.{list_any}
use Rattle.tdl_tree.specs.declared.activities.Act.{Act}
use Rattle.tdl_tree.specs.declared.expressions.ExprTree.{ExprTree}
use Rattle.tdl_tree.specs.declared.names.Id.{Id}
use Rattle.tdl_tree.specs.declared.activities.ActKind.TheVariants as what
use Rattle.tdl_rules.specs.ModeRules.{c17_what}
use Rattle.tdl_rules.specs.Naming.{Scope, TaskMeant, as_task, meant, spot_of}
use Rattle.tdl_rules.specs.Parts.{broken, fault_if}
use Rattle.tdl_rules.specs.Times.{lets, time_us}

-- one of its logical execution times is too short
pub c17_what-there : (scope : Scope) (period : ℕ) (a : Act) (task : Id) (args : List ExprTree) (t : TaskMeant) →
    a.what ≡ what.Task task args → as_task (meant scope.tree task.text) ≡ Some t →
    c17_what scope period a a.what
    ≡ fault_if (list_any (λ span. nat_lt (span.e - span.s) (time_us t.worst)) (lets period a)) (broken 17 scope.file (spot_of task))
c17_what-there scope period a task args t is there = rw (is, there) refl
