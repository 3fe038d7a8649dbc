-- The invocations and the updates of one activity, and whether they meet earlier ones.
use Rattle.std.specs.List.{list_any}
use Rattle.std.specs.Prelude.{ℕ, Bool, List, map, ◌==◌, ◌&&◌, nat_lt}
use Rattle.tdl_tree.specs.declared.names.Id.{Id}
use Rattle.tdl_rules.specs.ModeRules.{Invoked, Updated}
use Rattle.tdl_rules.specs.Times.{Let}

-- one of some items clashes with one of those before them
abbrev pub is_met : {A B : Type 0} → (A → B → Bool) → List A → List B → Bool
is_met clash before items = list_any (λ x. list_any (λ y. clash y x) before) items

-- each of two logical execution times starts before the other ends
abbrev pub spans_overlap : Let → Let → Bool
spans_overlap x y = nat_lt x.s y.e && nat_lt y.s x.e

-- the invocations of a task, by its declaration's number, with its name in the activity
abbrev pub invocations : ℕ → Id → List Let → List Invoked
invocations task name spans = map (λ span. record { task = task; name = name; span = span }) spans

-- two offsets are one
abbrev pub is_same : ℕ → ℕ → Bool
is_same s t = s == t

-- the updates of an actuator, by its declaration's number, with its name in the activity
abbrev pub updates : ℕ → Id → List ℕ → List Updated
updates actuator name times = map (λ time. record { actuator = actuator; name = name; time = time }) times
