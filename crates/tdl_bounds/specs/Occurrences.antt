-- The count of occurrences, from activity to activity.
use Rattle.std.specs.Prelude.{ℕ, List, [], ◌∷◌, ◌+◌, ◌-◌, min, nat_lt, if◌then◌else◌}
use Rattle.tdl_base.specs.declared.limits.TheConstants.{OCCURRENCES}
use Rattle.tdl_bounds.specs.declared.occurrences.Counted.{Counted}
use Rattle.tdl_bounds.specs.declared.occurrences.Counted.TheVariants.{Left, Passed}
use Rattle.tdl_rules.specs.declared.fault.Fault.{Fault}
use Rattle.tdl_tree.specs.declared.activities.Act.{Act}
use Rattle.tdl_rules.specs.Lists.{each}
use Rattle.tdl_rules.specs.Naming.{Scope}
use Rattle.tdl_rules.specs.Parts.{broken, spot_of_activity}
use Rattle.tdl_rules.specs.BoundRules.{count_of, counted}

-- an activity as the fault that it may be, with its occurrences
abbrev pub one_of : Scope → ℕ → Act → Fault × ℕ
one_of scope period activity =
    (broken 21 scope.file (spot_of_activity activity), count_of period activity activity.what)

-- the activities of a module, each with its occurrences
abbrev pub of_module : Scope → List (Fault × ℕ)
of_module scope = each (counted scope) scope.tree.decls

-- n or, where it is greater, one above the most occurrences
abbrev pub capped : ℕ → ℕ
capped n = min n (OCCURRENCES + 1)

-- the count after one activity more
abbrev pub next : Counted → Fault × ℕ → Counted
next (Passed f) one = Passed f
next (Left n) one = if nat_lt n (capped one.1) then Passed one.0 else Left (n - capped one.1)

-- the count after activities
abbrev pub after : Counted → List (Fault × ℕ) → Counted
after now [] = now
after now (one ∷ more) = after (next now one) more

-- the fault with which the occurrences are too many
abbrev pub passed : Counted → List Fault
passed (Left n) = []
passed (Passed f) = f ∷ []
