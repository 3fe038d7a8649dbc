-- Whose outputs names read.
use Rattle.std.specs.Prelude.{ℕ, ◌≤◌}
use Rattle.tdl_rules.specs.declared.found.Target.{Target}
use Rattle.tdl_rules.specs.declared.found.Target.TheVariants as target

-- an output that is read from source k is one of that source or of an earlier one
abbrev pub ReadsUpTo : ℕ → Target → Type 0
ReadsUpTo k (target.Output m t j) = m ≤ k
ReadsUpTo k (target.Port j) = Unit {0}
ReadsUpTo k (target.Fixed literal) = Unit {0}
ReadsUpTo k (target.Sensor j) = Unit {0}
