-- What the rules that are kept give each declaration, so that its numbers fit.
use Rattle.std.specs.Prelude.{◌≡◌, ◌≤◌, ℕ, List, [], Some, length, slice_get}
use Rattle.tdl_base.specs.declared.limits.TheConstants.{OCCURRENCES, PERIOD_US, PORTS}
use Rattle.tdl_tree.specs.declared.declarations.Decl.{Decl}
use Rattle.tdl_tree.specs.declared.declarations.Decl.TheVariants as decl
use Rattle.tdl_tree.specs.declared.declarations.Tree.{Tree}
use Rattle.tdl_rules.specs.Faults.{faults}
use Rattle.tdl_rules.specs.Naming.{Scope}
use Rattle.tdl_rules.specs.Parts.{modules}
use Rattle.tdl_rules.specs.Times.{time_us}
use Rattle.tdl_resolve.specs.Turns.{KeepsTurns}

-- a task has a short worst case, few ports and few turns, a mode a short period and few activities
abbrev pub KeepsBounds : Decl → Type 0
KeepsBounds (decl.Task public name worst ports body) =
    (time_us worst ≤ PERIOD_US) × (length ports ≤ PORTS) × KeepsTurns body
KeepsBounds (decl.Mode start name period acts) = (time_us period ≤ PERIOD_US) × (length acts ≤ OCCURRENCES)
KeepsBounds _ = Unit {0}

-- a scope is that of a module of these sources, which break no rule
pub record IsFaultless (sources : List Tree) (scope : Scope) : Type 0 where
  pub kept : faults sources ≡ []
  pub place : ℕ
  pub is : slice_get (modules sources) place ≡ Some scope
