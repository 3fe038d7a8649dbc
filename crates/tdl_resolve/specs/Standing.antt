-- Where what is made stands.
use Rattle.std.specs.Prelude.{◌≡◌, ◌≤◌, List, [], Some, length, slice_get, unwrap_or}
use Rattle.tdl_base.specs.declared.limits.TheConstants.{PORTS}
use Rattle.tdl_tree.specs.declared.declarations.Tree.{Tree}
use Rattle.tdl_rules.specs.Naming.{Scope}

-- a scope is one of these sources, and its body has no more ports than a task may have
pub record Stands (sources : List Tree) (scope : Scope) : Type 0 where
  pub own : scope.sources ≡ sources
  pub there : slice_get sources scope.file ≡ Some scope.tree
  pub few : length (unwrap_or scope.body []) ≤ PORTS
