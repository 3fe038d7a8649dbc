-- The two small sources break no rule.
use Rattle.std.proofs.Common.{◌≡◌, List, [], ◌∷◌, refl, ap, ◌∙◌}
use Rattle.tdl_tree.specs.declared.declarations.Tree.{Tree}
use Rattle.tdl_rules.specs.Faults.{faults}
use Rattle.tdl_resolve.specs.Examples.{far, near}

-- none is broken
pub none_broken : faults (far ∷ near ∷ []) ≡ []
none_broken = refl
