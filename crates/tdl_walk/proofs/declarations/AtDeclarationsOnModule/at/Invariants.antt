use Rattle.std.proofs.Common.{◌≡◌, take}
use Rattle.tdl_rules.specs.Earliest.{earliest}
use Rattle.tdl_rules.specs.Lists.{each}
use Rattle.tdl_walk.proofs.declarations.AtDeclarationsOnModule.at.Given as goal

abbrev pub invariant-loop-number : goal.invariant-loop-number
invariant-loop-number g l =
    l.best ≡ earliest l.initial.best (each (g.R.OnDeclaration.gives l.self.rule.now l.scope) (take l.number l.scope.tree.decls))
