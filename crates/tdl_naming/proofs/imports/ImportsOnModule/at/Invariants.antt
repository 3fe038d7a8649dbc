use Rattle.std.proofs.Common.{◌≡◌, take}
use Rattle.tdl_rules.specs.Earliest.{earliest}
use Rattle.tdl_rules.specs.Lists.{each}
use Rattle.tdl_rules.specs.NameRules.{c2_import}
use Rattle.tdl_naming.proofs.imports.ImportsOnModule.at.Given as goal

abbrev pub invariant-loop-id : goal.invariant-loop-id
invariant-loop-id l = l.best ≡ earliest l.initial.best (each (c2_import l.scope) (take l.id-index l.imports))
