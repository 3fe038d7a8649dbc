-- The declarations so far, with their numbers.
use Rattle.std.proofs.Common.{◌≡◌, take}
use Rattle.tdl_base.specs.Lists.{numbered}
use Rattle.tdl_rules.specs.Earliest.{earliest}
use Rattle.tdl_rules.specs.Lists.{each}
use Rattle.tdl_rules.specs.ModeRules.{c16_mode}
use Rattle.tdl_modes.proofs.targets.TargetsOnModule.at.Given as goal

abbrev pub invariant-loop-number : goal.invariant-loop-number
invariant-loop-number l =
    l.best ≡ earliest l.initial.best (each (c16_mode l.scope) (take l.number (numbered 0 (λ k d. (k, d)) l.scope.tree.decls)))
