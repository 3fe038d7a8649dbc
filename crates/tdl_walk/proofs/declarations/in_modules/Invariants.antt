use Rattle.std.proofs.Common.{◌≡◌, take}
use Rattle.tdl_rules.specs.Earliest.{earliest}
use Rattle.tdl_rules.specs.Lists.{each}
use Rattle.tdl_rules.specs.Parts.{modules}
use Rattle.tdl_walk.proofs.declarations.in_modules.Given as goal

abbrev pub invariant-loop-file : goal.invariant-loop-file
invariant-loop-file g l =
    l.best ≡ earliest l.initial.best (each (g.R.OnModule.gives l.rule) (take l.file (modules l.sources)))
