-- The faults of the declarations that are left, after the best so far, are those of all.
use Rattle.std.proofs.Common.{◌≡◌, drop}
use Rattle.tdl_rules.specs.Earliest.{earliest}
use Rattle.tdl_rules.specs.Lists.{each}
use Rattle.tdl_rules.specs.ModeRules.{start_of, starts_broken}
use Rattle.tdl_modes.proofs.StartModes.{left}
use Rattle.tdl_modes.proofs.starts.StartsOnModule.at.Given as goal

abbrev pub invariant-loop-decl : goal.invariant-loop-decl
invariant-loop-decl l =
    earliest l.best (left l.scope l.is_started (each start_of (drop l.decl-index l.decls)))
    ≡ earliest l.initial.best (starts_broken l.scope (each start_of l.decls))
