-- The declarations that are left, counted from here on, give what all give.
use Rattle.std.proofs.Common.{◌≡◌, drop}
use Rattle.tdl_rules.specs.BoundRules as bounds
use Rattle.tdl_rules.specs.Lists.{each}
use Rattle.tdl_bounds.specs.Occurrences.{after}
use Rattle.tdl_bounds.proofs.occurrences.Counted.after_module.Given as goal

abbrev pub invariant-loop-decl : goal.invariant-loop-decl
invariant-loop-decl l =
    after l.fn.self (each (bounds.counted l.scope) l.decls)
    ≡ after l.counted (each (bounds.counted l.scope) (drop l.decl-index l.decls))
