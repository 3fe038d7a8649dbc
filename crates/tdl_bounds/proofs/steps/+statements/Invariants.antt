-- The steps counted so far, and those of the statements that are left.
use Rattle.std.proofs.Common.{◌≡◌, ◌+◌, ◌≤◌, min, map, drop}
use Rattle.tdl_base.specs.declared.limits.TheConstants.{STEPS}
use Rattle.tdl_rules.specs.Lists.{total}
use Rattle.tdl_rules.specs.Trees.{steps}
use Rattle.tdl_bounds.proofs.steps.+statements.Given as goal

abbrev pub invariant-steps_of_all-loop-statement : goal.invariant-steps_of_all-loop-statement
invariant-steps_of_all-loop-statement l =
    (min (total (map steps l.statements)) (STEPS + 1)
    ≡ min (l.count + total (map steps (drop l.statement-index l.statements))) (STEPS + 1))
    × (l.count ≤ STEPS + 1)
