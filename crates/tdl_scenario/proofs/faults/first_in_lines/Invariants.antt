use Rattle.tdl_scenario.specs.Rules.{seen_in}
use Rattle.tdl_scenario.proofs.Walking.{IsOver}
use Rattle.tdl_scenario.proofs.faults.first_in_lines.Given as goal

abbrev pub invariant-loop-said : goal.invariant-loop-said
invariant-loop-said l = IsOver l.nodes l.lines l.said-index (seen_in l.seen) l.best
