use Rattle.std.proofs.Common.{◌≡◌, map}
use Rattle.std.specs.Vec.Iter.{into_iter_items}
use Rattle.tdl_lines.specs.declared.said.Said.{Said}
use Rattle.tdl_scenario.specs.declared.entry.Entry.{Entry}
use Rattle.tdl_scenario.specs.Building.{with_more}
use Rattle.tdl_scenario.specs.ReadScenario.{scenario_said}
use Rattle.tdl_scenario.proofs.build.scenario_said.Given as goal

abbrev pub invariant-loop-said : goal.invariant-loop-said
invariant-loop-said l =
    with_more l.scenario (map (λ (line : Said Entry). line.what) (into_iter_items l.said-iterator))
    ≡ scenario_said l.fn.lines.items
