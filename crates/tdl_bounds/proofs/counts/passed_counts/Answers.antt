-- What modules declare, then ports, then occurrences.
use Rattle.std.proofs.Common.{◌++◌}
use Rattle.tdl_base.specs.declared.limits.TheConstants.{OCCURRENCES}
use Rattle.tdl_rules.specs.BoundRules.{c21_module, c21_ports, passes}
use Rattle.tdl_rules.specs.Lists.{each}
use Rattle.tdl_rules.specs.Parts.{modules, in_declarations}
use Rattle.tdl_walk.proofs.Minimum.{in_turn}
use Rattle.tdl_bounds.specs.Occurrences.{of_module}
use Rattle.tdl_bounds.proofs.counts.passed_counts.Goals as goal

pub returns : goal.returns
returns c =
    let sources = c.args.sources.now in
    let best = c.args.best.now in
    let parts = each c21_module (modules sources) in
    let ports = in_declarations c21_ports sources in
    in_turn best c.many_ports.new.best c.many_occurrences.new.best (parts ++ ports)
    (passes OCCURRENCES (each of_module (modules sources))) c.many_occurrences.ensures
    (in_turn best c.many_parts.new.best c.many_ports.new.best parts ports c.many_ports.ensures c.many_parts.ensures)
