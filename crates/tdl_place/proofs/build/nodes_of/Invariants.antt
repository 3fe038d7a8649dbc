use Rattle.std.proofs.Common.{◌≡◌, ◌++◌}
use Rattle.std.specs.Vec.Iter.{into_iter_items}
use Rattle.tdl_place.specs.SaidPlaces.{without_lines}
use Rattle.tdl_place.proofs.build.nodes_of.Given as goal

abbrev pub invariant-loop-node : goal.invariant-loop-node
invariant-loop-node l =
    l.nodes ++ without_lines (into_iter_items l.node-iterator) ≡ without_lines l.fn.said.items
