use Rattle.std.proofs.Common.{◌≡◌, ◌++◌, drop}
use Rattle.tdl_place.specs.SaidPlaces.{places_of}
use Rattle.tdl_place.proofs.rules.places_of.Given as goal

abbrev pub invariant-loop-node : goal.invariant-loop-node
invariant-loop-node l = l.places.items ++ places_of (drop l.node-index l.nodes) ≡ places_of l.nodes
