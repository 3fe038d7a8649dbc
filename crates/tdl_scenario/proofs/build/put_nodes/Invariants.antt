use Rattle.std.proofs.Common.{◌≡◌, ◌++◌, drop}
use Rattle.tdl_scenario.proofs.build.put_nodes.Given as goal

abbrev pub invariant-loop-node : goal.invariant-loop-node
invariant-loop-node l = l.order ++ drop l.node-index l.nodes ≡ l.initial.order ++ l.nodes
