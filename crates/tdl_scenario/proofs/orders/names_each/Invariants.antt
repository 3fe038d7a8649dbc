use Rattle.std.proofs.Common.{◌≡◌, ◌==◌, count_by, true}
use Rattle.tdl_base.specs.declared.numbers.NodeId.{NodeId}
use Rattle.tdl_scenario.specs.Rules.{all_below}
use Rattle.tdl_scenario.proofs.orders.names_each.Given as goal

abbrev pub invariant-loop-node : goal.invariant-loop-node
invariant-loop-node l = all_below (λ k. count_by (λ (n : NodeId). n.0 == k) l.order == 1) l.node ≡ true
