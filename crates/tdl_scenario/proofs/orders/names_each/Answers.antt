use Rattle.std.proofs.Common.{rules}
use Rattle.tdl_scenario.proofs.OrderLemmas.{not_each}
use Rattle.tdl_scenario.proofs.orders.names_each.Goals as goal

pub returns-then-times_named-ne1 : goal.returns-then-times_named-ne1
returns-then-times_named-ne1 c =
    not_each c.args.nodes c.loop-node.node c.times_named.result c.args.order.now c.loop-node-test.true
    c.times_named.ensures (search rules)
