use Rattle.std.proofs.Common.{arith}
use Rattle.tdl_place.specs.PlacementRules.{same_name}
use Rattle.tdl_place.proofs.Repeats.{one_more, all_over}
use Rattle.tdl_place.proofs.rules.note_twice_named.Goals as goal

pub loop-i-preserved : goal.loop-i-preserved
loop-i-preserved c =
    one_more same_name 5 c.args.nodes.now c.loop-i.i c.args.best.now c.loop-i.best c.note_if.new.best
    c.index-nodes-i.result c.is_named.result c.loop-i-test.true c.index-nodes-i.is c.is_named.ensures c.note_if.ensures
    c.loop-i.invariant

pub returns : goal.returns
returns c =
    all_over same_name 5 c.args.nodes.now c.loop-i.i c.args.best.now c.loop-i.best
    (omega (arith, c.loop-i-test.false)) c.loop-i.invariant
