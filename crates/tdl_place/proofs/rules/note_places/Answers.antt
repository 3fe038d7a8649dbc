use Rattle.std.proofs.Common.{arith, rules}
use Rattle.tdl_place.specs.PlacementRules.{same_module}
use Rattle.tdl_place.proofs.Repeats.{one_more, all_over}
use Rattle.tdl_place.proofs.rules.note_places.Goals as goal

pub loop-i-preserved : goal.loop-i-preserved
loop-i-preserved c =
    one_more same_module 3 c.args.places.now c.loop-i.i c.args.best.now c.loop-i.best c.note_if.new.best
    _ c.is_placed.result c.loop-i-test.true (search rules) c.is_placed.ensures c.note_if.ensures
    c.loop-i.invariant

pub returns : goal.returns
returns c =
    all_over same_module 3 c.args.places.now c.loop-i.i c.args.best.now c.loop-i.best
    (omega (arith, c.loop-i-test.false)) c.loop-i.invariant
