use Rattle.std.proofs.Common.{arith}
use Rattle.std.proofs.lemmas.Result.{err_from_is_err_and}
use Rattle.tdl_decode.specs.Reading.{ascending_items_in}
use Rattle.tdl_decode.proofs.Loops.{rises, stops, is_risen}
use Rattle.tdl_decode.proofs.lists.ascending_items.Goals as goal

pub returns-in_err-item : goal.returns-in_err-item
returns-in_err-item g c =
    let p = err_from_is_err_and c.from_residual.result c.from_residual.ensures.1 in
    rw (p.1, p.2)
    (stops g.T.Numbered.reading g.T.Numbered.number_of c.in_err-item.field-0.0 c.loop.list c.loop.least c.args.count
    c.loop.counter c.loop.rest.now
    (ascending_items_in g.T.Numbered.reading g.T.Numbered.number_of 0 c.args.count c.args.bytes.now) c.loop-test.true
    c.in_err-item.ensures c.loop.invariant)

pub loop-preserved : goal.loop-preserved
loop-preserved g c =
    rw (c.in_ok-push.ensures.ok)
    (rises g.T.Numbered.reading g.T.Numbered.number_of c.loop.list c.loop.least c.args.count c.loop.counter
    c.loop.rest.now c.in_ok-item.item c.in_ok-item.after.now _
    (ascending_items_in g.T.Numbered.reading g.T.Numbered.number_of 0 c.args.count c.args.bytes.now) c.loop-test.true
    c.in_ok-item.ensures (omega (arith, c.from-least.ensures, c.number.ensures)) c.loop.invariant)

pub returns : goal.returns
returns g c =
    is_risen g.T.Numbered.reading g.T.Numbered.number_of c.loop.list c.loop.least c.args.count c.loop.counter
    c.loop.rest.now (ascending_items_in g.T.Numbered.reading g.T.Numbered.number_of 0 c.args.count c.args.bytes.now)
    c.loop-test.false c.loop.invariant
