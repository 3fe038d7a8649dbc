use Rattle.std.proofs.Common.{length, refl, sym, ◌∙◌, arith}
use Rattle.tdl_stack.proofs.Innermost.{outer-step}
use Rattle.tdl_stack.proofs.table.innermost.Goals as goal

pub loop-body-smaller : goal.loop-body-smaller
loop-body-smaller c =
    (outer-step c.args.code.now c.args.bodies.now _ c.loop-body.body c.requires refl c.loop-body.invariant.within
    c.loop-body.invariant.before (sym c.reaches.ensures ∙ c.loop-body-test.true)).0

pub loop-body-preserved : goal.loop-body-preserved
loop-body-preserved c =
    let step = outer-step c.args.code.now c.args.bodies.now (length c.args.bodies.now) c.loop-body.body c.requires refl
    c.loop-body.invariant.within c.loop-body.invariant.before (sym c.reaches.ensures ∙ c.loop-body-test.true) in
    record { within = omega (arith, step.0, c.loop-body.invariant.within); before = step.1 }
