use Rattle.std.proofs.Common.{refl, arith}
use Rattle.tdl_stack.proofs.Landing.{land-more}
use Rattle.tdl_stack.proofs.lands.all_land.Goals as goal

pub returns-then-not-lands_at : goal.returns-then-not-lands_at
returns-then-not-lands_at c = (
  λ t. absurd (cc t),
  λ land. absurd (cc (c.if-not-lands_at.true, c.lands_at.ensures.1 (land c.loop-place.place c.loop-place-test.true))),
)

pub loop-place-preserved : goal.loop-place-preserved
loop-place-preserved c =
    land-more c.args.code.now c.loop-place.place c.loop-place.invariant (c.lands_at.ensures.0 c.if-not-lands_at.false)

pub returns : goal.returns
returns c = (
  λ t place within. c.loop-place.invariant place (omega (arith, c.loop-place-test.false, within)),
  λ land. refl,
)
