use Rattle.tdl_stack.specs.Lawful.{shape_of}
use Rattle.tdl_stack.proofs.Standing.{stand-within}
use Rattle.tdl_stack.proofs.Lawfulness.{tested-lawful, lawful-stand, lawful-land, lawful-counts}
use Rattle.tdl_stack.proofs.check.check_code.Goals as goal
use Rattle.tdl_stack.proofs.check.check_code.Goals.{then-not-is_standing-via-then-not-is_standing, then-not-is_standing-via-else-not-is_standing+then-not-is_countable}

pub returns-then-not-is_standing : goal.returns-then-not-is_standing
returns-then-not-is_standing c = (
  λ t. absurd (cc t),
  λ lawful. elim c.then-not-is_standing.branch [
    | then-not-is_standing-via-then-not-is_standing w ↦ absurd (cc (
      w.if-not-is_standing.true,
      c.is_standing.ensures.1 (lawful-stand c.args.code.now (shape_of c.args.shape.now) lawful),
    ))
    | then-not-is_standing-via-else-not-is_standing+then-not-is_countable w ↦ absurd (cc (
      w.if-not-is_countable.true,
      w.is_countable.ensures.1 (lawful-counts c.args.code.now (shape_of c.args.shape.now) lawful),
    ))
  ],
)

pub all_land-requires-clause-within : goal.all_land-requires-clause-within
all_land-requires-clause-within c =
    stand-within (shape_of c.args.shape.now) c.args.code.now (c.is_standing.ensures.0 c.if-not-is_standing.false)

pub returns : goal.returns
returns c = (
  λ t. tested-lawful c.args.code.now (shape_of c.args.shape.now) c.in_ok-bodies.bodies.items
      c.in_ok-bodies.ensures.count c.in_ok-bodies.ensures.each (c.is_standing.ensures.0 c.if-not-is_standing.false)
      (c.all_land.ensures.0 t) (c.is_countable.ensures.0 c.if-not-is_countable.false),
  λ lawful. c.all_land.ensures.1 (lawful-land c.args.code.now (shape_of c.args.shape.now) lawful),
)
