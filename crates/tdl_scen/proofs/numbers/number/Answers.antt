use Rattle.std.proofs.Common.{arith}
use Rattle.tdl_scen.proofs.NumberLemmas.{room}
use Rattle.tdl_scen.proofs.numbers.number.Goals as goal

pub overflow_mul-value : goal.overflow_mul-value
overflow_mul-value c = omega (arith, room _ _ _ c.loop-digit.invariant.2 c.loop-digit-test.true (omega arith))

pub overflow_add-value : goal.overflow_add-value
overflow_add-value c = omega (arith, room _ _ _ c.loop-digit.invariant.2 c.loop-digit-test.true (omega arith))
