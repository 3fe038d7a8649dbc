use Rattle.tdl_parse.proofs.Values.{capped_value-step}
use Rattle.tdl_parse.proofs.names.capped_value.Goals as goal

pub loop-c-preserved : goal.loop-c-preserved
loop-c-preserved c =
    capped_value-step c.args.digits.now c.loop-c.c-index c.loop-c.value _ _ _ c.loop-c-test.true c.loop-c.invariant
    c.saturating_mul.ensures c.digit_value.ensures c.saturating_add-value.ensures
