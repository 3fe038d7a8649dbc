use Rattle.std.proofs.Common.{refl}
use Rattle.std.specs.Int.{int_wrap}
use Rattle.tdl_stack.proofs.laws.examples.Goals as goal

pub returns-clause-wraps : goal.returns-clause-wraps
unfolding int_wrap
returns-clause-wraps c = refl
