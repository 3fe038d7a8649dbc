use Rattle.std.proofs.Common.{refl}
use Rattle.std.specs.Int.{int_wrap}
use Rattle.tdl_base.proofs.NumberLaws.{divides_toward_zero}
use Rattle.tdl_base.proofs.laws.division.Goals as goal

pub returns-clause-toward_zero : goal.returns-clause-toward_zero
returns-clause-toward_zero c = divides_toward_zero

pub returns-clause-least : goal.returns-clause-least
unfolding int_wrap
returns-clause-least c = refl

pub returns-clause-rest_of_least : goal.returns-clause-rest_of_least
unfolding int_wrap
returns-clause-rest_of_least c = refl
