use Rattle.tdl_window.proofs.Commons.{gcd-is, grain-is}
use Rattle.tdl_window.proofs.laws.divisors.Goals as goal

pub returns-clause-common : goal.returns-clause-common
returns-clause-common c = gcd-is

pub returns-clause-grains : goal.returns-clause-grains
returns-clause-grains c = grain-is
