use Rattle.tdl_mode.proofs.Bases.{alone-turns, alone-over, alone-divided}
use Rattle.tdl_mode.proofs.laws.cycles.Goals as goal

pub returns-clause-begins : goal.returns-clause-begins
returns-clause-begins c = alone-turns

pub returns-clause-over : goal.returns-clause-over
returns-clause-over c = alone-over

pub returns-clause-divided : goal.returns-clause-divided
returns-clause-divided c k x d sensed seen m cycles divides = alone-divided k x sensed seen m d cycles divides
