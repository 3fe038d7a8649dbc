use Rattle.tdl_gen.proofs.Budget.{enough}
use Rattle.tdl_gen.proofs.TakeCounts.{takes_fit}
use Rattle.tdl_gen.proofs.PartCounts.{declared-parts}
use Rattle.tdl_gen.proofs.laws.counts.Goals as goal

pub returns-clause-blocks : goal.returns-clause-blocks
returns-clause-blocks c = enough

pub returns-clause-takes : goal.returns-clause-takes
returns-clause-takes c = takes_fit

pub returns-clause-sums : goal.returns-clause-sums
returns-clause-sums c = declared-parts
