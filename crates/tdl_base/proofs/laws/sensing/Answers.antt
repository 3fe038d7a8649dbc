use Rattle.tdl_base.proofs.SensedLemmas.{sensed_at-all_zero, length-all_zero, sensed_at-with_sensed, sensed_at-with_sensed_other, length-with_sensed}
use Rattle.tdl_base.proofs.laws.sensing.Goals as goal

pub returns-clause-at_first : goal.returns-clause-at_first
returns-clause-at_first c = sensed_at-all_zero

pub returns-clause-counts : goal.returns-clause-counts
returns-clause-counts c = length-all_zero

pub returns-clause-set : goal.returns-clause-set
returns-clause-set c = sensed_at-with_sensed

pub returns-clause-others : goal.returns-clause-others
returns-clause-others c = sensed_at-with_sensed_other

pub returns-clause-same_counts : goal.returns-clause-same_counts
returns-clause-same_counts c = length-with_sensed
