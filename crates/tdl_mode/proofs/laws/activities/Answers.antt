use Rattle.tdl_mode.proofs.Activities.{job_ends-at, update_value-from, switch_target-from, phase_four-released}
use Rattle.tdl_mode.proofs.laws.activities.Goals as goal

pub returns-clause-ends : goal.returns-clause-ends
returns-clause-ends c = job_ends-at

pub returns-clause-updates : goal.returns-clause-updates
returns-clause-updates c x a m look v is = update_value-from x m look a v is

pub returns-clause-switches : goal.returns-clause-switches
returns-clause-switches c x k m look is = switch_target-from x m look k is

pub returns-clause-releases : goal.returns-clause-releases
returns-clause-releases c x t m look before after at found = phase_four-released x m look t before after at found
