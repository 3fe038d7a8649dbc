use Rattle.tdl_gen.proofs.HostSteps.{ends_moves, updates_moves, switches_moves}
use Rattle.tdl_gen.proofs.laws.host_blocks.Goals as goal

pub returns-clause-ends : goal.returns-clause-ends
returns-clause-ends c x node k o sensed times h m mode s at above size ready =
    ends_moves x node sensed times h m k o mode at s above size ready

pub returns-clause-updates : goal.returns-clause-updates
returns-clause-updates c x node k o sensed times h m mode seen ns us s at apart same above size once =
    updates_moves x node sensed times h m k o mode at seen ns apart us s same above size once

pub returns-clause-switches : goal.returns-clause-switches
returns-clause-switches c x node k o sensed times h m mode seen ns us s at apart same above le enter guards target =
    switches_moves x node sensed times h m k o mode at seen ns apart us s same above le enter guards target
