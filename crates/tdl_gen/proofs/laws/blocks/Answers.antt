use Rattle.tdl_gen.proofs.BlockPlaces.{ends_found, updates_found, switches_found, starts_found}
use Rattle.tdl_gen.proofs.laws.blocks.Goals as goal

pub returns-clause-ends : goal.returns-clause-ends
returns-clause-ends c = ends_found

pub returns-clause-updates : goal.returns-clause-updates
returns-clause-updates c = updates_found

pub returns-clause-switches : goal.returns-clause-switches
returns-clause-switches c = switches_found

pub returns-clause-starts : goal.returns-clause-starts
returns-clause-starts c = starts_found
