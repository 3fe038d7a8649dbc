use Rattle.tdl_quiet.proofs.NextCalls.{next_call}
use Rattle.tdl_quiet.proofs.NextEvents.{next_event-above, next_event-is}
use Rattle.tdl_quiet.proofs.laws.event_above.Goals as goal

pub returns-clause-calls : goal.returns-clause-calls
returns-clause-calls c m x s = next_call x m s

pub returns-clause-above : goal.returns-clause-above
returns-clause-above c = next_event-above

pub returns-clause-event : goal.returns-clause-event
returns-clause-event c = next_event-is
