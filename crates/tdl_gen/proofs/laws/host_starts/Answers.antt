use Rattle.tdl_gen.proofs.HostSteps.{starts_moves, entry_moves, rest_moves}
use Rattle.tdl_verify.specs.Sweeps.{Any, Sees}
use Rattle.tdl_gen.proofs.laws.host_starts.Goals as goal

pub returns-clause-starts : goal.returns-clause-starts
returns-clause-starts c x node k o sensed times h m mode seen ns us s tables at apart same below free =
    starts_moves x node sensed times h m k o mode at seen ns apart us s same tables below free

pub returns-clause-entry : goal.returns-clause-entry
returns-clause-entry c x node sensed times h m seen ns s blocks enter =
    entry_moves x node sensed times h m blocks seen ns s enter

pub returns-clause-rests : goal.returns-clause-rests
returns-clause-rests c x node phase sensed times seen ns p quiet =
    (rest_moves x node phase sensed times Any p quiet, rest_moves x node phase sensed times (Sees seen ns) p quiet)
