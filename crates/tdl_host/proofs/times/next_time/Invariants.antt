use Rattle.std.proofs.Common.{◌≡◌, drop, slice_get}
use Rattle.tdl_scen.specs.Scenario.{times_of}
use Rattle.tdl_host.proofs.times.next_time.Given as goal

abbrev pub invariant-loop-entry : goal.invariant-loop-entry
invariant-loop-entry l =
    slice_get (times_of (drop l.entry-index l.times) l.owner.0 l.task.0) l.left
    ≡ slice_get (times_of l.times l.owner.0 l.task.0) l.released
