use Rattle.std.proofs.Common.{length, ◌-◌}
use Rattle.tdl_scen.specs.Senses.{IsUpTo}
use Rattle.tdl_scen.proofs.senses.pass.Given as goal

abbrev pub invariant-loop-next : goal.invariant-loop-next
invariant-loop-next l = IsUpTo l.entries l.at (record { next = l.next; latest = l.latest.items })

abbrev pub decreases-loop-next : goal.decreases-loop-next
decreases-loop-next l = length l.entries - l.next
