-- The updates so far with those of the slots that are left are all.
use Rattle.std.proofs.Common.{◌≡◌, ◌++◌, map, drop}
use Rattle.tdl_program.specs.Activities.{update_at}
use Rattle.tdl_compose.proofs.updates.put_updates.Given as goal

abbrev pub invariant-loop-offset : goal.invariant-loop-offset
invariant-loop-offset l =
    l.into ++ map (update_at l.home l.number l.act l.actuator l.value) (drop l.offset-index l.offset-items)
    ≡ l.fn.into ++ map (update_at l.home l.number l.act l.actuator l.value) l.offset-items
