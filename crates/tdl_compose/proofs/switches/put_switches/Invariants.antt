-- The switches so far with those of the slots that are left are all.
use Rattle.std.proofs.Common.{◌≡◌, ◌++◌, map, drop}
use Rattle.tdl_program.specs.Activities.{switch_at}
use Rattle.tdl_compose.proofs.switches.put_switches.Given as goal

abbrev pub invariant-loop-offset : goal.invariant-loop-offset
invariant-loop-offset l =
    l.into ++ map (switch_at l.home l.number l.act l.target) (drop l.offset-index l.offset-items)
    ≡ l.fn.into ++ map (switch_at l.home l.number l.act l.target) l.offset-items
