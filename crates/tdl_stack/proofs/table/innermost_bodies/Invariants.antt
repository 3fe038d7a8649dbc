use Rattle.std.proofs.Common.{◌≤◌, ◌+◌, ◌-◌, length}
use Rattle.tdl_stack.specs.Spanning.{AreInnermost}
use Rattle.tdl_stack.proofs.table.innermost_bodies.Given as goal

-- the list is right as far as it goes
abbrev pub invariant-loop-bodies : goal.invariant-loop-bodies
invariant-loop-bodies l = record {
  each : AreInnermost l.code l.bodies.items;
  count : length l.bodies.items ≤ length l.code + 1;
}

abbrev pub decreases-loop-bodies : goal.decreases-loop-bodies
decreases-loop-bodies l = length l.code + 1 - length l.bodies.items
