use Rattle.std.proofs.Common.{◌≡◌, ◌+◌, ◌≤◌, ◌++◌, length}
use Rattle.tdl_stack.specs.Spanning.{empties}
use Rattle.tdl_stack.proofs.table.empty_places.Given as goal

-- what is said, and what is left to say, are all
abbrev pub invariant-loop-left : goal.invariant-loop-left
invariant-loop-left l = record {
  same : l.empty.items ++ empties l.height l.left ≡ empties 0 l.code;
  room : l.height + length l.left ≤ length l.code;
}

abbrev pub decreases-loop-left : goal.decreases-loop-left
decreases-loop-left l = length l.left
