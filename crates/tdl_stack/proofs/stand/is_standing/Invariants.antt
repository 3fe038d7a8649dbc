use Rattle.std.proofs.Common.{◌↔◌, ◌≤◌, length}
use Rattle.tdl_stack.specs.declared.limits.TheConstants.{STACK_NUMBERS}
use Rattle.tdl_stack.specs.Lawful.{shape_of}
use Rattle.tdl_stack.specs.Spanning.{Stand}
use Rattle.tdl_stack.proofs.stand.is_standing.Given as goal

-- what is left stands where the whole does, and only there
abbrev pub invariant-loop-left : goal.invariant-loop-left
invariant-loop-left l = record {
  same : Stand (shape_of l.shape) l.height l.left ↔ Stand (shape_of l.shape) 0 l.code;
  room : l.height ≤ STACK_NUMBERS;
}

abbrev pub decreases-loop-left : goal.decreases-loop-left
decreases-loop-left l = length l.left
