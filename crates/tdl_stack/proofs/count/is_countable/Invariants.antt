use Rattle.std.proofs.Common.{◌≡◌, ◌↔◌, ◌+◌, length}
use Rattle.tdl_stack.specs.Counting.{Counts, no_count}
use Rattle.tdl_stack.proofs.count.is_countable.Given as goal

-- what is left can be counted where the whole can, and only there
abbrev pub invariant-loop-left : goal.invariant-loop-left
invariant-loop-left l = record {
  same : Counts l.counter l.left ↔ Counts no_count l.code;
  place : l.counter.place + length l.left ≡ length l.code;
}

abbrev pub decreases-loop-left : goal.decreases-loop-left
decreases-loop-left l = length l.left
