use Rattle.std.proofs.Common.{◌≡◌, length, take}
use Rattle.tdl_logic.specs.Standing.{filled}
use Rattle.tdl_logic.proofs.task_now.fill.Given as goal

-- the cells so far are those of a job that begins to work
abbrev pub invariant-loop-at : goal.invariant-loop-at
invariant-loop-at l = record {
  so_far : take l.at l.cells ≡ take l.at (filled l.inputs l.outputs (length l.fn.cells));
  count : length l.cells ≡ length l.fn.cells;
}
