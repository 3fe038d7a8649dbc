use Rattle.std.proofs.Common.{◌≡◌, length, take}
use Rattle.tdl_task.specs.Jobs.{released_values}
use Rattle.tdl_task.proofs.held.put_released.Given as goal

-- the numbers so far are those of a release
abbrev pub invariant-loop-i : goal.invariant-loop-i
invariant-loop-i l = record {
  so_far : take l.i l.values ≡ take l.i (released_values l.kinds l.inputs l.outputs);
  count : length l.values ≡ length l.kinds;
}
