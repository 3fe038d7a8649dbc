use Rattle.std.proofs.Common.{◌≡◌, ◌+◌, ◌++◌, length, take}
use Rattle.tdl_task.proofs.held.add.Given as goal

abbrev pub invariant-loop-kind : goal.invariant-loop-kind
invariant-loop-kind l = record {
  kinds : l.kinds ≡ l.fn.kinds ++ take l.kind-index l.more;
  count : length l.values ≡ length l.fn.values + l.kind-index;
}
