use Rattle.std.proofs.Common.{◌≤◌}
use Rattle.tdl_stack.proofs.Innermost.{BeginBefore}
use Rattle.tdl_stack.proofs.table.innermost.Given as goal

-- each body around the place begins before the one that is looked at
abbrev pub invariant-loop-body : goal.invariant-loop-body
invariant-loop-body l = record {
  within : l.body ≤ l.place;
  before : BeginBefore l.code l.place l.body;
}

abbrev pub decreases-loop-body : goal.decreases-loop-body
decreases-loop-body l = l.body
