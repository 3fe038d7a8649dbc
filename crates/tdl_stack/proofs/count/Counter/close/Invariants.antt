use Rattle.std.proofs.Common.{◌≡◌, length}
use Rattle.tdl_stack.specs.Counting.{after_bodies, closed}
use Rattle.tdl_stack.proofs.count.Counter.close.Given as goal

-- what is left to close comes to the same
abbrev pub invariant-loop-body : goal.invariant-loop-body
invariant-loop-body l = record {
  same :
      closed l.self-inside.place l.self-inside.turns l.self-inside.cost l.self-inside.bodies ≡ after_bodies l.fn.self;
  place : l.self-inside.place ≡ l.fn.self.place;
}

abbrev pub decreases-loop-body : goal.decreases-loop-body
decreases-loop-body l = length l.self-inside.bodies
