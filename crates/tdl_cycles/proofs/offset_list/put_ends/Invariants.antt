use Rattle.std.proofs.Common.{◌≡◌, ◌++◌, map, drop}
use Rattle.tdl_cycles.proofs.offset_list.put_ends.Given as goal

abbrev pub invariant-loop-invocation : goal.invariant-loop-invocation
invariant-loop-invocation l =
    l.into ++ map (λ x. x.e) (drop l.invocation-index l.invocations) ≡ l.fn.into ++ map (λ x. x.e) l.invocations
