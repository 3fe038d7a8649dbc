use Rattle.std.proofs.Common.{◌≡◌, ◌++◌, map, drop}
use Rattle.tdl_cycles.proofs.offset_list.put_updates.Given as goal

abbrev pub invariant-loop-update : goal.invariant-loop-update
invariant-loop-update l =
    l.into ++ map (λ x. x.at) (drop l.update-index l.updates) ≡ l.fn.into ++ map (λ x. x.at) l.updates
