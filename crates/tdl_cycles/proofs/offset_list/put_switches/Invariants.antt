use Rattle.std.proofs.Common.{◌≡◌, ◌++◌, map, drop}
use Rattle.tdl_cycles.proofs.offset_list.put_switches.Given as goal

abbrev pub invariant-loop-switch : goal.invariant-loop-switch
invariant-loop-switch l =
    l.into ++ map (λ x. x.at) (drop l.switch-index l.switches) ≡ l.fn.into ++ map (λ x. x.at) l.switches
