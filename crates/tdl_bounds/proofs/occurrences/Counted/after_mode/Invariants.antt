-- The activities that are left, counted from here on, give what all give.
use Rattle.std.proofs.Common.{◌≡◌, map, drop}
use Rattle.tdl_rules.specs.Times.{time_us}
use Rattle.tdl_bounds.specs.Occurrences.{one_of, after}
use Rattle.tdl_bounds.proofs.occurrences.Counted.after_mode.Given as goal

abbrev pub invariant-loop-act : goal.invariant-loop-act
invariant-loop-act l =
    after l.fn.self (map (one_of l.scope (time_us l.period)) l.acts)
    ≡ after l.counted (map (one_of l.scope (time_us l.period)) (drop l.act-index l.acts))
