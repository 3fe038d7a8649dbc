-- What the ranges that are left give is what all give.
use Rattle.std.proofs.Common.{◌≡◌, drop}
use Rattle.tdl_rules.specs.Times as times
use Rattle.tdl_times.proofs.ranges.bad_range.Given as goal

abbrev pub invariant-loop-range : goal.invariant-loop-range
invariant-loop-range l =
    times.bad_range l.frequency 0 l.ranges ≡ times.bad_range l.frequency l.before (drop l.range-index l.ranges)
