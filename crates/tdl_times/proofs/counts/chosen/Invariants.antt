-- The slots chosen so far, and those of the ranges that are left.
use Rattle.std.proofs.Common.{◌≡◌, ◌+◌, ◌≤◌, min, drop}
use Rattle.tdl_base.specs.declared.limits.TheConstants.{OCCURRENCES}
use Rattle.tdl_times.specs.Counts as counts
use Rattle.tdl_times.proofs.counts.chosen.Given as goal

abbrev pub invariant-loop-range : goal.invariant-loop-range
invariant-loop-range l =
    (min (counts.chosen l.ranges) (OCCURRENCES + 1)
    ≡ min (l.count + counts.chosen (drop l.range-index l.ranges)) (OCCURRENCES + 1))
    × (l.count ≤ OCCURRENCES + 1)
