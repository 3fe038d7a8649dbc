-- The offsets of the ranges so far with those of the ranges that are left are all.
use Rattle.std.proofs.Common.{◌≡◌, ◌++◌, drop}
use Rattle.tdl_rules.specs.Lists.{each}
use Rattle.tdl_slots.specs.Choices.{ends_of, ranges_in, offsets_in}
use Rattle.tdl_slots.proofs.chosen.Chosen.offsets.Given as goal

abbrev pub invariant-loop-number : goal.invariant-loop-number
invariant-loop-number l =
    l.offsets ++ each (ends_of l.self.width) (drop l.number (ranges_in l.self)) ≡ offsets_in l.self
