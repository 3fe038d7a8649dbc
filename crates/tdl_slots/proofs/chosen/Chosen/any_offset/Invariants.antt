-- The ranges that are left have what all have.
use Rattle.std.proofs.Common.{◌≡◌, drop}
use Rattle.std.specs.List.{list_any}
use Rattle.tdl_rules.specs.Lists.{each}
use Rattle.tdl_slots.specs.Choices.{ends_of, ranges_in, offsets_in}
use Rattle.tdl_slots.proofs.chosen.Chosen.any_offset.Given as goal

abbrev pub invariant-loop-number : goal.invariant-loop-number
invariant-loop-number g l =
    list_any (g.R.OnOffset.passes l.rule) (offsets_in l.self)
    ≡ list_any (g.R.OnOffset.passes l.rule) (each (ends_of l.self.width) (drop l.number (ranges_in l.self)))
