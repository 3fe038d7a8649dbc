-- The ranges that are left have what all have.
use Rattle.std.proofs.Common.{◌≡◌, map, drop}
use Rattle.std.specs.List.{list_any}
use Rattle.tdl_slots.specs.Choices.{span_of, ranges_in, spans_in}
use Rattle.tdl_slots.proofs.chosen.Chosen.any_span.Given as goal

abbrev pub invariant-loop-number : goal.invariant-loop-number
invariant-loop-number g l =
    list_any (g.R.OnSpan.passes l.rule) (spans_in l.self)
    ≡ list_any (g.R.OnSpan.passes l.rule) (map (span_of l.self.width) (drop l.number (ranges_in l.self)))
