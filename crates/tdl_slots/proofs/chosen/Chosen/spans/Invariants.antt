-- The listed ranges with those that are left are all.
use Rattle.std.proofs.Common.{◌≡◌, ◌++◌, map, drop}
use Rattle.tdl_slots.specs.Choices.{let_of, span_of, ranges_in, spans_in}
use Rattle.tdl_slots.proofs.chosen.Chosen.spans.Given as goal

abbrev pub invariant-loop-number : goal.invariant-loop-number
invariant-loop-number l =
    map let_of l.spans ++ map (span_of l.self.width) (drop l.number (ranges_in l.self)) ≡ spans_in l.self
