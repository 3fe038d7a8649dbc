-- What the slots that an activity chooses give: logical execution times and offsets.
use Rattle.std.specs.Prelude.{ℕ, suc, List, map, ◌*◌, ◌-◌}
use Rattle.tdl_rules.specs.Lists.{each}
use Rattle.tdl_rules.specs.Times.{Let, ranges, from}
use Rattle.tdl_slots.specs.declared.chosen.Chosen.{Chosen}
use Rattle.tdl_slots.specs.declared.lists.Span.{Span}

-- the logical execution time of the slots i to j, where slots have this width
abbrev pub span_of : ℕ → ℕ × ℕ → Let
span_of width range = record { s = (range.0 - 1) * width; e = range.1 * width }

-- the ends of the slots i to j
abbrev pub ends_of : ℕ → ℕ × ℕ → List ℕ
ends_of width range = map (λ i. i * width) (from range.0 (suc range.1 - range.0))

-- the chosen ranges, first slot and last
abbrev pub ranges_in : Chosen → List (ℕ × ℕ)
ranges_in chosen = ranges chosen.frequency chosen.slots.now

-- a logical execution time for each range
abbrev pub spans_in : Chosen → List Let
spans_in chosen = map (span_of chosen.width) (ranges_in chosen)

-- an offset for each slot
abbrev pub offsets_in : Chosen → List ℕ
offsets_in chosen = each (ends_of chosen.width) (ranges_in chosen)

-- the logical execution time that code names by its start and its end
abbrev pub let_of : Span → Let
let_of span = record { s = span.start; e = span.end }
