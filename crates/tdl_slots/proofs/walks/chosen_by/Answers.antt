-- The slots of an activity that occurs.
use Rattle.std.proofs.Common.{List, sym, ap, ◌∙◌, map, ◌/◌}
use Rattle.tdl_tree.specs.declared.activities.Slots.{Slots}
use Rattle.tdl_rules.specs.Lists.{each}
use Rattle.tdl_rules.specs.Times as times
use Rattle.tdl_slots.specs.Choices.{span_of, ends_of}
use Rattle.tdl_slots.proofs.Lawful.{spans_of, offsets_of}
use Rattle.tdl_slots.proofs.walks.chosen_by.Goals as goal

pub returns-clause-spans : goal.returns-clause-spans
returns-clause-spans c =
    let frequency = c.args.act.now.freq.value in
    ap (λ (z : List Slots). map (span_of (c.capped_us.result / frequency)) (times.ranges frequency z)) c.as_slice.ensures
    ∙ spans_of (times.time_us c.args.period.now) c.capped_us.result c.args.act.now (sym c.if-not-occurs.ensures) c.capped_us.ensures.same

pub returns-clause-offsets : goal.returns-clause-offsets
returns-clause-offsets c =
    let frequency = c.args.act.now.freq.value in
    ap (λ (z : List Slots). each (ends_of (c.capped_us.result / frequency)) (times.ranges frequency z)) c.as_slice.ensures
    ∙ offsets_of (times.time_us c.args.period.now) c.capped_us.result c.args.act.now (sym c.if-not-occurs.ensures) c.capped_us.ensures.same
