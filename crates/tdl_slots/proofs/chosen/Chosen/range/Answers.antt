-- A range by its number.
use Rattle.std.proofs.Common.{◌∙◌, ℕ, sym, ap, arith, refl, Some, option_map, length}
use Rattle.std.proofs.lemmas.Bool.{ltb-true, ltb-false}
use Rattle.std.proofs.lemmas.Option.{slice_get_read, slice_get_past}
use Rattle.tdl_tree.specs.declared.activities.Slots.{Slots}
use Rattle.tdl_rules.specs.Times.{last_of}
use Rattle.tdl_slots.proofs.Lawful.{slot_there, slot_past, range_there, lawful_at}
use Rattle.tdl_slots.proofs.chosen.Chosen.range.Goals as goal

pub returns-then-number-self-clause-value : goal.returns-then-number-self-clause-value
returns-then-number-self-clause-value c =
    slot_there c.args.self.now.frequency c.args.self.now.slots.now c.args.number c.if-self-eq0.true c.if-number-self.true

pub returns-else-number-self-clause-value : goal.returns-else-number-self-clause-value
returns-else-number-self-clause-value c =
    slot_past c.args.self.now.frequency c.args.self.now.slots.now c.args.number c.if-self-eq0.true c.if-number-self.false

pub returns-in-None-clause-value : goal.returns-in-None-clause-value
returns-in-None-clause-value c =
    let slots = c.args.self.now.slots.now in
    let past = ltb-false c.args.number (length slots) (sym c.in-None.ensures.lookup.0) in
    sym (range_there c.args.self.now.frequency slots c.args.number c.if-self-eq0.false
    ∙ ap (option_map (λ (r : Slots). (r.first.value, last_of r))) (slice_get_past slots c.args.number past))

pub returns-in-Some-clause-value : goal.returns-in-Some-clause-value
returns-in-Some-clause-value c =
    let slots = c.args.self.now.slots.now in
    let inside = ltb-true c.args.number (length slots) (sym c.in-Some.ensures.lookup.0) in
    let here = slice_get_read slots (length slots) c.args.number c.in-Some.range.now refl inside c.in-Some.ensures.lookup.1 in
    ap (λ (z : ℕ). Some (c.in-Some.range.now.first.value, z)) c.last_of.ensures
    ∙ sym (range_there c.args.self.now.frequency slots c.args.number c.if-self-eq0.false
    ∙ ap (option_map (λ (r : Slots). (r.first.value, last_of r))) here)

pub returns-in-Some-clause-within : goal.returns-in-Some-clause-within
returns-in-Some-clause-within c =
    let slots = c.args.self.now.slots.now in
    let inside = ltb-true c.args.number (length slots) (sym c.in-Some.ensures.lookup.0) in
    let here = slice_get_read slots (length slots) c.args.number c.in-Some.range.now refl inside c.in-Some.ensures.lookup.1 in
    let law = lawful_at c.args.self.now.frequency 0 slots c.args.number c.in-Some.range.now c.args.self.now.lawful (sym here) in
    (omega (arith, law.above), omega (arith, law.order, c.last_of.ensures), omega (arith, law.below, c.last_of.ensures))
