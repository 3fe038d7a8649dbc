-- An activity of the same actuator, of another, and of none.
use Rattle.std.proofs.Common.{◌∙◌, ℕ, List, refl, sym, ap}
use Rattle.tdl_tree.specs.declared.activities.ActKind.{ActKind}
use Rattle.tdl_tree.specs.declared.declarations.Tree.{Tree}
use Rattle.tdl_rules.specs.ModeRules.{Updated, same_update, updated}
use Rattle.tdl_rules.specs.Naming.{as_actuator, meant}
use Rattle.tdl_rules.specs.Times.{time_us, times}
use Rattle.tdl_slots.specs.Choices.{offsets_in}
use Rattle.tdl_occurs.specs.Invocations.{is_met, is_same, updates}
use Rattle.tdl_occurs.proofs.Pairs.{meets-none}
use Rattle.tdl_occurs.proofs.SameActuator.{same_actuator, other_actuator, updated-there, updated-lost}
use Rattle.tdl_occurs.proofs.updates.update_again.Goals as goal

pub returns-in_default : goal.returns-in_default
returns-in_default c =
    let scope = c.args.scope.now in
    let items = updates c.args.actuator c.args.name.now (offsets_in c.args.offsets.now) in
    let lost = c.in_default.ensures
    ∙ ap (λ (tree : Tree). as_actuator (meant tree c.in-Update.other.text)) c.module.ensures in
    sym (ap (λ (z : List Updated). is_met same_update z items)
    (updated-lost scope (time_us c.args.period.now) c.args.earlier.now c.in-Update.other c.in-Update.value
    c.in-Update.is (sym lost))
    ∙ meets-none same_update items)

pub returns-then-number-actuator : goal.returns-then-number-actuator
returns-then-number-actuator c =
    let scope = c.args.scope.now in
    let period = time_us c.args.period.now in
    let items = updates c.args.actuator c.args.name.now (offsets_in c.args.offsets.now) in
    let there = c.in-Some.ensures
    ∙ ap (λ (tree : Tree). as_actuator (meant tree c.in-Update.other.text)) c.module.ensures in
    other_actuator c.in-Some.number c.in-Some.number c.args.actuator c.in-Update.other c.args.name.now
    (times period c.args.earlier.now) (offsets_in c.args.offsets.now) refl c.if-number-actuator.true
    ∙ sym (ap (λ (z : List Updated). is_met same_update z items)
    (updated-there scope period c.args.earlier.now c.in-Update.other c.in-Update.value c.in-Some.number
    c.in-Some.field-0-1 c.in-Update.is (sym there)))

pub returns-else-number-actuator : goal.returns-else-number-actuator
returns-else-number-actuator c =
    let scope = c.args.scope.now in
    let period = time_us c.args.period.now in
    let items = updates c.args.actuator c.args.name.now (offsets_in c.args.offsets.now) in
    let there = c.in-Some.ensures
    ∙ ap (λ (tree : Tree). as_actuator (meant tree c.in-Update.other.text)) c.module.ensures in
    c.any_offset.ensures
    ∙ ap (λ (z : List ℕ). is_met is_same z (offsets_in c.args.offsets.now)) c.chosen_by.ensures.offsets
    ∙ same_actuator c.in-Some.number c.in-Some.number c.args.actuator c.in-Update.other c.args.name.now
    (times period c.args.earlier.now) (offsets_in c.args.offsets.now) refl c.if-number-actuator.false
    ∙ sym (ap (λ (z : List Updated). is_met same_update z items)
    (updated-there scope period c.args.earlier.now c.in-Update.other c.in-Update.value c.in-Some.number
    c.in-Some.field-0-1 c.in-Update.is (sym there)))

pub returns-in-Task : goal.returns-in-Task
returns-in-Task c =
    let items = updates c.args.actuator c.args.name.now (offsets_in c.args.offsets.now) in
    sym (ap (λ (what : ActKind). is_met same_update
    (updated c.args.scope.now (time_us c.args.period.now) c.args.earlier.now what) items) c.in-Task.is
    ∙ meets-none same_update items)

pub returns-in-Switch : goal.returns-in-Switch
returns-in-Switch c =
    let items = updates c.args.actuator c.args.name.now (offsets_in c.args.offsets.now) in
    sym (ap (λ (what : ActKind). is_met same_update
    (updated c.args.scope.now (time_us c.args.period.now) c.args.earlier.now what) items) c.in-Switch.is
    ∙ meets-none same_update items)
