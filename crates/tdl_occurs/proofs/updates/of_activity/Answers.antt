-- An activity whose actuator is there.
use Rattle.std.proofs.Common.{◌∙◌, Bool, [], ◌∷◌, sym, ap, ap₂}
use Rattle.tdl_tree.specs.declared.activities.Act.{Act}
use Rattle.tdl_tree.specs.declared.declarations.Tree.{Tree}
use Rattle.tdl_rules.specs.declared.fault.Fault.{Fault}
use Rattle.tdl_rules.specs.Earliest.{earliest}
use Rattle.tdl_rules.specs.Lists.{each}
use Rattle.tdl_rules.specs.ModeRules.{same_update, updated}
use Rattle.tdl_rules.specs.Naming.{as_actuator, meant, spot_of}
use Rattle.tdl_rules.specs.Parts.{broken, fault_if}
use Rattle.tdl_rules.specs.Times.{time_us}
use Rattle.tdl_slots.specs.Choices.{offsets_in}
use Rattle.tdl_occurs.specs.Invocations.{is_met, updates}
use Rattle.tdl_occurs.proofs.Repeated.{idle_at, alone}
use Rattle.tdl_occurs.proofs.SameActuator.{activity_fault}
use Rattle.tdl_occurs.proofs.updates.of_activity.Goals as goal

pub returns-then-is_past : goal.returns-then-is_past
returns-then-is_past c =
    let scope = c.args.scope.now in
    let period = time_us c.args.period.now in
    let before = each (λ (a : Act). updated scope period a a.what) c.args.earlier.now in
    let there = c.in-Some.ensures
    ∙ ap (λ (tree : Tree). as_actuator (meant tree c.in-Update.actuator.text)) c.module.ensures in
    let fault = c.broken-fault.ensures ∙ ap (broken 14 scope.file) c.spot_of.ensures in
    idle_at c.args.best.now c.broken-fault.result (broken 14 scope.file (spot_of c.in-Update.actuator))
    (is_met same_update before (updates c.in-Some.number c.in-Update.actuator (offsets_in c.chosen_by-offsets.result)))
    fault
    (c.is_past.ensures.idle c.if-is_past.true (c.broken-fault.result ∷ []) (alone c.broken-fault.result))
    ∙ sym (activity_fault scope period before c.args.act.now c.in-Update.actuator c.in-Update.value c.in-Some.number
    c.in-Some.field-0-1 c.chosen_by-offsets.result c.args.best.now c.in-Update.is (sym there)
    c.chosen_by-offsets.ensures.offsets)

pub returns-else-is_past : goal.returns-else-is_past
returns-else-is_past c =
    let scope = c.args.scope.now in
    let period = time_us c.args.period.now in
    let before = each (λ (a : Act). updated scope period a a.what) c.args.earlier.now in
    let there = c.in-Some.ensures
    ∙ ap (λ (tree : Tree). as_actuator (meant tree c.in-Update.actuator.text)) c.module.ensures in
    let fault = c.broken-fault.ensures ∙ ap (broken 14 scope.file) c.spot_of.ensures in
    c.note_if.ensures
    ∙ ap₂ (λ (b : Bool) (f : Fault). earliest c.args.best.now (fault_if b f)) c.update_any-again.ensures fault
    ∙ sym (activity_fault scope period before c.args.act.now c.in-Update.actuator c.in-Update.value c.in-Some.number
    c.in-Some.field-0-1 c.chosen_by-offsets.result c.args.best.now c.in-Update.is (sym there)
    c.chosen_by-offsets.ensures.offsets)
