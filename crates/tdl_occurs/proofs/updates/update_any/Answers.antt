-- One more activity, and the end of them.
use Rattle.tdl_tree.specs.declared.activities.Act.{Act}
use Rattle.tdl_rules.specs.Lists.{each}
use Rattle.tdl_rules.specs.ModeRules.{same_update, updated}
use Rattle.tdl_rules.specs.Times.{time_us}
use Rattle.tdl_slots.specs.Choices.{offsets_in}
use Rattle.tdl_occurs.specs.Invocations.{is_met, updates}
use Rattle.tdl_occurs.proofs.Pairs.{met, not_met, none_met}
use Rattle.tdl_occurs.proofs.updates.update_any.Goals as goal

pub returns-then-update_again : goal.returns-then-update_again
returns-then-update_again c =
    let f = λ (act : Act). updated c.args.scope.now (time_us c.args.period.now) act act.what in
    let items = updates c.args.actuator c.args.name.now (offsets_in c.args.offsets.now) in
    met same_update f c.args.earlier.now c.loop-act.act-index c.act-item.result items (is_met same_update (each f c.args.earlier.now) items)
    c.loop-act-test.true c.act-item.is c.loop-act.invariant c.if-update_again.ensures

pub loop-act-preserved : goal.loop-act-preserved
loop-act-preserved c =
    let f = λ (act : Act). updated c.args.scope.now (time_us c.args.period.now) act act.what in
    let items = updates c.args.actuator c.args.name.now (offsets_in c.args.offsets.now) in
    not_met same_update f c.args.earlier.now c.loop-act.act-index c.act-item.result items (is_met same_update (each f c.args.earlier.now) items)
    c.loop-act-test.true c.act-item.is c.loop-act.invariant c.if-update_again.ensures

pub returns : goal.returns
returns c =
    let f = λ (act : Act). updated c.args.scope.now (time_us c.args.period.now) act act.what in
    let items = updates c.args.actuator c.args.name.now (offsets_in c.args.offsets.now) in
    none_met same_update f c.args.earlier.now c.loop-act.act-index items (is_met same_update (each f c.args.earlier.now) items)
    c.loop-act-test.false c.loop-act.invariant
