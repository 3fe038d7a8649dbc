-- One more activity, and the end of them.
use Rattle.tdl_tree.specs.declared.activities.Act.{Act}
use Rattle.tdl_rules.specs.Lists.{each}
use Rattle.tdl_rules.specs.ModeRules.{overlap, invoked}
use Rattle.tdl_rules.specs.Times.{time_us}
use Rattle.tdl_slots.specs.Choices.{spans_in}
use Rattle.tdl_occurs.specs.Invocations.{is_met, invocations}
use Rattle.tdl_occurs.proofs.Pairs.{met, not_met, none_met}
use Rattle.tdl_occurs.proofs.overlaps.overlap_any.Goals as goal

pub returns-then-overlap_one : goal.returns-then-overlap_one
returns-then-overlap_one c =
    let f = λ (act : Act). invoked c.args.scope.now (time_us c.args.period.now) act act.what in
    let items = invocations c.args.task c.args.name.now (spans_in c.args.spans.now) in
    met overlap f c.args.earlier.now c.loop-act.act-index c.act-item.result items (is_met overlap (each f c.args.earlier.now) items)
    c.loop-act-test.true c.act-item.is c.loop-act.invariant c.if-overlap_one.ensures

pub loop-act-preserved : goal.loop-act-preserved
loop-act-preserved c =
    let f = λ (act : Act). invoked c.args.scope.now (time_us c.args.period.now) act act.what in
    let items = invocations c.args.task c.args.name.now (spans_in c.args.spans.now) in
    not_met overlap f c.args.earlier.now c.loop-act.act-index c.act-item.result items (is_met overlap (each f c.args.earlier.now) items)
    c.loop-act-test.true c.act-item.is c.loop-act.invariant c.if-overlap_one.ensures

pub returns : goal.returns
returns c =
    let f = λ (act : Act). invoked c.args.scope.now (time_us c.args.period.now) act act.what in
    let items = invocations c.args.task c.args.name.now (spans_in c.args.spans.now) in
    none_met overlap f c.args.earlier.now c.loop-act.act-index items (is_met overlap (each f c.args.earlier.now) items)
    c.loop-act-test.false c.loop-act.invariant
