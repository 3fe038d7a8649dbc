-- One more activity.
use Rattle.tdl_tree.specs.declared.activities.Act.{Act}
use Rattle.tdl_rules.specs.ModeRules.{c15_activity, mode_lets}
use Rattle.tdl_rules.specs.Times.{time_us}
use Rattle.tdl_walk.proofs.Minimum.{each_more}
use Rattle.tdl_occurs.proofs.cuts.SwitchesOnMode.at.Goals as goal

pub loop-act-preserved : goal.loop-act-preserved
loop-act-preserved c =
    let period = time_us c.args.period.now in
    each_more (λ (act : Act). c15_activity c.args.scope.now period (mode_lets period c.args.acts.now) act act.what) c.args.best.now
    c.loop-act.best c.of_activity.new.best c.args.acts.now c.loop-act.act-index c.act-item.result c.loop-act-test.true c.act-item.is
    c.loop-act.invariant c.of_activity.ensures
