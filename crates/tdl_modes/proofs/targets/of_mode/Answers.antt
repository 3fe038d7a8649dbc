-- One more activity.
use Rattle.tdl_tree.specs.declared.activities.Act.{Act}
use Rattle.tdl_rules.specs.ModeRules.{c16_activity}
use Rattle.tdl_walk.proofs.Minimum.{each_more}
use Rattle.tdl_modes.proofs.targets.of_mode.Goals as goal

pub loop-act-preserved : goal.loop-act-preserved
loop-act-preserved c =
    each_more (λ (act : Act). c16_activity c.args.scope.now c.args.mode act.what) c.args.best.now c.loop-act.best
    c.own_target.new.best c.args.acts.now c.loop-act.act-index c.act-item.result c.loop-act-test.true c.act-item.is
    c.loop-act.invariant c.own_target.ensures
