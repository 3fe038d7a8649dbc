use Rattle.tdl_rules.specs.Times.{time_us}
use Rattle.tdl_walk.proofs.Minimum.{each_more}
use Rattle.tdl_walk.proofs.activities.AtActivitiesOnMode.at.Goals as goal

pub loop-act-preserved : goal.loop-act-preserved
loop-act-preserved g c =
    each_more (g.R.OnActivity.gives c.args.self.now.rule.now c.args.scope.now (time_us c.args.period.now)) c.args.best.now
    c.loop-act.best c.at.new.best c.args.acts.now c.loop-act.act-index c.act-item.result c.loop-act-test.true c.act-item.is
    c.loop-act.invariant c.at.ensures
