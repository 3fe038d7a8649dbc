-- One more activity.
use Rattle.std.proofs.Common.{◌∙◌}
use Rattle.tdl_tree.specs.declared.activities.Act.{Act}
use Rattle.tdl_rules.specs.ModeRules.{Updated, same_update, updated}
use Rattle.tdl_rules.specs.Naming.{spot_of}
use Rattle.tdl_rules.specs.Parts.{broken}
use Rattle.tdl_rules.specs.Times.{time_us}
use Rattle.tdl_occurs.proofs.Onward.{one_more}
use Rattle.tdl_occurs.proofs.updates.UpdatesOnMode.at.Goals as goal

pub loop-number-preserved : goal.loop-number-preserved
loop-number-preserved c =
    let scope = c.args.scope.now in
    one_more same_update (λ (u : Updated). broken 14 scope.file (spot_of u.name))
    (λ (act : Act). updated scope (time_us c.args.period.now) act act.what) c.args.acts.now c.loop-number.number c.index-acts-number.result
    c.loop-number.best c.of_activity.new.best c.loop-number-test.true c.index-acts-number.is c.of_activity.ensures
    ∙ c.loop-number.invariant
