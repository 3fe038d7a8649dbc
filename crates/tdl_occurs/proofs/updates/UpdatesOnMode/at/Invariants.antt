-- The faults of the activities that are left, after the best so far, are those of all.
use Rattle.std.proofs.Common.{◌≡◌}
use Rattle.tdl_rules.specs.Earliest.{earliest}
use Rattle.tdl_rules.specs.ModeRules.{same_update, updated, c14_mode}
use Rattle.tdl_rules.specs.Naming.{spot_of}
use Rattle.tdl_rules.specs.Parts.{broken}
use Rattle.tdl_rules.specs.Times.{time_us}
use Rattle.tdl_occurs.proofs.Onward.{faults_from}
use Rattle.tdl_occurs.proofs.updates.UpdatesOnMode.at.Given as goal

abbrev pub invariant-loop-number : goal.invariant-loop-number
invariant-loop-number l =
    earliest l.best
    (faults_from same_update (λ u. broken 14 l.scope.file (spot_of u.name)) (λ act. updated l.scope (time_us l.period) act act.what) l.acts l.number)
    ≡ earliest l.initial.best (c14_mode l.scope (time_us l.period) l.acts)
