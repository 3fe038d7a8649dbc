-- The faults of the activities that are left, after the best so far, are those of all.
use Rattle.std.proofs.Common.{◌≡◌}
use Rattle.tdl_rules.specs.Earliest.{earliest}
use Rattle.tdl_rules.specs.ModeRules.{overlap, invoked, c13_mode}
use Rattle.tdl_rules.specs.Naming.{spot_of}
use Rattle.tdl_rules.specs.Parts.{broken}
use Rattle.tdl_rules.specs.Times.{time_us}
use Rattle.tdl_occurs.proofs.Onward.{faults_from}
use Rattle.tdl_occurs.proofs.overlaps.InvocationsOnMode.at.Given as goal

abbrev pub invariant-loop-number : goal.invariant-loop-number
invariant-loop-number l =
    earliest l.best
    (faults_from overlap (λ i. broken 13 l.scope.file (spot_of i.name)) (λ act. invoked l.scope (time_us l.period) act act.what) l.acts l.number)
    ≡ earliest l.initial.best (c13_mode l.scope (time_us l.period) l.acts)
