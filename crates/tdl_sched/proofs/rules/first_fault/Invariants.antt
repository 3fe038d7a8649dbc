use Rattle.std.proofs.Common.{◌≡◌, ◌≤◌, drop, None}
use Rattle.tdl_lines.specs.Faults.{earliest}
use Rattle.tdl_sched.specs.ScheduleRules.{faults_after, faults_of}
use Rattle.tdl_sched.proofs.rules.first_fault.Given as goal

abbrev pub invariant-loop-said : goal.invariant-loop-said
invariant-loop-said l =
    (earliest None (faults_of l.lines) ≡ earliest l.best (faults_after l.before (drop l.said-index l.lines)))
    × (l.before ≤ l.said-index)
