use Rattle.std.proofs.Common.{◌≡◌}
use Rattle.tdl_rules.specs.Earliest.{earliest}
use Rattle.tdl_naming.proofs.LaterNames.{faults_from}
use Rattle.tdl_naming.proofs.spaces.note_space.Given as goal

abbrev pub invariant-loop-place : goal.invariant-loop-place
invariant-loop-place l =
    earliest l.best (faults_from l.scope.file l.names l.place)
    ≡ earliest l.initial.best (faults_from l.scope.file l.names 0)
