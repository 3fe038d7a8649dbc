use Rattle.std.proofs.Common.{◌≡◌}
use Rattle.tdl_lines.specs.Faults.{earliest}
use Rattle.tdl_place.specs.PlacementRules.{beyond}
use Rattle.tdl_place.proofs.rules.note_beyond.Given as goal

abbrev pub invariant-loop-place : goal.invariant-loop-place
invariant-loop-place g l =
    earliest l.initial.best (beyond l.most l.rule l.said) ≡ earliest l.best (beyond l.place l.rule l.said)
