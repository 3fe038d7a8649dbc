use Rattle.std.proofs.Common.{◌≡◌, drop}
use Rattle.tdl_scen.specs.Scenario.{last_from, course_of}
use Rattle.tdl_scen.proofs.course.sensed_value.Given as goal

abbrev pub invariant-loop-entry : goal.invariant-loop-entry
invariant-loop-entry l =
    last_from l.value (drop l.entry-index l.senses) l.at.0 l.owner.0 l.sensor
    ≡ course_of l.senses l.at.0 l.owner.0 l.sensor
