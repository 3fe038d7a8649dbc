use Rattle.tdl_place.specs.PlacementRules.{same_name}
use Rattle.tdl_place.proofs.Repeats.{IsOver}
use Rattle.tdl_place.proofs.rules.note_twice_named.Given as goal

abbrev pub invariant-loop-i : goal.invariant-loop-i
invariant-loop-i l = IsOver same_name 5 l.nodes l.i l.initial.best l.best
