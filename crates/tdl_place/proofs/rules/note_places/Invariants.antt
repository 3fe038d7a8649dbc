use Rattle.tdl_place.specs.PlacementRules.{same_module}
use Rattle.tdl_place.proofs.Repeats.{IsOver}
use Rattle.tdl_place.proofs.rules.note_places.Given as goal

abbrev pub invariant-loop-i : goal.invariant-loop-i
invariant-loop-i l = IsOver same_module 3 l.places l.i l.initial.best l.best
