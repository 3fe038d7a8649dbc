use Rattle.std.proofs.Common.{◌≡◌, ◌++◌, drop, map}
use Rattle.tdl_place.specs.SaidPlaces.{on_line}
use Rattle.tdl_place.proofs.rules.put_places.Given as goal

abbrev pub invariant-loop-module : goal.invariant-loop-module
invariant-loop-module l =
    l.places.items ++ map (on_line l.line) (drop l.module-index l.modules)
    ≡ l.initial.places.items ++ map (on_line l.line) l.modules
