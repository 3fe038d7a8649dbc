-- A module's scope stands in the sources.
use Rattle.tdl_compose.proofs.Bounded.{scope_stands}
use Rattle.tdl_compose.proofs.home.Home.body.Goals as goal

pub body_of-requires-clause-stands : goal.body_of-requires-clause-stands
body_of-requires-clause-stands c = scope_stands c.self.inside.numbers.now c.self.inside.scope c.self.invariant
