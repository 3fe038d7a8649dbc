-- A module's scope stands in the sources.
use Rattle.tdl_compose.proofs.Bounded.{scope_stands}
use Rattle.tdl_compose.proofs.home.Home.expression.Goals as goal

pub expression_of-requires : goal.expression_of-requires
expression_of-requires c = scope_stands c.self.inside.numbers.now c.self.inside.scope c.self.invariant
