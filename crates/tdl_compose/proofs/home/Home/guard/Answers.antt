-- A module's scope stands in the sources.
use Rattle.tdl_compose.proofs.Bounded.{scope_stands}
use Rattle.tdl_compose.proofs.home.Home.guard.Goals as goal

pub guard_of-requires : goal.guard_of-requires
guard_of-requires c = scope_stands c.self.inside.numbers.now c.self.inside.scope c.self.invariant
