use Rattle.tdl_kept.proofs.Bodies.{keeps_bodies}
use Rattle.tdl_kept.proofs.laws.bodies.Goals as goal

pub returns : goal.returns
returns c = keeps_bodies
