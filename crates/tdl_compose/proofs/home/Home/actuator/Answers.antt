-- The actuator's declaration is numbered by the tables.
use Rattle.tdl_compose.proofs.Numbering.{actuator_numbered}
use Rattle.tdl_compose.proofs.home.Home.actuator.Goals as goal

pub returns-in-Some : goal.returns-in-Some
returns-in-Some c =
    actuator_numbered c.self.inside.numbers.now c.self.inside.scope c.args.self.now c.self.invariant c.self.view_is
    c.file.result c.in-Some.number c.actuator.result c.module.result.now c.args.id.now c.in-Some._kind
    c.file.ensures c.module.ensures c.in-Some.ensures c.actuator.ensures
