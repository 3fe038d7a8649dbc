-- The mode's declaration is numbered by the tables.
use Rattle.tdl_compose.proofs.Numbering.{mode_numbered}
use Rattle.tdl_compose.proofs.home.Home.mode.Goals as goal

pub returns-in-Some : goal.returns-in-Some
returns-in-Some c =
    mode_numbered c.self.inside.numbers.now c.self.inside.scope c.args.self.now c.self.invariant c.self.view_is
    c.file.result c.in-Some.number c.mode.result c.module.result.now c.args.id.now
    c.file.ensures c.module.ensures c.in-Some.ensures c.mode.ensures
