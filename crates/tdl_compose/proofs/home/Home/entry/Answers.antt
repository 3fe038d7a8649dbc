-- A declaration of sources that break no rule keeps its bounds.
use Rattle.tdl_compose.proofs.Numbering.{entry_bounded}
use Rattle.tdl_compose.proofs.home.Home.entry.Goals as goal

pub returns-clause-bounds : goal.returns-clause-bounds
returns-clause-bounds c =
    entry_bounded c.self.inside.numbers.now c.self.inside.scope c.args.self.now c.self.invariant c.self.view_is
    c.args.number c.module.result.now c.entry.result c.module.ensures c.entry.ensures
