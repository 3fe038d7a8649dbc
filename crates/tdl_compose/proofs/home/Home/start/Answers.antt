-- The start mode's declaration is numbered by the tables.
use Rattle.std.proofs.Common.{ap, ◌∙◌}
use Rattle.tdl_tree.specs.declared.declarations.Tree.{Tree}
use Rattle.tdl_compose.proofs.Numbering.{start_numbered}
use Rattle.tdl_compose.proofs.home.Home.start.Goals as goal

pub returns-in-Some : goal.returns-in-Some
returns-in-Some c =
    start_numbered c.self.inside.numbers.now c.self.inside.scope c.args.self.now c.self.invariant c.self.view_is
    c.file.result c.in-Some.number c.mode.result c.as_slice.result.now
    c.file.ensures (c.as_slice.ensures ∙ ap (λ (t : Tree). t.decls) c.tree.ensures) c.in-Some.ensures c.mode.ensures
