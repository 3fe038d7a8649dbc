-- One declaration more.
use Rattle.std.proofs.Common.{ap, ◌++◌, ◌∙◌}
use Rattle.tdl_tree.specs.declared.declarations.Decl.{Decl}
use Rattle.tdl_rules.specs.Lists.{each}
use Rattle.tdl_program.specs.Programs.{modes_in}
use Rattle.tdl_slots.proofs.Listing.{item_at, each_more}
use Rattle.tdl_compose.proofs.modes.modes_of.Goals as goal

pub loop-number-preserved : goal.loop-number-preserved
loop-number-preserved c =
    let decls = c.args.home.now.tree.decls in
    each_more (modes_in c.args.home.now) c.loop-number.list c.put_mode.new.into (each (modes_in c.args.home.now) decls)
    decls c.loop-number.number c.in-Some.entry
    (item_at decls c.loop-number.number c.in-Some.entry c.in-Some.ensures.value)
    (c.in_ok-put_mode.ensures ∙ ap (λ (d : Decl). c.loop-number.list ++ modes_in c.args.home.now d) c.decl.ensures)
    c.loop-number.invariant
