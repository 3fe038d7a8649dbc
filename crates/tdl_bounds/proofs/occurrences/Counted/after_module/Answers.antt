-- One declaration more.
use Rattle.tdl_rules.specs.BoundRules as bounds
use Rattle.tdl_rules.specs.Lists.{each}
use Rattle.tdl_bounds.specs.Occurrences.{after}
use Rattle.tdl_bounds.proofs.Counting.{after_more}
use Rattle.tdl_bounds.proofs.occurrences.Counted.after_module.Goals as goal

pub loop-decl-preserved : goal.loop-decl-preserved
loop-decl-preserved c =
    let f = bounds.counted c.args.scope.now in
    let decls = c.as_slice-decls.result.now in
    after_more f (after c.args.self (each f decls)) c.loop-decl.counted c.after_declaration-counted.result decls
    c.loop-decl.decl-index c.decl-item.result c.loop-decl-test.true c.decl-item.is c.loop-decl.invariant
    c.after_declaration-counted.ensures
