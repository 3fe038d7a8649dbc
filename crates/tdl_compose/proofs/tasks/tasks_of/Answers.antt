-- One declaration more.
use Rattle.tdl_rules.specs.Lists.{each}
use Rattle.tdl_program.specs.Programs.{tasks_in}
use Rattle.tdl_slots.proofs.Listing.{item_at, each_more}
use Rattle.tdl_compose.proofs.tasks.tasks_of.Goals as goal

pub loop-number-preserved : goal.loop-number-preserved
loop-number-preserved c =
    let decls = c.args.home.now.tree.decls in
    each_more (tasks_in c.args.home.now) c.loop-number.list c.put_task.new.into (each (tasks_in c.args.home.now) decls)
    decls c.loop-number.number c.in-Some.entry
    (item_at decls c.loop-number.number c.in-Some.entry c.in-Some.ensures.value)
    c.in_ok-put_task.ensures c.loop-number.invariant
