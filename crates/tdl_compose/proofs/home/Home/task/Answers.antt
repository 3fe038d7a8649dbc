-- The task's declaration is numbered by the tables.
use Rattle.std.proofs.Common.{ap}
use Rattle.tdl_rules.specs.Naming.{TaskMeant}
use Rattle.tdl_compose.proofs.Numbering.{task_numbered}
use Rattle.tdl_compose.proofs.home.Home.task.Goals as goal

pub returns-in-Some : goal.returns-in-Some
returns-in-Some c =
    task_numbered c.self.inside.numbers.now c.self.inside.scope c.args.self.now c.self.invariant c.self.view_is
    c.file.result c.task.inside.number c.task-in-Some.result c.module.result.now c.args.id.now c.in-Some.task
    c.file.ensures c.module.ensures (ap (λ (t : TaskMeant). t.number) c.task.view_is) c.in-Some.ensures
    c.task-in-Some.ensures
