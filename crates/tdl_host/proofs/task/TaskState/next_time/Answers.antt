use Rattle.std.proofs.Common.{◌<◌, subst, sym}
use Rattle.tdl_host.proofs.TimeLemmas.{time-lasts}
use Rattle.tdl_host.proofs.task.TaskState.next_time.Goals as goal

pub returns-clause-lasts : goal.returns-clause-lasts
returns-clause-lasts c =
    subst (λ time. 0 < time) (sym c.next_time.ensures)
    (time-lasts c.args.times.now c.from-worst.result c.args.module.0 c.args.task.0 c.self.inside.released
    c.requires (subst (λ worst. 0 < worst) (sym c.from-worst.ensures) c.self.invariant.checked.takes_time))
