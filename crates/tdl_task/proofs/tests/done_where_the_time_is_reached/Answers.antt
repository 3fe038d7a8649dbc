use Rattle.std.proofs.Common.{◌≡◌, length, ap, ◌∙◌}
use Rattle.tdl_base.specs.declared.kinds.Kind.TheVariants.{Int}
use Rattle.tdl_task.specs.Jobs.{ReadyJob, TaskCells}
use Rattle.tdl_task.proofs.Sum.{lawful-over, two-cells}
use Rattle.tdl_task.proofs.tests.done_where_the_time_is_reached.Goals as goal

pub run-requires : goal.run-requires
run-requires g c =
    let task : c.release-ready.result.held.task ≡ c.in_ok-idle.idle =
    ap (λ (r : ReadyJob). r.held.task) c.release-ready.ensures in
    let two : length c.in_ok-idle.idle.kinds ≡ 2 =
    two-cells c.in_ok-idle.idle c.in_ok-only.field-0 c.in_ok-only-2.field-0 c.new.result Int Int c.in_ok-idle.ensures
    c.in_ok-only.ensures c.in_ok-only-2.ensures c.new.ensures in
    lawful-over c.from_vec.result c.release-ready.result.held.task
    (c.from_vec.ensures ∙ c.in_ok-from_slice.ensures.items) (ap (λ (t : TaskCells). length t.kinds) task ∙ two)

pub run-requires-in-Still : goal.run-requires-in-Still
run-requires-in-Still g c =
    let still : c.in-Still.ready.held.task ≡ c.release-ready.result.held.task =
    ap (λ (r : ReadyJob). r.held.task) c.in-Still.ensures.1 in
    let task : c.release-ready.result.held.task ≡ c.in_ok-idle.idle =
    ap (λ (r : ReadyJob). r.held.task) c.release-ready.ensures in
    let two : length c.in_ok-idle.idle.kinds ≡ 2 =
    two-cells c.in_ok-idle.idle c.in_ok-only.field-0 c.in_ok-only-2.field-0 c.new.result Int Int c.in_ok-idle.ensures
    c.in_ok-only.ensures c.in_ok-only-2.ensures c.new.ensures in
    lawful-over c.from_vec.result c.in-Still.ready.held.task
    (c.from_vec.ensures ∙ c.in_ok-from_slice.ensures.items)
    (ap (λ (t : TaskCells). length t.kinds) (still ∙ task) ∙ two)
