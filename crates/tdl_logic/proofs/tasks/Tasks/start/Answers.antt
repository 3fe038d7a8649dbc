use Rattle.std.proofs.Common.{rules, ◌≡◌, ◌<◌, List, length, set, slice_get, Some, ap, sym, ◌∙◌, arith}
use Rattle.tdl_base.specs.Lists.{changed_at}
use Rattle.tdl_mode.specs.States.{TaskState}
use Rattle.tdl_logic.specs.Standing.{with_job}
use Rattle.tdl_logic.proofs.Placing.{there, changed_at-set, changed_at-past}
use Rattle.tdl_logic.proofs.tasks.Tasks.start.Goals as goal

pub returns-then-place-len : goal.returns-then-place-len
returns-then-place-len c =
    let same : length c.self.inside.items.items ≡ length c.args.self.now = ap length c.self.view_is in
    sym (changed_at-past c.args.task.0 (with_job c.args.origin c.args.inputs.now) c.args.self.now (omega (arith, same)))

pub start-requires : goal.start-requires
start-requires c =
    let u = c.index_mut-own.result.now in
    let lt : c.args.task.0 < length c.self.inside.items.items = omega arith in
    let at : slice_get c.self.inside.items.items c.args.task.0 ≡ Some c.index_mut-own.result.now =
    there c.self.inside.items.items c.args.task.0 u lt (search rules) in
    c.requires u (ap (λ (us : List TaskState). slice_get us c.args.task.0) (sym c.self.view_is) ∙ at)

pub returns : goal.returns
returns c =
    let u = c.index_mut-own.result.now in
    let lt : c.args.task.0 < length c.self.inside.items.items = omega arith in
    let at : slice_get c.self.inside.items.items c.args.task.0 ≡ Some c.index_mut-own.result.now =
    there c.self.inside.items.items c.args.task.0 u lt (search rules) in
    let started = with_job c.args.origin c.args.inputs.now in
    rw c.from-place.ensures
    (ap (λ (v : TaskState). set c.self.inside.items.items c.args.task.0 v) c.start.ensures
    ∙ sym (changed_at-set c.args.task.0 started u c.self.inside.items.items at)
    ∙ ap (λ (us : List TaskState). changed_at c.args.task.0 started us) c.self.view_is)
