use Rattle.std.proofs.Common.{◌≡◌, suc, ◌<◌, ◌≤◌, ◌-◌, ◌^◌, ◌∙◌, List, false, rules, arith, length, slice_get, Some, None, ap, sym, refl}
use Rattle.std.proofs.lemmas.Result.{IfErr-weaker, on_ok_weaker}
use Rattle.tdl_trace.specs.declared.why.Why.TheVariants as why
use Rattle.tdl_scen.specs.Scenario.{time_of}
use Rattle.tdl_image.specs.declared.hosted.TaskTable.{TaskTable}
use Rattle.tdl_verify.specs.States.{TaskNow}
use Rattle.tdl_host.specs.Hosts.{TaskView, HostedNow, IsBusyAt, is_idle, with_job}
use Rattle.tdl_host.proofs.CheckedLemmas.{all-at}
use Rattle.tdl_host.proofs.ListSteps.{there, mapped-kept}
use Rattle.tdl_host.proofs.StateLemmas.{table-there, state-there, own-table, no-table, started-at, busy-at, both-ok, trap-weaker}
use Rattle.tdl_host.proofs.state.HostState.start.Goals as goal

pub invariant_of-self : goal.invariant_of-self
invariant_of-self c =
    let u = c.index_mut-own.result.now in
    let lt : c.args.task < length c.self.inside.tasks.items = omega arith in
    let at : slice_get c.self.inside.tasks.items c.args.task ≡ Some c.index_mut-own.result.now =
    there c.self.inside.tasks.items c.args.task u lt (search rules) in
    let put : c.from-place.result ≡ c.args.task = c.from-place.ensures in (
      c.self.invariant.0,
      rw put (mapped-kept (λ (u : TaskView). u.table) c.self.inside.tasks.items c.args.task u c.start.new.self at
          c.start.ensures.table ∙ c.self.invariant.1),
    )

pub start-requires-clause-count : goal.start-requires-clause-count
start-requires-clause-count c =
    let u = c.index_mut-own.result.now in
    let lt : c.args.task < length c.self.inside.tasks.items = omega arith in
    let at : slice_get c.self.inside.tasks.items c.args.task ≡ Some c.index_mut-own.result.now =
    there c.self.inside.tasks.items c.args.task u lt (search rules) in
    c.requires.count u.table
    (ap (λ (s : HostedNow). slice_get s.host.tasks c.args.task) (sym c.self.view_is)
    ∙ ap (λ (ts : List TaskTable). slice_get ts c.args.task) (sym c.self.invariant.1)
    ∙ table-there c.self.inside.tasks.items c.args.task u at)

pub returns-then-place-len-clause-started : goal.returns-then-place-len-clause-started
returns-then-place-len-clause-started c table is =
    let past : length c.self.inside.tasks.items ≤ c.args.task = omega arith in
    let none : slice_get c.self.inside.hosted.now.tasks c.args.task ≡ None =
    no-table c.self.inside.tasks.items c.self.inside.hosted.now.tasks c.args.task c.self.invariant.1 past in
    let some : slice_get c.self.inside.hosted.now.tasks c.args.task ≡ Some table =
    ap (λ (s : HostedNow). slice_get s.host.tasks c.args.task) c.self.view_is ∙ is in
    let never : None ≡ Some table = sym none ∙ some in
    absurd cc

pub returns-clause-absent : goal.returns-clause-absent
returns-clause-absent c =
    let u = c.index_mut-own.result.now in
    let lt : c.args.task < length c.self.inside.tasks.items = omega arith in
    let at : slice_get c.self.inside.tasks.items c.args.task ≡ Some c.index_mut-own.result.now =
    there c.self.inside.tasks.items c.args.task u lt (search rules) in
    on_ok_weaker c.start.result
    (λ started none.
    (let some : None ≡ Some u.table =
    sym none
    ∙ ap (λ (s : HostedNow). slice_get s.host.tasks c.args.task) (sym c.self.view_is)
    ∙ ap (λ (ts : List TaskTable). slice_get ts c.args.task) (sym c.self.invariant.1)
    ∙ table-there c.self.inside.tasks.items c.args.task u at in absurd cc))
    c.start.ensures.started

pub returns-clause-started : goal.returns-clause-started
returns-clause-started c =
    let u = c.index_mut-own.result.now in
    let lt : c.args.task < length c.self.inside.tasks.items = omega arith in
    let at : slice_get c.self.inside.tasks.items c.args.task ≡ Some c.index_mut-own.result.now =
    there c.self.inside.tasks.items c.args.task u lt (search rules) in
    let put : c.from-place.result ≡ c.args.task = c.from-place.ensures in
    let timed : with_job u.table c.args.release c.next_time-time.result c.args.inputs.now u.now
    ≡ with_job u.table c.args.release
    (time_of c.args.times.now u.table.worst c.args.self.now.host.number.0 c.args.task (suc u.now.released))
    c.args.inputs.now u.now = search rules in
    rw put (both-ok c.start.result
    (λ idle now table is. started-at _ c.args.self.now.now c.self.inside.tasks.items c.args.task c.args.release
    (λ (k : TaskTable). time_of c.args.times.now k.worst c.args.self.now.host.number.0 c.args.task) c.args.inputs.now
    table u c.start.new.self (ap (λ (s : HostedNow). s.now) c.self.view_is) refl at
    (own-table c.self.inside.tasks.items c.self.inside.hosted.now.tasks c.args.task u table c.self.invariant.1 at
    (ap (λ (s : HostedNow). slice_get s.host.tasks c.args.task) c.self.view_is ∙ is)) idle (now ∙ timed))
    c.start.ensures.idle c.start.ensures.started)

pub returns-clause-busy : goal.returns-clause-busy
returns-clause-busy c =
    let u = c.index_mut-own.result.now in
    let lt : c.args.task < length c.self.inside.tasks.items = omega arith in
    let at : slice_get c.self.inside.tasks.items c.args.task ≡ Some c.index_mut-own.result.now =
    there c.self.inside.tasks.items c.args.task u lt (search rules) in
    IfErr-weaker c.start.result _ _
    (λ e busy. trap-weaker why.Busy (is_idle c.index_mut-own.result.now.now.slot ≡ false)
    (IsBusyAt c.args.task c.args.self.now)
    (λ h. busy-at c.args.self.now c.self.inside.tasks.items c.args.task u
    (ap (λ (s : HostedNow). s.host.tasks) (sym c.self.view_is) ∙ sym c.self.invariant.1)
    (ap (λ (s : HostedNow). s.now.tasks) (sym c.self.view_is)) at h)
    e busy)
    c.start.ensures.busy

pub start-requires-clause-released : goal.start-requires-clause-released
start-requires-clause-released c =
    let u = c.index_mut-own.result.now in
    let lt : c.args.task < length c.self.inside.tasks.items = omega arith in
    let at : slice_get c.self.inside.tasks.items c.args.task ≡ Some c.index_mut-own.result.now =
    there c.self.inside.tasks.items c.args.task u lt (search rules) in
    let le : c.index_mut-own.result.now.now.released ≤ 2 ^ 64 - 2 =
    all-at (λ (v : TaskNow). v.released ≤ 2 ^ 64 - 2) c.args.self.now.now.tasks c.args.task u.now
    c.requires.released.each
    (ap (λ (s : HostedNow). slice_get s.now.tasks c.args.task) (sym c.self.view_is)
    ∙ state-there c.self.inside.tasks.items c.args.task u at) in
    omega (arith, le)
