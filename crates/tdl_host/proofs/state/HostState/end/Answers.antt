use Rattle.std.proofs.Common.{◌≡◌, ◌<◌, ◌∙◌, List, rules, arith, length, set, slice_get, Some, ap, sym, refl}
use Rattle.std.proofs.lemmas.Result.{IfOk-weaker, IfErr-weaker}
use Rattle.std.proofs.lemmas.List.{get_or-set_same, length-set}
use Rattle.tdl_trace.specs.declared.why.Why.TheVariants as why
use Rattle.tdl_verify.specs.States.{TaskNow, HostNow}
use Rattle.tdl_host.specs.Hosts.{TaskView, HostedNow, IsLate, slot_of, states_of}
use Rattle.tdl_host.proofs.ListSteps.{there, mapped-kept, set-same}
use Rattle.tdl_host.proofs.StateLemmas.{committed-at, slot-at, changed-now, trap-weaker}
use Rattle.tdl_host.proofs.state.HostState.end.Goals as goal

pub invariant_of-self : goal.invariant_of-self
invariant_of-self c =
    let u = c.index_mut-own.result.now in
    let lt : c.args.task < length c.self.inside.tasks.items = omega arith in
    let at : slice_get c.self.inside.tasks.items c.args.task ≡ Some c.index_mut-own.result.now =
    there c.self.inside.tasks.items c.args.task u lt (search rules) in
    let put : c.from-place.result ≡ c.args.task = c.from-place.ensures in (
      c.self.invariant.0,
      rw put (mapped-kept (λ (u : TaskView). u.table) c.self.inside.tasks.items c.args.task u c.end.new.self at
          c.end.ensures.table ∙ c.self.invariant.1),
    )

pub returns-clause-kept : goal.returns-clause-kept
returns-clause-kept c =
    let u = c.index_mut-own.result.now in
    let lt : c.args.task < length c.self.inside.tasks.items = omega arith in
    let at : slice_get c.self.inside.tasks.items c.args.task ≡ Some c.index_mut-own.result.now =
    there c.self.inside.tasks.items c.args.task u lt (search rules) in
    let put : c.from-place.result ≡ c.args.task = c.from-place.ensures in
    rw put (IfOk-weaker c.end.result _ _
    (λ done kept no. changed-now _ _ c.self.view_is (λ (s : HostNow) (ts : List TaskNow). record s { tasks = ts })
    (states_of (set c.self.inside.tasks.items c.args.task c.end.new.self)) (λ (z : HostedNow). z.now.tasks)
    (ap (λ (v : TaskView). states_of (set c.self.inside.tasks.items c.args.task v)) (kept no)
    ∙ ap (λ (us : List TaskView). states_of us) (set-same c.self.inside.tasks.items c.args.task u at)))
    c.end.ensures.kept)

pub returns-clause-idle : goal.returns-clause-idle
returns-clause-idle c =
    let u = c.index_mut-own.result.now in
    let lt : c.args.task < length c.self.inside.tasks.items = omega arith in
    let at : slice_get c.self.inside.tasks.items c.args.task ≡ Some c.index_mut-own.result.now =
    there c.self.inside.tasks.items c.args.task u lt (search rules) in
    IfOk-weaker c.end.result _ _
    (λ done idle no. slot-at c.args.self.now.now c.self.inside.tasks.items c.args.task u
    (ap (λ (s : HostedNow). s.now.tasks) (sym c.self.view_is)) at ∙ idle no)
    c.end.ensures.idle

pub returns-clause-committed : goal.returns-clause-committed
returns-clause-committed c =
    let us = c.self.inside.tasks.items in
    let u = c.index_mut-own.result.now in
    let lt : c.args.task < length c.self.inside.tasks.items = omega arith in
    let at : slice_get c.self.inside.tasks.items c.args.task ≡ Some c.index_mut-own.result.now =
    there us c.args.task u lt (search rules) in
    let long : c.args.task < length (set c.self.inside.tasks.items c.args.task c.end.new.self) =
    rw (length-set us c.args.task c.end.new.self) lt in
    let at' : slice_get (set c.self.inside.tasks.items c.args.task c.end.new.self) c.args.task ≡ Some c.end.new.self =
    there (set us c.args.task c.end.new.self) c.args.task c.end.new.self long
    (sym (get_or-set_same us c.args.task c.end.new.self c.end.new.self lt)) in
    let put : c.from-place.result ≡ c.args.task = c.from-place.ensures in
    rw put (IfOk-weaker c.end.result _ _
    (λ done committed yes. committed-at _ c.args.self.now.now us c.args.task u c.end.new.self
    (ap (λ (s : HostedNow). s.now) c.self.view_is) refl at at' (committed yes))
    c.end.ensures.committed)

pub returns-clause-late : goal.returns-clause-late
returns-clause-late c =
    let u = c.index_mut-own.result.now in
    let lt : c.args.task < length c.self.inside.tasks.items = omega arith in
    let at : slice_get c.self.inside.tasks.items c.args.task ≡ Some c.index_mut-own.result.now =
    there c.self.inside.tasks.items c.args.task u lt (search rules) in
    let same = slot-at c.args.self.now.now c.self.inside.tasks.items c.args.task u
    (ap (λ (s : HostedNow). s.now.tasks) (sym c.self.view_is)) at in
    IfErr-weaker c.end.result _ _
    (λ e late. trap-weaker why.Late (IsLate c.index_mut-own.result.now.now.slot)
    (IsLate (slot_of c.args.self.now.now c.args.task)) (λ h. rw same h) e late)
    c.end.ensures.late
