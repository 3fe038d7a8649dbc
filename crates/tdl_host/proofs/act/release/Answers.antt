use Rattle.std.proofs.Common.{◌≡◌, ◌≤◌, ◌∙◌, ℕ, ℤ, List, length, map, take, slice_get, Some, ap, sym, subst, refl, rules, arith}
use Rattle.std.specs.List.{All}
use Rattle.std.proofs.lemmas.List.{length-map}
use Rattle.std.proofs.lemmas.Result.{IfErr-weaker}
use Rattle.tdl_trace.specs.Shown.{Shown}
use Rattle.tdl_trace.specs.declared.why.Why.{Why}
use Rattle.tdl_trace.specs.declared.why.Why.TheVariants as why
use Rattle.tdl_ecode.specs.declared.instr.EInstr.TheVariants.{Release}
use Rattle.tdl_stack.specs.declared.instr.Code.{Code}
use Rattle.tdl_verify.specs.Turns.{Acted}
use Rattle.tdl_host.specs.CheckedCodes.{IsCheckedCode, IsCheckedCall, HasCheckedCodes}
use Rattle.tdl_host.specs.Hosts.{acts, value_at, IsBusyAt}
use Rattle.tdl_host.proofs.CheckedLemmas.{checked_call, room_for}
use Rattle.tdl_host.proofs.ActLemmas.{released-ok, released-busy}
use Rattle.tdl_host.proofs.StateLemmas.{trap-of}
use Rattle.tdl_host.proofs.act.release.Goals as goal

pub put_values-requires-clause-codes : goal.put_values-requires-clause-codes
put_values-requires-clause-codes c =
    subst (λ (codes : List Code). All IsCheckedCode codes) (sym c.as_slice.ensures)
    (checked_call c.hosted-hosted.result.now c.in-Some.release.now.call c.in-Some-get.call.now
    c.hosted-hosted.ensures.codes (search rules)).arguments

pub put_values-requires-clause-room : goal.put_values-requires-clause-room
put_values-requires-clause-room c =
    let ec : slice_get c.args.state.now.host.calls c.in-Some.release.now.call ≡ Some c.in-Some-get.call.now =
    search rules in
    let room : length c.in-Some-get.call.now.args ≤ length c.args.numbers.now =
    room_for c.args.state.now.host (length c.args.numbers.now) c.in-Some.release.now.call c.in-Some-get.call.now
    c.requires.room ec in
    let e : length c.as_slice.result.now ≡ length c.in-Some-get.call.now.args = ap length c.as_slice.ensures in
    omega (arith, e, room)

pub start-requires-clause-count : goal.start-requires-clause-count
start-requires-clause-count c table is =
    let f = value_at c.args.state.now.host c.args.state.now.now c.args.scene.senses.now c.args.scene.at in
    let ec : slice_get c.args.state.now.host.calls c.in-Some.release.now.call ≡ Some c.in-Some-get.call.now =
    search rules in
    let checked : IsCheckedCall c.args.state.now.host.tasks c.in-Some-get.call.now =
    checked_call c.args.state.now.host c.in-Some.release.now.call c.in-Some-get.call.now
    (subst HasCheckedCodes c.hosted-hosted.ensures.is c.hosted-hosted.ensures.codes) ec in
    let count : c.len.result ≡ length c.as_slice.result.now = search rules in
    ap (λ n. length (take n c.put_values.new.into)) count
    ∙ ap (λ (vs : List ℤ). length vs) c.put_values.ensures.values
    ∙ length-map c.as_slice.result.now f
    ∙ ap (λ (codes : List Code). length codes) c.as_slice.ensures
    ∙ checked.count table is

pub returns-clause-ok : goal.returns-clause-ok
returns-clause-ok c =
    let f = value_at c.args.state.now.host c.args.state.now.now c.args.scene.senses.now c.args.scene.at in
    let er : slice_get c.args.state.now.host.releases c.args.release ≡ Some c.in-Some.release.now = search rules in
    let ec : slice_get c.args.state.now.host.calls c.in-Some.release.now.call ≡ Some c.in-Some-get.call.now =
    search rules in
    let checked : IsCheckedCall c.args.state.now.host.tasks c.in-Some-get.call.now =
    checked_call c.args.state.now.host c.in-Some.release.now.call c.in-Some-get.call.now
    (subst HasCheckedCodes c.hosted-hosted.ensures.is c.hosted-hosted.ensures.codes) ec in
    let count : c.len.result ≡ length c.as_slice.result.now = search rules in
    let values : take c.len.result c.put_values.new.into
    ≡ map (value_at c.args.state.now.host c.args.state.now.now c.args.scene.senses.now c.args.scene.at)
    c.in-Some-get.call.now.args =
    ap (λ n. take n c.put_values.new.into) count
    ∙ c.put_values.ensures.values
    ∙ ap (λ (codes : List Code). map f codes) c.as_slice.ensures in
    released-ok c.args.state.now.host c.args.scene.times.now c.args.scene.senses.now c.args.scene.at
    c.args.state.now.now c.start.new.self.now c.args.release c.in-Some.release.now c.in-Some-get.call.now
    (take c.len.result c.put_values.new.into) c.start.result er ec checked values c.start.ensures.absent
    c.start.ensures.started (slice_get c.args.state.now.host.tasks c.in-Some-get.call.now.task) refl

pub returns-clause-trapped : goal.returns-clause-trapped
returns-clause-trapped c =
    let er : slice_get c.args.state.now.host.releases c.args.release ≡ Some c.in-Some.release.now = search rules in
    let ec : slice_get c.args.state.now.host.calls c.in-Some.release.now.call ≡ Some c.in-Some-get.call.now =
    search rules in
    IfErr-weaker c.start.result _ _
    (λ e busy. trap-of why.Busy (IsBusyAt c.in-Some-get.call.now.task c.args.state.now)
    (λ (reason : Why). (rows : List Shown) (pc : ℕ) →
    acts c.args.state.now.host c.args.scene.times.now c.args.scene.senses.now c.args.scene.at rows c.args.state.now.now
    pc (Release c.args.release) ≡ Acted.Stop reason)
    e busy
    (λ at rows pc. released-busy c.args.state.now c.args.scene.times.now c.args.scene.senses.now c.args.scene.at rows pc
    c.args.release c.in-Some.release.now c.in-Some-get.call.now er ec at))
    c.start.ensures.busy
