use Rattle.std.proofs.Common.{◌*◌, ◌^◌, ◌<◌, ◌≤◌, ◌≡◌, ℕ, suc, ◌+◌, ◌-◌, List, [], ◌∷◌, filter, sym, ap, ◌∙◌, arith}
use Rattle.std.proofs.lemmas.Result.{err_from_is_err_and, on_ok_weaker}
use Rattle.tdl_trace.specs.Shown.{Shown}
use Rattle.tdl_trace.specs.declared.why.Why.{Why}
use Rattle.tdl_scen.specs.declared.entries.Sense.{Sense}
use Rattle.tdl_scen.specs.declared.entries.TaskTimes.{TaskTimes}
use Rattle.tdl_image.specs.declared.hosted.Hosted.{Hosted}
use Rattle.tdl_verify.specs.States.{Part, HostNow}
use Rattle.tdl_verify.specs.Turns.{Spot, Turned}
use Rattle.tdl_verify.specs.Runs.{is_plain}
use Rattle.tdl_host.specs.Hosts.{host_turn, spot_now, after_step}
use Rattle.tdl_host.proofs.CountLemmas.{counted-same, counted-weaker}
use Rattle.tdl_host.proofs.StateLemmas.{trap-by}
use Rattle.tdl_host.proofs.turn.run_turn.Goals as goal

-- a turn that is the same as the whole one, one step on
one-step : (n m : ℕ) (h : Hosted) (times : List TaskTimes) (senses : List Sense) (x : ℕ) (spot : Spot) (s : HostNow)
    (rows : List Shown) (whole after : Turned) → n ≡ suc m → host_turn n h times senses x spot s rows ≡ whole →
    host_turn (suc m) h times senses x spot s rows ≡ after → whole ≡ after
one-step n m h times senses x spot s rows whole after e same step =
    sym same ∙ ap (λ k. host_turn k h times senses x spot s rows) e ∙ step

pub returns-in_err-step-clause-trapped : goal.returns-in_err-step-clause-trapped
returns-in_err-step-clause-trapped c =
    let p = err_from_is_err_and c.from_residual.result c.from_residual.ensures.1 in
    let left : c.args.declared - c.loop-done._done ≡ suc (c.args.declared - (c.loop-done._done + 1)) = omega arith in
    rw (p.1, p.2) (trap-by
    (λ (reason : Why). (n : ℕ) →
    host_turn (suc n) c.loop-done.state.host c.args.scene.times.now c.args.scene.senses.now c.args.scene.at
    (spot_now c.loop-done.standing) c.loop-done.state.now c.loop-done.rows ≡ Turned.Trapped reason)
    (λ (reason : Why). host_turn c.args.declared c.args.state.now.host c.args.scene.times.now c.args.scene.senses.now
    c.args.scene.at Spot.Between c.args.state.now.now [] ≡ Turned.Trapped reason)
    (λ reason step. one-step (c.args.declared - c.loop-done._done) (c.args.declared - (c.loop-done._done + 1))
    c.loop-done.state.host c.args.scene.times.now c.args.scene.senses.now c.args.scene.at
    (spot_now c.loop-done.standing) c.loop-done.state.now c.loop-done.rows _ _ left c.loop-done.invariant.same
    (step (c.args.declared - (c.loop-done._done + 1))))
    c.in_err-step.field-0.0 c.in_err-step.ensures.trapped)

pub returns-in-Finished-clause-ok : goal.returns-in-Finished-clause-ok
returns-in-Finished-clause-ok c =
    let left : c.args.declared - c.loop-done._done ≡ suc (c.args.declared - (c.loop-done._done + 1)) = omega arith in
    let step : host_turn (suc (c.args.declared - (c.loop-done._done + 1))) c.loop-done.state.host
    c.args.scene.times.now c.args.scene.senses.now c.args.scene.at (spot_now c.loop-done.standing) c.loop-done.state.now
    c.loop-done.rows ≡ Turned.Finished (Part.Host c.loop-done.state.host c.step.new.state.now ∷ [])
    (filter is_plain c.step.new.rows) =
    c.in_ok-step.ensures.ok (c.args.declared - (c.loop-done._done + 1))
    ∙ ap (λ next. after_step (c.args.declared - (c.loop-done._done + 1)) c.loop-done.state.host
    c.args.scene.times.now c.args.scene.senses.now c.args.scene.at c.step.new.state.now c.step.new.rows next)
    c.in-Finished.is in
    let plain : filter is_plain c.step.new.rows ≡ c.step.new.rows =
    c.in_ok-step.ensures.plain c.loop-done.invariant.plain in
    one-step (c.args.declared - c.loop-done._done) (c.args.declared - (c.loop-done._done + 1)) c.loop-done.state.host
    c.args.scene.times.now c.args.scene.senses.now c.args.scene.at (spot_now c.loop-done.standing) c.loop-done.state.now
    c.loop-done.rows _ _ left c.loop-done.invariant.same step
    ∙ ap (λ rows. Turned.Finished (Part.Host c.loop-done.state.host c.step.new.state.now ∷ []) rows) plain
    ∙ ap (λ (h : Hosted). Turned.Finished (Part.Host h c.step.new.state.now ∷ []) c.step.new.rows)
    c.loop-done.invariant.host

pub loop-done-preserved : goal.loop-done-preserved
loop-done-preserved c =
    let left : c.args.declared - c.loop-done._done ≡ suc (c.args.declared - (c.loop-done._done + 1)) = omega arith in
    let step : host_turn (suc (c.args.declared - (c.loop-done._done + 1))) c.loop-done.state.host
    c.args.scene.times.now c.args.scene.senses.now c.args.scene.at (spot_now c.loop-done.standing) c.loop-done.state.now
    c.loop-done.rows ≡ host_turn (c.args.declared - (c.loop-done._done + 1)) c.loop-done.state.host
    c.args.scene.times.now c.args.scene.senses.now c.args.scene.at (spot_now c.in-On.next) c.step.new.state.now
    c.step.new.rows =
    c.in_ok-step.ensures.ok (c.args.declared - (c.loop-done._done + 1))
    ∙ ap (λ next. after_step (c.args.declared - (c.loop-done._done + 1)) c.loop-done.state.host
    c.args.scene.times.now c.args.scene.senses.now c.args.scene.at c.step.new.state.now c.step.new.rows next)
    c.in-On.is in
    record {
      host = c.step.ensures.host ∙ c.loop-done.invariant.host;
      room = c.step.ensures.room ∙ c.loop-done.invariant.room;
      same = ap
          (λ (h : Hosted). host_turn (c.args.declared - (c.loop-done._done + 1)) h c.args.scene.times.now
          c.args.scene.senses.now c.args.scene.at (spot_now c.in-On.next) c.step.new.state.now c.step.new.rows)
          c.step.ensures.host
          ∙ sym
          (one-step (c.args.declared - c.loop-done._done) (c.args.declared - (c.loop-done._done + 1))
          c.loop-done.state.host c.args.scene.times.now c.args.scene.senses.now c.args.scene.at
          (spot_now c.loop-done.standing) c.loop-done.state.now c.loop-done.rows _ _ left
          c.loop-done.invariant.same step);
      released =
          counted-weaker (suc (c.args.scene.at * 2 ^ 32 + c.loop-done._done))
          (c.args.scene.at * 2 ^ 32 + (c.loop-done._done + 1)) c.step.new.state.now (omega arith)
          (c.in_ok-step.ensures.released (c.args.scene.at * 2 ^ 32 + c.loop-done._done) c.loop-done.invariant.released);
      plain = c.in_ok-step.ensures.plain c.loop-done.invariant.plain;
    }

pub returns-in-Finished-clause-released : goal.returns-in-Finished-clause-released
returns-in-Finished-clause-released c =
    let fits : c.args.declared < 2 ^ 32 = c.ranges.declared.fits in
    counted-weaker (suc (c.args.scene.at * 2 ^ 32 + c.loop-done._done)) (suc c.args.scene.at * 2 ^ 32)
    c.step.new.state.now (omega arith)
    (c.in_ok-step.ensures.released (c.args.scene.at * 2 ^ 32 + c.loop-done._done) c.loop-done.invariant.released)

pub returns-clause-released : goal.returns-clause-released
returns-clause-released c =
    let fits : c.args.declared < 2 ^ 32 = c.ranges.declared.fits in
    let done : c.loop-done._done ≤ c.args.declared = c.loop-done.auto._done-end in
    on_ok_weaker c.last.result
    (λ tasks. counted-weaker (c.args.scene.at * 2 ^ 32 + c.loop-done._done) (suc c.args.scene.at * 2 ^ 32)
    c.last.new.state.now (omega arith)
    (counted-same (c.args.scene.at * 2 ^ 32 + c.loop-done._done) c.loop-done.state.now c.last.new.state.now tasks
    c.loop-done.invariant.released)) c.last.ensures.tasks

pub step-requires-clause-released : goal.step-requires-clause-released
step-requires-clause-released c =
    let fits : c.args.declared < 2 ^ 32 = c.ranges.declared.fits in
    counted-weaker (c.args.scene.at * 2 ^ 32 + c.loop-done._done) (2 ^ 64 - 2) c.loop-done.state.now (omega arith)
    c.loop-done.invariant.released

pub step-requires-clause-room : goal.step-requires-clause-room
step-requires-clause-room c =
    rw (c.loop-done.invariant.host, c.loop-done.invariant.room) c.requires.room
