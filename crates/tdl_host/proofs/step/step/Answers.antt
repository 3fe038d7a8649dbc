use Rattle.std.proofs.Common.{◌-◌, ◌^◌, arith, ◌≡◌, ℕ, suc, [], ◌∷◌, Some, None, subst, rules}
use Rattle.std.proofs.lemmas.Result.{err_from_is_err_and}
use Rattle.tdl_trace.specs.declared.why.Why.{Why}
use Rattle.tdl_image.specs.declared.hosted.Hosted.{Hosted}
use Rattle.tdl_verify.specs.States.{Part}
use Rattle.tdl_verify.specs.Turns.{Acted, Turned, part_instr}
use Rattle.tdl_host.specs.declared.act.Next.TheVariants as next
use Rattle.tdl_host.specs.Hosts.{acts, went, host_turn, spot_now}
use Rattle.tdl_host.proofs.CountLemmas.{acts-counted, counted-same, counted-weaker}
use Rattle.tdl_host.proofs.StateLemmas.{trap-by}
use Rattle.tdl_host.proofs.TurnLemmas.{acts-plain, step-finished, step-lost, step-went, step-trapped}
use Rattle.tdl_host.proofs.step.step.Goals as goal

pub returns-in_default-clause-ok : goal.returns-in_default-clause-ok
returns-in_default-clause-ok c n =
    step-finished (suc n) c.args.state.now.host c.args.scene.times.now c.args.scene.senses.now c.args.scene.at
    (spot_now c.args.standing) c.args.state.now.now c.pick.new.state.now c.args.rows.now
    (λ go rows. c.in_default.ensures.place go rows)

pub returns-in_default-fetch-clause-trapped : goal.returns-in_default-fetch-clause-trapped
returns-in_default-fetch-clause-trapped c n =
    let there : part_instr (Part.Host c.args.state.now.host c.pick.new.state.now ∷ []) 0 c.in-Some.place.block
    c.in-Some.place.pc ≡ None = search rules in
    step-lost (suc n) c.args.state.now.host c.args.scene.times.now c.args.scene.senses.now c.args.scene.at
    (spot_now c.args.standing) c.args.state.now.now c.pick.new.state.now c.args.rows.now c.in-Some.place
    (λ go rows. c.in-Some.ensures.place go rows)
    there

pub returns-in_err-pc-clause-trapped : goal.returns-in_err-pc-clause-trapped
returns-in_err-pc-clause-trapped c =
    let there : part_instr (Part.Host c.args.state.now.host c.pick.new.state.now ∷ []) 0 c.in-Some.place.block
    c.in-Some.place.pc ≡ Some c.in-Some-fetch.instr = search rules in
    let p = err_from_is_err_and c.from_residual.result c.from_residual.ensures.1 in
    rw (p.1, p.2) (trap-by
    (λ (reason : Why). acts c.pick.new.state.host c.args.scene.times.now c.args.scene.senses.now c.args.scene.at
    c.args.rows.now c.pick.new.state.now c.in-Some.place.pc c.in-Some-fetch.instr ≡ Acted.Stop reason)
    (λ (reason : Why). (n : ℕ) →
    host_turn (suc n) c.args.state.now.host c.args.scene.times.now c.args.scene.senses.now c.args.scene.at
    (spot_now c.args.standing) c.args.state.now.now c.args.rows.now ≡ Turned.Trapped reason)
    (λ reason e n. step-trapped n c.args.state.now.host c.args.scene.times.now c.args.scene.senses.now c.args.scene.at
    (spot_now c.args.standing) c.args.state.now.now c.pick.new.state.now c.args.rows.now c.in-Some.place
    c.in-Some-fetch.instr reason (λ go rows. c.in-Some.ensures.place go rows)
    there
    (subst (λ (h : Hosted). acts h c.args.scene.times.now c.args.scene.senses.now c.args.scene.at c.args.rows.now
    c.pick.new.state.now c.in-Some.place.pc c.in-Some-fetch.instr ≡ Acted.Stop reason) c.pick.ensures.host e))
    c.in_err-pc.field-0.0 c.in_err-pc.ensures.trapped)

pub returns-in-On-clause-ok : goal.returns-in-On-clause-ok
returns-in-On-clause-ok c n =
    let there : part_instr (Part.Host c.args.state.now.host c.pick.new.state.now ∷ []) 0 c.in-Some.place.block
    c.in-Some.place.pc ≡ Some c.in-Some-fetch.instr = search rules in
    let e : acts c.args.state.now.host c.args.scene.times.now c.args.scene.senses.now c.args.scene.at c.args.rows.now
    c.pick.new.state.now c.in-Some.place.pc c.in-Some-fetch.instr
    ≡ went (next.On c.in-On.pc) c.args.state.now.host c.act.new.state.now c.act.new.rows = search rules in
    step-went n c.args.state.now.host c.args.scene.times.now c.args.scene.senses.now c.args.scene.at
    (spot_now c.args.standing) c.args.state.now.now c.pick.new.state.now c.act.new.state.now c.args.rows.now
    c.act.new.rows c.in-Some.place c.in-Some-fetch.instr (next.On c.in-On.pc)
    (λ go rows. c.in-Some.ensures.place go rows) there e

pub returns-in-On-clause-plain : goal.returns-in-On-clause-plain
returns-in-On-clause-plain c =
    let e : acts c.args.state.now.host c.args.scene.times.now c.args.scene.senses.now c.args.scene.at c.args.rows.now
    c.pick.new.state.now c.in-Some.place.pc c.in-Some-fetch.instr
    ≡ went (next.On c.in-On.pc) c.args.state.now.host c.act.new.state.now c.act.new.rows = search rules in
    acts-plain c.args.state.now.host c.args.scene.times.now c.args.scene.senses.now c.args.scene.at c.args.rows.now
    c.act.new.rows c.pick.new.state.now c.act.new.state.now c.in-Some.place.pc c.in-Some-fetch.instr
    (next.On c.in-On.pc) e

pub returns-in-Over-clause-ok : goal.returns-in-Over-clause-ok
returns-in-Over-clause-ok c n =
    let there : part_instr (Part.Host c.args.state.now.host c.pick.new.state.now ∷ []) 0 c.in-Some.place.block
    c.in-Some.place.pc ≡ Some c.in-Some-fetch.instr = search rules in
    let e : acts c.args.state.now.host c.args.scene.times.now c.args.scene.senses.now c.args.scene.at c.args.rows.now
    c.pick.new.state.now c.in-Some.place.pc c.in-Some-fetch.instr
    ≡ went next.Over c.args.state.now.host c.act.new.state.now c.act.new.rows = search rules in
    step-went n c.args.state.now.host c.args.scene.times.now c.args.scene.senses.now c.args.scene.at
    (spot_now c.args.standing) c.args.state.now.now c.pick.new.state.now c.act.new.state.now c.args.rows.now
    c.act.new.rows c.in-Some.place c.in-Some-fetch.instr next.Over (λ go rows. c.in-Some.ensures.place go rows)
    there e

pub returns-in-Over-clause-plain : goal.returns-in-Over-clause-plain
returns-in-Over-clause-plain c =
    let e : acts c.args.state.now.host c.args.scene.times.now c.args.scene.senses.now c.args.scene.at c.args.rows.now
    c.pick.new.state.now c.in-Some.place.pc c.in-Some-fetch.instr
    ≡ went next.Over c.args.state.now.host c.act.new.state.now c.act.new.rows = search rules in
    acts-plain c.args.state.now.host c.args.scene.times.now c.args.scene.senses.now c.args.scene.at c.args.rows.now
    c.act.new.rows c.pick.new.state.now c.act.new.state.now c.in-Some.place.pc c.in-Some-fetch.instr next.Over e

pub returns-in-On-clause-released : goal.returns-in-On-clause-released
returns-in-On-clause-released c bound n =
    let e : acts c.args.state.now.host c.args.scene.times.now c.args.scene.senses.now c.args.scene.at c.args.rows.now
    c.pick.new.state.now c.in-Some.place.pc c.in-Some-fetch.instr
    ≡ went (next.On c.in-On.pc) c.args.state.now.host c.act.new.state.now c.act.new.rows = search rules in
    acts-counted bound c.args.state.now.host c.args.scene.times.now c.args.scene.senses.now c.args.scene.at
    c.args.rows.now c.act.new.rows c.pick.new.state.now c.act.new.state.now c.in-Some.place.pc c.in-Some-fetch.instr
    (next.On c.in-On.pc) e (counted-same bound c.args.state.now.now c.pick.new.state.now c.pick.ensures.tasks n)

pub returns-in-Over-clause-released : goal.returns-in-Over-clause-released
returns-in-Over-clause-released c bound n =
    let e : acts c.args.state.now.host c.args.scene.times.now c.args.scene.senses.now c.args.scene.at c.args.rows.now
    c.pick.new.state.now c.in-Some.place.pc c.in-Some-fetch.instr
    ≡ went next.Over c.args.state.now.host c.act.new.state.now c.act.new.rows = search rules in
    acts-counted bound c.args.state.now.host c.args.scene.times.now c.args.scene.senses.now c.args.scene.at
    c.args.rows.now c.act.new.rows c.pick.new.state.now c.act.new.state.now c.in-Some.place.pc c.in-Some-fetch.instr
    next.Over e (counted-same bound c.args.state.now.now c.pick.new.state.now c.pick.ensures.tasks n)

pub returns-in_default-clause-released : goal.returns-in_default-clause-released
returns-in_default-clause-released c bound n =
    counted-weaker bound (suc bound) c.pick.new.state.now (omega arith)
    (counted-same bound c.args.state.now.now c.pick.new.state.now c.pick.ensures.tasks n)

pub act-requires-clause-released : goal.act-requires-clause-released
act-requires-clause-released c =
    counted-same (2 ^ 64 - 2) c.args.state.now.now c.pick.new.state.now c.pick.ensures.tasks c.requires.released
