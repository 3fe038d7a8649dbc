use Rattle.std.proofs.Common.{◌≡◌, [], ◌∷◌, Some, None, zero, rules}
use Rattle.tdl_verify.specs.States.{Part}
use Rattle.tdl_verify.specs.Turns.{part_instr}
use Rattle.tdl_host.specs.Hosts.{spot_now}
use Rattle.tdl_host.proofs.TurnLemmas.{step-finished, step-lost, step-spent}
use Rattle.tdl_host.proofs.step.last.Goals as goal

pub returns-in_default-clause-ok : goal.returns-in_default-clause-ok
returns-in_default-clause-ok c rows times senses =
    step-finished zero c.args.state.now.host times senses c.args.at (spot_now c.args.standing) c.args.state.now.now
    c.pick.new.state.now rows (λ go rows. c.in_default.ensures.place go rows)

pub returns-in-None-clause-trapped : goal.returns-in-None-clause-trapped
returns-in-None-clause-trapped c rows times senses =
    let there : part_instr (Part.Host c.args.state.now.host c.pick.new.state.now ∷ []) 0 c.in-Some.place.block
    c.in-Some.place.pc ≡ None = search rules in
    step-lost zero c.args.state.now.host times senses c.args.at (spot_now c.args.standing) c.args.state.now.now
    c.pick.new.state.now rows c.in-Some.place (λ go rows. c.in-Some.ensures.place go rows) there

pub returns-in-Some-fetch-clause-trapped : goal.returns-in-Some-fetch-clause-trapped
returns-in-Some-fetch-clause-trapped c rows times senses =
    let there : part_instr (Part.Host c.args.state.now.host c.pick.new.state.now ∷ []) 0 c.in-Some.place.block
    c.in-Some.place.pc ≡ Some c.in-Some-fetch.field-0 = search rules in
    step-spent c.args.state.now.host times senses c.args.at (spot_now c.args.standing) c.args.state.now.now
    c.pick.new.state.now rows c.in-Some.place c.in-Some-fetch.field-0 (λ go rows. c.in-Some.ensures.place go rows)
    there
