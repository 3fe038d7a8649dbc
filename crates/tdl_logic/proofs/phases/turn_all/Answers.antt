use Rattle.std.proofs.Common.{◌<◌, length, ap, sym, ◌∙◌, arith}
use Rattle.tdl_base.specs.Sensed.{sensed_at}
use Rattle.tdl_mode.specs.Phases.{phase_three}
use Rattle.tdl_logic.specs.Looks.{look_at}
use Rattle.tdl_logic.specs.Wholes.{standing}
use Rattle.tdl_logic.proofs.Placing.{there}
use Rattle.tdl_logic.proofs.Standings.{now-more, phase-all}
use Rattle.tdl_logic.proofs.phases.turn_all.Goals as goal

pub loop-place-preserved : goal.loop-place-preserved
loop-place-preserved c =
    let k = c.loop-place.place in
    let x = c.args.at.0 in
    let sensed = sensed_at c.args.sensed.now in
    let m = c.index-modules-place.result in
    let now = c.index-nows-place.result in
    let lt : c.loop-place.place < length c.loop-place.nows =
    omega (arith, c.loop-place.auto.nows, c.requires.cycles, c.loop-place-test.true) in
    now-more (phase_three x) sensed c.args.modules.now c.args.nows.now c.loop-place.nows c.args.tasks.now k m now
    c.turn.new.self c.requires
    (there c.args.modules.now k m c.loop-place-test.true c.index-modules-place.is)
    (there c.loop-place.nows k now lt c.index-nows-place.is)
    (λ tasks. c.turn.ensures tasks
    ∙ ap (λ u. phase_three x (look_at c.module_at.result.0 sensed c.args.tasks.now) (standing m u tasks))
    (sym c.index-nows-place.is)
    ∙ ap (λ n. phase_three x (look_at n sensed c.args.tasks.now) (standing m now tasks)) c.module_at.ensures)
    c.loop-place.invariant

pub returns : goal.returns
returns c =
    c.loop-place.invariant
    ∙ phase-all (phase_three c.args.at.0) (sensed_at c.args.sensed.now) c.args.modules.now c.args.nows.now
    c.args.tasks.now c.loop-place.place c.loop-place-test.false
