use Rattle.std.proofs.Common.{◌≡◌, ◌<◌, List, length, slice_get, Some, ap, sym, ◌∙◌, arith}
use Rattle.std.proofs.lemmas.Option.{same_Some}
use Rattle.tdl_base.specs.Lists.{changed_at}
use Rattle.tdl_base.specs.Sensed.{sensed_at}
use Rattle.tdl_body.specs.Values.{Look}
use Rattle.tdl_mode.specs.States.{TaskState, invocations_now}
use Rattle.tdl_mode.specs.Phases.{phase_four, releases}
use Rattle.tdl_logic.specs.Looks.{look_at}
use Rattle.tdl_logic.proofs.Placing.{there}
use Rattle.tdl_logic.proofs.PhaseSteps.{alone_now, released-standing}
use Rattle.tdl_logic.proofs.Standings.{tasks-more, phase-all}
use Rattle.tdl_logic.proofs.phases.release_all.Goals as goal

pub loop-place-preserved : goal.loop-place-preserved
loop-place-preserved c =
    let k = c.loop-place.place in
    let x = c.args.at.0 in
    let sensed = sensed_at c.args.sensed.now in
    let m = c.index-modules-place.result in
    let now = c.index-nows-place.result in
    let all : List (List TaskState) = c.loop-place.tasks in
    let look : Look = look_at k sensed all in
    let lt : c.loop-place.place < length c.args.nows.now =
    omega (arith, c.requires.whole.cycles, c.loop-place-test.true) in
    let em : slice_get c.args.modules.now k ≡ Some m =
    there c.args.modules.now k m c.loop-place-test.true c.index-modules-place.is in
    let en : slice_get c.args.nows.now k ≡ Some now = there c.args.nows.now k now lt c.index-nows-place.is in
    record {
      states = tasks-more (phase_four x) sensed c.args.modules.now c.args.nows.now c.args.tasks.now all
          c.release_each.new.tasks k (releases (alone_now m now) x look 1 (invocations_now (alone_now m now)))
          c.requires.whole c.loop-place.invariant.outputs
          (c.release_each.ensures.tasks
          ∙ ap (λ n. changed_at n (releases (alone_now m now) x (look_at n sensed all) 1
          (invocations_now (alone_now m now))) all) c.module_at.ensures)
          (λ m' now' tasks em' en'. released-standing x look m' m now' now tasks (same_Some m m' (sym em ∙ em'))
          (same_Some now now' (sym en ∙ en')))
          c.loop-place.invariant.states;
      outputs = c.release_each.ensures.outputs ∙ c.loop-place.invariant.outputs;
      definitions = c.release_each.ensures.definitions ∙ c.loop-place.invariant.definitions;
    }

pub returns-clause-states : goal.returns-clause-states
returns-clause-states c =
    c.loop-place.invariant.states
    ∙ phase-all (phase_four c.args.at.0) (sensed_at c.args.sensed.now) c.args.modules.now c.args.nows.now
    c.args.tasks.now c.loop-place.place c.loop-place-test.false
