use Rattle.std.proofs.Common.{◌≡◌, ◌<◌, ◌≤◌, List, length, set, ap, sym, ◌∙◌, arith}
use Rattle.tdl_base.specs.Lists.{changed_at}
use Rattle.tdl_mode.specs.States.{TaskState, State}
use Rattle.tdl_mode.specs.Phases.{phase_one}
use Rattle.tdl_logic.specs.Releases.{definitions_of}
use Rattle.tdl_logic.specs.Wholes.{all_standing}
use Rattle.tdl_logic.proofs.Passing.{done-more, done-all, numbered-map-all}
use Rattle.tdl_logic.proofs.Placing.{there, changed_at-set}
use Rattle.tdl_logic.proofs.PhaseSteps.{ended_tasks, ended-kept, ended-standing}
use Rattle.tdl_logic.proofs.Standings.{length-standing}
use Rattle.tdl_logic.proofs.phases.end_all.Goals as goal

pub loop-place-preserved : goal.loop-place-preserved
loop-place-preserved c =
    let k = c.loop-place.place in
    let x = c.args.at.0 in
    let ms = c.args.modules.now in
    let nows = c.args.nows.now in
    let m = c.index-modules-place.result in
    let now = c.index-nows-place.result in
    let own : List TaskState = c.index-tasks-place.result in
    let all : List (List TaskState) = c.loop-place.tasks in
    let lt : c.loop-place.place < length c.args.nows.now = omega (arith, c.requires.cycles, c.loop-place-test.true) in
    let lt' : c.loop-place.place < length c.loop-place.tasks =
    omega (arith, c.loop-place.auto.tasks, c.requires.tasks, c.loop-place-test.true) in
    let step : set all k c.end.new.self ≡ changed_at k (ended_tasks x m now) all =
    ap (λ (ts : List TaskState). set all k ts)
    (c.end.ensures ∙ ap (λ (ts : List TaskState). ended_tasks x m now ts) (sym c.index-tasks-place.is))
    ∙ sym (changed_at-set k (ended_tasks x m now) own all (there all k own lt' c.index-tasks-place.is)) in
    record {
      states = done-more k (λ _. phase_one x) (all_standing ms nows c.args.tasks.now) (all_standing ms nows all)
          (all_standing ms nows (set all k c.end.new.self)) c.loop-place.invariant.states
          (ap (λ (ts : List (List TaskState)). all_standing ms nows ts) step
          ∙ ended-standing x k ms nows all m now (there ms k m c.loop-place-test.true c.index-modules-place.is)
          (there nows k now lt c.index-nows-place.is));
      definitions =
          ap definitions_of step ∙ ended-kept x k m now all ∙ c.loop-place.invariant.definitions;
    }

pub returns-clause-states : goal.returns-clause-states
returns-clause-states c =
    let x = c.args.at.0 in
    let first : State = all_standing c.args.modules.now c.args.nows.now c.args.tasks.now in
    let less : length first ≤ length c.args.modules.now =
    length-standing c.args.modules.now c.args.nows.now c.args.tasks.now in
    c.loop-place.invariant.states
    ∙ done-all c.loop-place.place (λ _. phase_one x) first (omega (arith, less, c.loop-place-test.false))
    ∙ numbered-map-all (phase_one x) 0 first
