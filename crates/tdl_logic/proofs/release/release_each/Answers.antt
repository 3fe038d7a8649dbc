use Rattle.std.proofs.Common.{◌≡◌, pos, suc, List, [], length, drop, slice_get, Some, ap, sym, refl, ◌∙◌, add-one, arith}
use Rattle.tdl_base.specs.Lists.{changed_at}
use Rattle.tdl_base.specs.Sensed.{sensed_at}
use Rattle.tdl_body.specs.Values.{Look}
use Rattle.tdl_mode.specs.declared.program.Invocation.{Invocation}
use Rattle.tdl_mode.specs.States.{TaskState, invocations_now}
use Rattle.tdl_mode.specs.Phases.{releases}
use Rattle.tdl_logic.specs.Looks.{look_at, output_in}
use Rattle.tdl_logic.specs.Releases.{release_here, definitions_of}
use Rattle.tdl_logic.specs.Standing.{bare}
use Rattle.tdl_logic.proofs.Passing.{changed_at-same}
use Rattle.tdl_logic.proofs.Placing.{there, drop-at, drop-past}
use Rattle.tdl_logic.proofs.Releasing.{outputs-kept, definitions-kept, releases-more}
use Rattle.tdl_logic.proofs.release.release_each.Goals as goal

pub loop-i-preserved : goal.loop-i-preserved
loop-i-preserved c =
    let k = c.args.owner.0 in
    let moment = c.args.moment.now in
    let sensed = sensed_at c.args.sensed.now in
    let is : List Invocation = invocations_now (bare moment) in
    let i = c.loop-i.i in
    let inv : Invocation = c.index-invocations-i.result in
    let before : List (List TaskState) = c.loop-i.tasks in
    let after : List (List TaskState) = c.release.new.tasks in
    let look : Look = look_at k sensed c.args.tasks.now in
    let looks : look_at k sensed before ≡ look = ap (λ f. record { cell = λ _. pos 0; sensor = sensed k; port = f })
    c.loop-i.invariant.outputs in
    let at : slice_get is i ≡ Some inv =
    ap (λ (all : List Invocation). slice_get all i) (sym c.invocations-invocations.ensures)
    ∙ there c.invocations-invocations.result.now i inv c.loop-i-test.true c.index-invocations-i.is in
    let step : after ≡ changed_at k (release_here moment look (suc i) inv) before =
    c.release.ensures
    ∙ ap (λ n. changed_at k (release_here moment (look_at k sensed before) n inv) before) (add-one i)
    ∙ ap (λ (l : Look). changed_at k (release_here moment l (suc i) inv) before) looks in
    record {
      tasks =
          ap (λ n. changed_at k (releases (bare moment) moment.at.0 look (suc n) (drop n is)) after) (add-one i)
          ∙ ap (changed_at k (releases (bare moment) moment.at.0 look (suc (suc i)) (drop (suc i) is))) step
          ∙ releases-more moment look k (suc i) inv (drop i is) (drop (suc i) is) before (drop-at is i inv at)
          ∙ c.loop-i.invariant.tasks;
      outputs =
          ap output_in step ∙ outputs-kept moment look (suc i) k inv before ∙ c.loop-i.invariant.outputs;
      definitions =
          ap definitions_of step ∙ definitions-kept moment look (suc i) k inv before ∙ c.loop-i.invariant.definitions;
    }

pub returns-clause-tasks : goal.returns-clause-tasks
returns-clause-tasks c =
    let k = c.args.owner.0 in
    let moment = c.args.moment.now in
    let is : List Invocation = invocations_now (bare moment) in
    let i = c.loop-i.i in
    let look : Look = look_at k (sensed_at c.args.sensed.now) c.args.tasks.now in
    let count : length c.invocations-invocations.result.now ≡ length is = ap length c.invocations-invocations.ensures in
    let none : drop i is ≡ [] = drop-past is i (omega (arith, count, c.loop-i-test.false)) in
    sym (ap (λ (all : List Invocation).
    changed_at k (releases (bare moment) moment.at.0 look (suc i) all) c.loop-i.tasks)
    none
    ∙ changed_at-same k (λ tasks. tasks) c.loop-i.tasks (λ tasks. refl))
    ∙ c.loop-i.invariant.tasks
