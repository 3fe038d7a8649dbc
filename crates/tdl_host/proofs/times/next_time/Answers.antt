use Rattle.std.proofs.Common.{◌≡◌, ◌≤◌, ◌<◌, ◌+◌, ◌∷◌, ◌==◌, ◌&&◌, true, List, drop, length, get_or, slice_get, Some, arith, ap, sym, subst, ◌∙◌}
use Rattle.std.proofs.lemmas.Option.{slice_get-get_or}
use Rattle.tdl_scen.specs.declared.entries.TaskTimes.{TaskTimes}
use Rattle.tdl_scen.specs.Scenario.{times_of}
use Rattle.tdl_host.proofs.ListSteps.{front-dropped}
use Rattle.tdl_host.proofs.TimeLemmas.{both-hold, time-found, time-past}
use Rattle.tdl_host.proofs.times.next_time.Goals as goal

pub returns-then-left-own : goal.returns-then-left-own
returns-then-left-own c =
    let cut : drop c.loop-entry.entry-index c.args.times.now
    ≡ c.entry-item.result ∷ drop (c.loop-entry.entry-index + 1) c.args.times.now =
    front-dropped c.args.times.now c.loop-entry.entry-index c.entry-item.result c.loop-entry-test.true
    c.entry-item.is in
    let own : (c.entry-item.result.module.0 == c.args.owner.0 && c.entry-item.result.task.0 == c.args.task.0) ≡ true =
    both-hold _ _ (sym c.if-ne.false ∙ c.ne.ensures) (sym c.if-ne-2.false ∙ c.ne-else-ne.ensures) in
    let lt : c.loop-entry.left < length c.entry-item.result.times =
    subst (λ (own : List _). c.loop-entry.left < length own) c.as_slice-own.ensures c.if-left-own.true in
    let at : slice_get c.entry-item.result.times c.loop-entry.left
    ≡ Some (get_or c.as_slice-own.result.now c.loop-entry.left 0) =
    slice_get-get_or c.entry-item.result.times c.loop-entry.left 0 lt
    ∙ ap (λ (own : List _). Some (get_or own c.loop-entry.left 0)) (sym c.as_slice-own.ensures) in
    time-found c.entry-item.result (drop (c.loop-entry.entry-index + 1) c.args.times.now) c.args.times.now c.args.worst
    c.args.owner.0 c.args.task.0 c.loop-entry.left c.args.released _ own at lt
    (ap (λ (left : List TaskTimes). slice_get (times_of left c.args.owner.0 c.args.task.0) c.loop-entry.left) (sym cut)
    ∙ c.loop-entry.invariant)

pub loop-entry-preserved : goal.loop-entry-preserved
loop-entry-preserved c =
    let cut : drop c.loop-entry.entry-index c.args.times.now
    ≡ c.entry-item.result ∷ drop (c.loop-entry.entry-index + 1) c.args.times.now =
    front-dropped c.args.times.now c.loop-entry.entry-index c.entry-item.result c.loop-entry-test.true
    c.entry-item.is in
    let own : (c.entry-item.result.module.0 == c.args.owner.0 && c.entry-item.result.task.0 == c.args.task.0) ≡ true =
    both-hold _ _ (sym c.if-ne.false ∙ c.ne.ensures) (sym c.if-ne-2.false ∙ c.ne-else-ne.ensures) in
    let le : length c.entry-item.result.times ≤ c.loop-entry.left =
    subst (λ (own : List _). length own ≤ c.loop-entry.left) c.as_slice-own.ensures (omega arith) in
    rw c.as_slice-own.ensures
    (sym (time-past c.entry-item.result (drop (c.loop-entry.entry-index + 1) c.args.times.now) c.args.owner.0
    c.args.task.0 c.loop-entry.left own le)
    ∙ ap (λ (left : List TaskTimes). slice_get (times_of left c.args.owner.0 c.args.task.0) c.loop-entry.left)
    (sym cut)
    ∙ c.loop-entry.invariant)
