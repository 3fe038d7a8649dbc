use Rattle.std.proofs.Common.{◌≡◌, List, [], length, take, set, slice_get, Some, refl, ap, ap₂, sym, ◌∙◌}
use Rattle.std.specs.Prelude.{unwrap_or, slice_index_or}
use Rattle.std.proofs.lemmas.Option.{same_Some}
use Rattle.tdl_base.specs.Lists.{changed_at}
use Rattle.tdl_base.specs.Sensed.{sensed_at}
use Rattle.tdl_mode.specs.States.{TaskState}
use Rattle.tdl_logic.specs.declared.task_now.Origin.{Origin}
use Rattle.tdl_logic.specs.Looks.{look_at}
use Rattle.tdl_logic.specs.Releases.{release_here}
use Rattle.tdl_logic.specs.Standing.{with_job}
use Rattle.tdl_logic.proofs.Placing.{there, there-or, changed_at-kept, changed_at-set}
use Rattle.tdl_logic.proofs.Releasing.{released-prepared, arguments-of, prepared-length}
use Rattle.tdl_logic.proofs.release.release.Goals as goal

pub returns-then-not-prepare : goal.returns-then-not-prepare
returns-then-not-prepare c =
    let k = c.args.owner.0 in
    let all = c.args.tasks.now in
    let look = look_at k (sensed_at c.args.sensed.now) all in
    let here = there-or all k [] c.requires.there in
    sym (changed_at-kept k (release_here c.args.moment.now look c.args.number c.args.invocation.now) all
    (λ tasks at.
    let same : unwrap_or (slice_get all k) [] ≡ tasks = same_Some _ _ (sym here ∙ at) in
    ap (λ (ts : List TaskState). release_here c.args.moment.now look c.args.number c.args.invocation.now ts) (sym same)
    ∙ c.if-not-prepare.ensures.no c.args.number ∙ same))

pub start-requires : goal.start-requires
start-requires c u at =
    let k = c.args.owner.0 in
    let t = c.args.invocation.now.task.0 in
    let all : List (List TaskState) = c.args.tasks.now in
    let own : List TaskState = c.index-tasks-from.result in
    let look = look_at k (sensed_at c.args.sensed.now) all in
    let own-at : slice_get all k ≡ Some own =
    there all k own c.requires.there (c.index-tasks-from.is ∙ ap (λ n. slice_index_or all n own) c.from.ensures) in
    let mine : List TaskState = unwrap_or (slice_get all k) [] in
    let same : mine ≡ own = same_Some mine own (sym (there-or all k [] c.requires.there) ∙ own-at) in
    let here : slice_get own t ≡ Some u = ap (λ (ts : List TaskState). slice_get ts t) c.index-tasks-from.is ∙ at in
    ap (λ n. length (take n c.prepare.new.numbers)) c.len.ensures
    ∙ prepared-length c.args.moment.now look c.args.invocation.now mine c.prepare.new.numbers u
    c.if-not-prepare.ensures.yes (ap (λ (ts : List TaskState). slice_get ts t) same ∙ here)
    ∙ arguments-of c.args.invocation.now k all own u c.requires.arguments own-at here

pub returns : goal.returns
returns c =
    let k = c.args.owner.0 in
    let i = c.args.invocation.now in
    let all : List (List TaskState) = c.args.tasks.now in
    let own : List TaskState = c.index-tasks-from.result in
    let numbers = c.prepare.new.numbers in
    let look = look_at k (sensed_at c.args.sensed.now) all in
    let origin : Origin = record { mode = c.args.moment.now.mode; invocation = c.args.number } in
    let own-at : slice_get all k ≡ Some own =
    there all k own c.requires.there (c.index-tasks-from.is ∙ ap (λ n. slice_index_or all n own) c.from.ensures) in
    let mine : List TaskState = unwrap_or (slice_get all k) [] in
    let same : mine ≡ own = same_Some mine own (sym (there-or all k [] c.requires.there) ∙ own-at) in
    let now : c.start.new.self ≡ release_here c.args.moment.now look c.args.number i own =
    c.start.ensures
    ∙ ap₂ (λ n (ts : List TaskState). changed_at i.task.0 (with_job origin (take n numbers)) ts) c.len.ensures
    (sym c.index-tasks-from.is ∙ sym same)
    ∙ released-prepared c.args.moment.now look c.args.number i mine numbers origin c.if-not-prepare.ensures.yes refl
    ∙ ap (λ (ts : List TaskState). release_here c.args.moment.now look c.args.number i ts) same in
    ap₂ (λ n (ts : List TaskState). set all n ts) c.from.ensures now
    ∙ sym (changed_at-set k (release_here c.args.moment.now look c.args.number i) own all own-at)
