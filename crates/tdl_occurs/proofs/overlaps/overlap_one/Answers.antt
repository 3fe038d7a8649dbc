-- An activity of the same task, of another, and of none.
use Rattle.std.proofs.Common.{◌∙◌, List, sym, ap}
use Rattle.tdl_tree.specs.declared.activities.ActKind.{ActKind}
use Rattle.tdl_tree.specs.declared.declarations.Tree.{Tree}
use Rattle.tdl_rules.specs.ModeRules.{Invoked, overlap, invoked}
use Rattle.tdl_rules.specs.Naming.{TaskMeant, as_task, meant}
use Rattle.tdl_rules.specs.Times.{Let, time_us, lets}
use Rattle.tdl_slots.specs.Choices.{spans_in}
use Rattle.tdl_occurs.specs.Invocations.{is_met, spans_overlap, invocations}
use Rattle.tdl_occurs.proofs.Pairs.{meets-none}
use Rattle.tdl_occurs.proofs.SameTask.{same_task, other_task, invoked-there, invoked-lost}
use Rattle.tdl_occurs.proofs.overlaps.overlap_one.Goals as goal

pub returns-in_default : goal.returns-in_default
returns-in_default c =
    let scope = c.args.scope.now in
    let items = invocations c.args.task c.args.name.now (spans_in c.args.spans.now) in
    let lost = c.in_default.ensures ∙ ap (λ (tree : Tree). as_task (meant tree c.in-Task.other.text)) c.module.ensures in
    sym (ap (λ (z : List Invoked). is_met overlap z items)
    (invoked-lost scope (time_us c.args.period.now) c.args.earlier.now c.in-Task.other c.in-Task.args c.in-Task.is (sym lost))
    ∙ meets-none overlap items)

pub returns-then-invoked-task : goal.returns-then-invoked-task
returns-then-invoked-task c =
    let scope = c.args.scope.now in
    let period = time_us c.args.period.now in
    let items = invocations c.args.task c.args.name.now (spans_in c.args.spans.now) in
    let there = c.in-Some.ensures ∙ ap (λ (tree : Tree). as_task (meant tree c.in-Task.other.text)) c.module.ensures in
    let number = ap (λ (t : TaskMeant). t.number) c.invoked.view_is in
    other_task c.invoked.inside.number c.in-Some.invoked.number c.args.task c.in-Task.other c.args.name.now
    (lets period c.args.earlier.now) (spans_in c.args.spans.now) number c.if-invoked-task.true
    ∙ sym (ap (λ (z : List Invoked). is_met overlap z items)
    (invoked-there scope period c.args.earlier.now c.in-Task.other c.in-Task.args c.in-Some.invoked c.in-Task.is (sym there)))

pub returns-else-invoked-task : goal.returns-else-invoked-task
returns-else-invoked-task c =
    let scope = c.args.scope.now in
    let period = time_us c.args.period.now in
    let items = invocations c.args.task c.args.name.now (spans_in c.args.spans.now) in
    let there = c.in-Some.ensures ∙ ap (λ (tree : Tree). as_task (meant tree c.in-Task.other.text)) c.module.ensures in
    let number = ap (λ (t : TaskMeant). t.number) c.invoked.view_is in
    c.any_span.ensures
    ∙ ap (λ (z : List Let). is_met spans_overlap z (spans_in c.args.spans.now)) c.chosen_by.ensures.spans
    ∙ same_task c.invoked.inside.number c.in-Some.invoked.number c.args.task c.in-Task.other c.args.name.now
    (lets period c.args.earlier.now) (spans_in c.args.spans.now) number c.if-invoked-task.false
    ∙ sym (ap (λ (z : List Invoked). is_met overlap z items)
    (invoked-there scope period c.args.earlier.now c.in-Task.other c.in-Task.args c.in-Some.invoked c.in-Task.is (sym there)))

pub returns-in-Update : goal.returns-in-Update
returns-in-Update c =
    let items = invocations c.args.task c.args.name.now (spans_in c.args.spans.now) in
    sym (ap (λ (what : ActKind). is_met overlap (invoked c.args.scope.now (time_us c.args.period.now) c.args.earlier.now what) items) c.in-Update.is
    ∙ meets-none overlap items)

pub returns-in-Switch : goal.returns-in-Switch
returns-in-Switch c =
    let items = invocations c.args.task c.args.name.now (spans_in c.args.spans.now) in
    sym (ap (λ (what : ActKind). is_met overlap (invoked c.args.scope.now (time_us c.args.period.now) c.args.earlier.now what) items) c.in-Switch.is
    ∙ meets-none overlap items)
