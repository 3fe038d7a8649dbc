-- An activity whose task is there.
use Rattle.std.proofs.Common.{◌∙◌, ℕ, Bool, [], ◌∷◌, sym, ap, ap₂}
use Rattle.tdl_tree.specs.declared.activities.Act.{Act}
use Rattle.tdl_tree.specs.declared.declarations.Tree.{Tree}
use Rattle.tdl_rules.specs.declared.fault.Fault.{Fault}
use Rattle.tdl_rules.specs.Earliest.{earliest}
use Rattle.tdl_rules.specs.Lists.{each}
use Rattle.tdl_rules.specs.ModeRules.{overlap, invoked}
use Rattle.tdl_rules.specs.Naming.{TaskMeant, as_task, meant, spot_of}
use Rattle.tdl_rules.specs.Parts.{broken, fault_if}
use Rattle.tdl_rules.specs.Times.{time_us}
use Rattle.tdl_slots.specs.Choices.{spans_in}
use Rattle.tdl_occurs.specs.Invocations.{is_met, invocations}
use Rattle.tdl_occurs.proofs.Repeated.{idle_at, alone}
use Rattle.tdl_occurs.proofs.SameTask.{activity_fault}
use Rattle.tdl_occurs.proofs.overlaps.of_activity.Goals as goal

pub returns-then-is_past : goal.returns-then-is_past
returns-then-is_past c =
    let scope = c.args.scope.now in
    let period = time_us c.args.period.now in
    let before = each (λ (a : Act). invoked scope period a a.what) c.args.earlier.now in
    let there = c.in-Some.ensures ∙ ap (λ (tree : Tree). as_task (meant tree c.in-Task.task.text)) c.module.ensures in
    let fault = c.broken-fault.ensures ∙ ap (broken 13 scope.file) c.spot_of.ensures in
    idle_at c.args.best.now c.broken-fault.result (broken 13 scope.file (spot_of c.in-Task.task))
    (is_met overlap before (invocations c.in-Some.invoked.number c.in-Task.task (spans_in c.chosen_by-spans.result))) fault
    (c.is_past.ensures.idle c.if-is_past.true (c.broken-fault.result ∷ []) (alone c.broken-fault.result))
    ∙ sym (activity_fault scope period before c.args.act.now c.in-Task.task c.in-Task.args c.in-Some.invoked c.chosen_by-spans.result
    c.args.best.now c.in-Task.is (sym there) c.chosen_by-spans.ensures.spans)

pub returns-else-is_past : goal.returns-else-is_past
returns-else-is_past c =
    let scope = c.args.scope.now in
    let period = time_us c.args.period.now in
    let before = each (λ (a : Act). invoked scope period a a.what) c.args.earlier.now in
    let there = c.in-Some.ensures ∙ ap (λ (tree : Tree). as_task (meant tree c.in-Task.task.text)) c.module.ensures in
    let fault = c.broken-fault.ensures ∙ ap (broken 13 scope.file) c.spot_of.ensures in
    let number = ap (λ (t : TaskMeant). t.number) c.invoked.view_is in
    let overlaps = c.overlap_any-overlaps.ensures
    ∙ ap (λ (n : ℕ). is_met overlap before (invocations n c.in-Task.task (spans_in c.chosen_by-spans.result))) number in
    c.note_if.ensures ∙ ap₂ (λ (b : Bool) (f : Fault). earliest c.args.best.now (fault_if b f)) overlaps fault
    ∙ sym (activity_fault scope period before c.args.act.now c.in-Task.task c.in-Task.args c.in-Some.invoked c.chosen_by-spans.result
    c.args.best.now c.in-Task.is (sym there) c.chosen_by-spans.ensures.spans)
