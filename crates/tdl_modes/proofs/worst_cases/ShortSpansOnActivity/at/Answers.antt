-- A task that is there.
use Rattle.std.proofs.Common.{◌∙◌, ◌-◌, Bool, nat_lt, sym, ap, ap₂}
use Rattle.std.specs.List.{list_any}
use Rattle.tdl_tree.specs.declared.declarations.Tree.{Tree}
use Rattle.tdl_rules.specs.declared.fault.Fault.{Fault}
use Rattle.tdl_rules.specs.Earliest.{earliest}
use Rattle.tdl_rules.specs.Naming.{TaskMeant, as_task, meant}
use Rattle.tdl_rules.specs.Parts.{broken, fault_if}
use Rattle.tdl_rules.specs.Times.{Let, lets, time_us}
use Rattle.tdl_modes.proofs.ShortTimes.{c17_what-there}
use Rattle.tdl_modes.proofs.worst_cases.ShortSpansOnActivity.at.Goals as goal

pub returns-in-Some : goal.returns-in-Some
returns-in-Some c =
    let scope = c.args.scope.now in
    let period = time_us c.args.period.now in
    let act = c.args.act.now in
    let there = c.in-Some.ensures ∙ ap (λ (tree : Tree). as_task (meant tree c.in-Task.task.text)) c.module.ensures in
    let short = c.has_short-is_short.ensures
    ∙ ap (λ (t : TaskMeant). list_any (λ (span : Let). nat_lt (span.e - span.s) (time_us t.worst)) (lets period act)) c.invoked.view_is in
    let fault = c.broken.ensures ∙ ap (broken 17 scope.file) c.spot_of.ensures in
    c.note_if.ensures ∙ ap₂ (λ (b : Bool) (f : Fault). earliest c.args.best.now (fault_if b f)) short fault
    ∙ ap (earliest c.args.best.now) (sym (c17_what-there scope period act c.in-Task.task c.in-Task.args c.in-Some.invoked c.in-Task.is (sym there)))
