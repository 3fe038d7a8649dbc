use Rattle.std.proofs.Common.{◌≡◌, Option, Some, rules, add-one, ap, ◌∙◌}
use Rattle.tdl_task.specs.declared.slot.Slot.{Slot as JobSlot}
use Rattle.tdl_task.specs.declared.slot.Slot.TheVariants as job
use Rattle.tdl_task.specs.Jobs.{ReadyJob, released}
use Rattle.tdl_verify.specs.States.{Slot}
use Rattle.tdl_host.specs.CheckedCodes.{cells_of_table}
use Rattle.tdl_host.specs.Hosts.{slot_now}
use Rattle.tdl_host.proofs.JobLemmas.{seated-slot, starts}
use Rattle.tdl_host.proofs.task.TaskState.start.Goals as goal

pub returns-in-Idle-clause-started : goal.returns-in-Idle-clause-started
returns-in-Idle-clause-started c =
    let was : c.self.inside.slot ≡ Some (job.Idle c.in-Idle.idle) = search rules in
    let now : c.put.new.place ≡ Some (job.Ready c.release-ready.result) = search rules in
    let cells : c.in-Idle.idle ≡ cells_of_table c.self.inside.table.now =
    seated-slot (cells_of_table c.self.inside.table.now) c.self.inside.slot (job.Idle c.in-Idle.idle)
    c.self.invariant.seated was in
    let outputs : c.deref.result.now ≡ c.self.inside.outputs.items = search rules in
    let slot : slot_now c.put.new.place
    ≡ Slot.Ready c.args.release.mode c.args.release.invocation c.args.time
    (released c.in-Idle.idle c.args.inputs.now c.deref.result.now) =
    ap (λ (o : Option JobSlot). slot_now o) now
    ∙ ap (λ (r : ReadyJob). slot_now (Some (job.Ready r))) c.release-ready.ensures in
    starts _ c.args.self.now c.args.release c.args.inputs.now c.deref.result.now (slot_now c.put.new.place) _
    c.args.time c.in-Idle.idle c.self.view_is c.requires.count c.self.invariant.count cells outputs slot
    (add-one c.self.inside.released)
