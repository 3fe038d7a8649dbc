use Rattle.std.proofs.Common.{◌≡◌, ◌++◌, length, take, drop, Some, refl, ◌∙◌, rules}
use Rattle.tdl_task.specs.declared.slot.Slot.TheVariants as job
use Rattle.tdl_task.specs.Jobs.{outputs_of_cells}
use Rattle.tdl_host.proofs.ListSteps.{written-back}
use Rattle.tdl_host.proofs.JobLemmas.{commits}
use Rattle.tdl_host.proofs.task.TaskState.end.Goals as goal

pub returns-in-Done-clause-committed : goal.returns-in-Done-clause-committed
returns-in-Done-clause-committed c _ =
    let was : c.self.inside.slot ≡ Some (job.Done c.in-Done.done) = search rules in
    let now : c.put-in-Done.new.place ≡ Some (job.Idle c.commit-idle.result) = search rules in
    let count : c.self.inside.outputs.len ≡ length c.commit-idle.new.outputs = search rules in
    let outputs : take c.self.inside.outputs.len
    (c.commit-idle.new.outputs ++ drop (length c.commit-idle.new.outputs) c.self.inside.outputs.items)
    ≡ outputs_of_cells c.in-Done.done.held =
    written-back c.self.inside.outputs.len c.commit-idle.new.outputs
    (drop (length c.commit-idle.new.outputs) c.self.inside.outputs.items) count
    ∙ c.commit-idle.ensures.outputs in
    commits _ c.args.self.now c.self.inside.slot c.put-in-Done.new.place c.in-Done.done c.commit-idle.result _
    c.self.view_is refl was now outputs
