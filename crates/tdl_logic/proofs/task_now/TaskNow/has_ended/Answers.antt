use Rattle.std.proofs.Common.{ap, sym, ◌∙◌, false, List, ℤ}
use Rattle.std.specs.Prelude.{option_map, unwrap_or}
use Rattle.tdl_mode.specs.States.{TaskState}
use Rattle.tdl_mode.specs.Phases.{has_ended, job_ends}
use Rattle.tdl_logic.specs.Standing.{bare, job_of}
use Rattle.tdl_logic.proofs.task_now.TaskNow.has_ended.Goals as goal

pub returns-in-Some : goal.returns-in-Some
returns-in-Some c =
    let m = bare c.args.moment.now in
    let x = c.args.moment.now.at.0 in
    let inputs : List ℤ = c.self.inside.inputs.items in
    c.ends.ensures inputs
    ∙ ap (λ a. unwrap_or (option_map (job_ends m x) (option_map (job_of inputs) a)) false) (sym c.in-Some.is)
    ∙ ap (λ (u : TaskState). has_ended m x u) c.self.view_is
