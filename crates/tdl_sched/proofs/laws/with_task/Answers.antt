use Rattle.tdl_sched.proofs.laws.with_task.Goals as goal

pub returns : goal.returns
returns c = λ program m k n well is.
    let mode = (well.modules m is.owner is.owner_at).modes k is.mode is.mode_at in
    let invocation = mode.invocations n is.invocation is.invocation_at in
    record {
      owner = is.owner;
      mode = is.mode;
      invocation = is.invocation;
      task = invocation.definition;
      owner_at = is.owner_at;
      mode_at = is.mode_at;
      invocation_at = is.invocation_at;
      task_at = invocation.task;
    }
