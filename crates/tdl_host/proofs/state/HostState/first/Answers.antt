use Rattle.std.proofs.Common.{◌≡◌, List, ℤ, map, Some, None, ap, ap₂, ◌∙◌}
use Rattle.tdl_image.specs.declared.bundle.Initial.{Initial}
use Rattle.tdl_image.specs.declared.hosted.TaskTable.{TaskTable}
use Rattle.tdl_verify.specs.States.{TaskNow, Part, task_first, initial_values}
use Rattle.tdl_host.specs.Hosts.{TaskView, states_of, tables_of}
use Rattle.tdl_host.proofs.StateLemmas.{first-states, first-tables}
use Rattle.tdl_host.proofs.state.HostState.first.Goals as goal

pub invariant_of-result : goal.invariant_of-result
invariant_of-result c = (
  c.requires,
  ap (λ (us : List TaskView). tables_of us) c.in_ok-tasks.ensures
      ∙ first-tables c.as_slice.result.now
      ∙ c.as_slice.ensures,
)

pub returns-clause-now : goal.returns-clause-now
returns-clause-now c =
    let tasks : states_of c.in_ok-tasks.tasks.items ≡ map task_first c.args.hosted.now.tasks =
    ap (λ (us : List TaskView). states_of us) c.in_ok-tasks.ensures
    ∙ first-states c.as_slice.result.now
    ∙ ap (λ (ts : List TaskTable). map task_first ts) c.as_slice.ensures in
    let actuators : c.in_ok-actuators.actuators.items ≡ initial_values c.args.hosted.now.actuators =
    c.in_ok-actuators.ensures ∙ ap (λ (ports : List Initial). initial_values ports) c.as_slice-2.ensures in
    ap₂
    (λ (ts : List TaskNow) (vs : List ℤ). Part.Host c.args.hosted.now (record {
      mode = None;
      base = 0;
      trigger = Some (record { at = 0; block = c.args.hosted.now.entry });
      tasks = ts;
      actuators = vs;
    }))
    tasks actuators
