use Rattle.std.proofs.Common.{◌≡◌, List, [], ◌∷◌, ◌++◌, length, map, take, drop, rules, ap, ◌∙◌}
use Rattle.tdl_image.specs.declared.hosted.TaskTable.{TaskTable}
use Rattle.tdl_verify.specs.States.{TaskNow, HostNow}
use Rattle.tdl_verify.specs.Micros.{tasks_run}
use Rattle.tdl_host.specs.Hosts.{TaskView, HostedNow, states_of, tables_of, worked_in}
use Rattle.tdl_host.proofs.ListSteps.{written-back}
use Rattle.tdl_host.proofs.MicroLemmas.{worked-states, worked-tables}
use Rattle.tdl_host.proofs.StateLemmas.{changed-now}
use Rattle.tdl_host.proofs.state.HostState.work.Goals as goal

pub invariant_of-self : goal.invariant_of-self
invariant_of-self c =
    let count : c.self.inside.tasks.len ≡ length c.work_all.new.tasks = search rules in
    let worked : c.work_all.new.tasks ≡ map (worked_in c.args.window.now) c.self.inside.tasks.items = search rules in
    let back : take c.self.inside.tasks.len
    (c.work_all.new.tasks ++ drop (length c.work_all.new.tasks) c.self.inside.tasks.items)
    ≡ map (worked_in c.args.window.now) c.self.inside.tasks.items =
    written-back c.self.inside.tasks.len c.work_all.new.tasks
    (drop (length c.work_all.new.tasks) c.self.inside.tasks.items) count
    ∙ worked in (
      c.self.invariant.0,
      ap (λ (us : List TaskView). tables_of us) back
          ∙ worked-tables c.args.window.now c.self.inside.tasks.items
          ∙ c.self.invariant.1,
    )

pub returns-clause-now : goal.returns-clause-now
returns-clause-now c =
    let count : c.self.inside.tasks.len ≡ length c.work_all.new.tasks = search rules in
    let worked : c.work_all.new.tasks ≡ map (worked_in c.args.window.now) c.self.inside.tasks.items = search rules in
    let back : take c.self.inside.tasks.len
    (c.work_all.new.tasks ++ drop (length c.work_all.new.tasks) c.self.inside.tasks.items)
    ≡ map (worked_in c.args.window.now) c.self.inside.tasks.items =
    written-back c.self.inside.tasks.len c.work_all.new.tasks
    (drop (length c.work_all.new.tasks) c.self.inside.tasks.items) count
    ∙ worked in
    changed-now _ _ c.self.view_is (λ (s : HostNow) (ts : List TaskNow). record s { tasks = ts })
    (states_of (take c.self.inside.tasks.len
    (c.work_all.new.tasks ++ drop (length c.work_all.new.tasks) c.self.inside.tasks.items)))
    (λ (z : HostedNow). tasks_run (c.args.window.now ∷ []) z.host.tasks z.now.tasks)
    (ap (λ (us : List TaskView). states_of us) back
    ∙ worked-states c.args.window.now c.self.inside.tasks.items
    ∙ ap (λ (ts : List TaskTable). tasks_run (c.args.window.now ∷ []) ts (states_of c.self.inside.tasks.items))
    c.self.invariant.1)
