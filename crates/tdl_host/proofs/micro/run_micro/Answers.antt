use Rattle.std.proofs.Common.{◌≡◌, ◌∷◌, rules, [], List, sym, ap, ◌∙◌, filter}
use Rattle.tdl_image.specs.declared.hosted.ImageWindow.{ImageWindow}
use Rattle.tdl_verify.specs.States.{TaskNow}
use Rattle.tdl_verify.specs.Micros.{is_live, tasks_run}
use Rattle.std.specs.Option.{option_to_list}
use Rattle.tdl_host.proofs.CountLemmas.{run-counted}
use Rattle.tdl_host.proofs.MicroLemmas.{tasks_run-idle}
use Rattle.tdl_host.proofs.micro.run_micro.Goals as goal

pub returns-in_default-clause-ok : goal.returns-in_default-clause-ok
returns-in_default-clause-ok c =
    let none : filter (is_live c.args.at c.args.state.now.now) c.args.state.now.host.windows ≡ [] =
    c.in_ok-window.ensures.ok ∙ ap option_to_list c.in_default.is in
    ap (λ (ts : List TaskNow). record c.args.state.now.now { tasks = ts })
    (sym (ap (λ (ws : List ImageWindow). tasks_run ws c.args.state.now.host.tasks c.args.state.now.now.tasks) none
    ∙ tasks_run-idle c.args.state.now.host.tasks c.args.state.now.now.tasks))

pub returns-clause-released : goal.returns-clause-released
returns-clause-released c bound n =
    let work : c.work.new.self.now
    ≡ record c.args.state.now.now
    { tasks = tasks_run (c.in-Some.window ∷ []) c.args.state.now.host.tasks c.args.state.now.now.tasks } =
    search rules in
    run-counted bound (c.in-Some.window ∷ []) c.args.state.now.host.tasks c.args.state.now.now c.work.new.self.now work
    n
