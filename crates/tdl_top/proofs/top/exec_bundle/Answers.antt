use Rattle.std.proofs.Common.{refl, ◌∙◌}
use Rattle.std.proofs.lemmas.Result.{err_from_is_err_and, on_ok_weaker, IfErr-weaker}
use Rattle.tdl_words.specs.declared.words.Call.TheVariants.{Exec}
use Rattle.tdl_top.proofs.InputsSay.{says_earlier, input_not_ok, input_no_save, scenario_since, bundle_still}
use Rattle.tdl_top.proofs.Done.{lawful_for}
use Rattle.tdl_top.proofs.Saying.{says_input, says_done, says_part, print_not_ok, print_no_save}
use Rattle.tdl_verify.specs.Texts.{bundle_names}
use Rattle.tdl_top.proofs.top.exec_bundle.Goals as goal

pub returns-in_err-bundle-clause-refused : goal.returns-in_err-bundle-clause-refused
returns-in_err-bundle-clause-refused g c =
    let p = err_from_is_err_and c.from_residual.result c.from_residual.ensures.1 in
    rw (p.1, p.2)
    (says_input _ _ _ (Exec c.args.at) _ c.read_bundle.ensures.loads.held refl
    (c.in_err-bundle.ensures.refused (Exec c.args.at) refl))

pub returns-in_err-bundle-clause-not_ok : goal.returns-in_err-bundle-clause-not_ok
returns-in_err-bundle-clause-not_ok g c =
    let p = err_from_is_err_and c.from_residual.result c.from_residual.ensures.1 in
    rw (p.1, p.2) (input_not_ok _ _ (Exec c.args.at) _ (c.in_err-bundle.ensures.refused (Exec c.args.at) refl))

pub returns-in_err-bundle-clause-not_save : goal.returns-in_err-bundle-clause-not_save
returns-in_err-bundle-clause-not_save g c =
    let p = err_from_is_err_and c.from_residual.result c.from_residual.ensures.1 in
    λ w. rw (p.1, p.2) (input_no_save _ _ (Exec c.args.at) _
    (c.in_err-bundle.ensures.refused (Exec c.args.at) refl) w)

pub returns-in_err-scenario-clause-refused : goal.returns-in_err-scenario-clause-refused
returns-in_err-scenario-clause-refused g c =
    let p = err_from_is_err_and c.from_residual-in_err-scenario.result c.from_residual-in_err-scenario.ensures.1 in
    rw (p.1, p.2)
    (says_input _ _ _ (Exec c.args.at) _ (c.read_scenario.ensures.loads.held
    ∙ c.read_bundle.ensures.loads.held) refl
    (says_earlier (g.F.Files.told c.args.files.now) (g.F.Files.told c.read_bundle.new.files)
    (g.F.Files.told c.read_scenario.new.files) _ (Exec c.args.at) _ c.read_bundle.ensures.loads
    (c.in_err-scenario.ensures.refused (Exec c.args.at) refl
    (bundle_still (g.F.Files.told c.args.files.now) (g.F.Files.told c.read_bundle.new.files) _ (Exec c.args.at) _
    c.read_bundle.ensures.loads c.in_ok-bundle.ensures.ok))))

pub returns-in_err-scenario-clause-not_ok : goal.returns-in_err-scenario-clause-not_ok
returns-in_err-scenario-clause-not_ok g c =
    let p = err_from_is_err_and c.from_residual-in_err-scenario.result c.from_residual-in_err-scenario.ensures.1 in
    rw (p.1, p.2) (input_not_ok _ _ (Exec c.args.at) _
    (c.in_err-scenario.ensures.refused (Exec c.args.at) refl
    (bundle_still (g.F.Files.told c.args.files.now) (g.F.Files.told c.read_bundle.new.files) _ (Exec c.args.at) _
    c.read_bundle.ensures.loads c.in_ok-bundle.ensures.ok)))

pub returns-in_err-scenario-clause-not_save : goal.returns-in_err-scenario-clause-not_save
returns-in_err-scenario-clause-not_save g c =
    let p = err_from_is_err_and c.from_residual-in_err-scenario.result c.from_residual-in_err-scenario.ensures.1 in
    λ w. rw (p.1, p.2) (input_no_save _ _ (Exec c.args.at) _
    (c.in_err-scenario.ensures.refused (Exec c.args.at) refl
    (bundle_still (g.F.Files.told c.args.files.now) (g.F.Files.told c.read_bundle.new.files) _ (Exec c.args.at) _
    c.read_bundle.ensures.loads c.in_ok-bundle.ensures.ok)) w)

pub returns-clause-ok : goal.returns-clause-ok
returns-clause-ok g c =
    on_ok_weaker c.print_run.result (λ printed.
    says_done _ _ _ (Exec c.args.at) c.in_ok-bundle.bundle c.args.at c.in_ok-scenario.scenario
    c.in_ok-bundle.ensures.ok
    (c.read_scenario.ensures.loads.held ∙ c.read_bundle.ensures.loads.held) refl
    (scenario_since (g.F.Files.told c.args.files.now) (g.F.Files.told c.read_bundle.new.files) _ _ _ _
    c.read_bundle.ensures.loads c.in_ok-scenario.ensures.ok) printed)
    c.print_run.ensures.ok

pub returns-clause-refused : goal.returns-clause-refused
returns-clause-refused g c =
    IfErr-weaker c.print_run.result _ _ (λ status says.
    says_part _ _ _ (Exec c.args.at) c.in_ok-bundle.bundle c.args.at c.in_ok-scenario.scenario status
    c.in_ok-bundle.ensures.ok
    (c.read_scenario.ensures.loads.held ∙ c.read_bundle.ensures.loads.held) refl
    (scenario_since (g.F.Files.told c.args.files.now) (g.F.Files.told c.read_bundle.new.files) _ _ _ _
    c.read_bundle.ensures.loads c.in_ok-scenario.ensures.ok) says)
    c.print_run.ensures.refused

pub print_run-requires-clause-lawful : goal.print_run-requires-clause-lawful
print_run-requires-clause-lawful g c =
    lawful_for (bundle_names c.in_ok-bundle.bundle) c.in_ok-scenario.ensures.ok.bytes c.in_ok-scenario.scenario
    c.in_ok-scenario.ensures.ok.says

pub returns-clause-not_ok : goal.returns-clause-not_ok
returns-clause-not_ok g c =
    IfErr-weaker c.print_run.result _ _ (λ status says. print_not_ok _ _ status says) c.print_run.ensures.refused

pub returns-clause-not_save : goal.returns-clause-not_save
returns-clause-not_save g c = λ w.
    IfErr-weaker c.print_run.result _ _ (λ status says. print_no_save _ _ status says w) c.print_run.ensures.refused
