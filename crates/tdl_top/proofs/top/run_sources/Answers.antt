use Rattle.std.proofs.Common.{refl, ◌∙◌}
use Rattle.std.proofs.lemmas.Result.{err_from_is_err_and, on_ok_weaker, IfErr-weaker}
use Rattle.tdl_make.proofs.Spelled.{plain_spellable}
use Rattle.tdl_words.specs.declared.words.Call.TheVariants.{Run}
use Rattle.tdl_words.specs.Words.{texts, word_at}
use Rattle.tdl_report.specs.Calls.{files_call}
use Rattle.tdl_top.proofs.Loading.{loads_then}
use Rattle.tdl_top.proofs.InputsSay.{says_earlier, input_not_ok, input_no_save, scenario_since, bundle_still}
use Rattle.tdl_verify.specs.Texts.{bundle_names}
use Rattle.tdl_top.proofs.Done.{lawful_for}
use Rattle.tdl_top.proofs.Saying.{says_input, says_save, says_done, says_part, others_since, save_not_ok, print_not_ok, print_no_save}
use Rattle.tdl_top.proofs.Reported.{told_quiet}
use Rattle.tdl_top.proofs.top.run_sources.Goals as goal

pub returns-in_err-bundle-clause-refused : goal.returns-in_err-bundle-clause-refused
returns-in_err-bundle-clause-refused g c =
    let p = err_from_is_err_and c.from_residual.result c.from_residual.ensures.1 in
    rw (p.1, p.2)
    (says_input _ _ _ (Run c.args.count c.args.place c.args.at) _ c.read_sources.ensures.loads.held refl
    (c.in_err-bundle.ensures.refused (Run c.args.count c.args.place c.args.at) refl))

pub returns-in_err-bundle-clause-not_ok : goal.returns-in_err-bundle-clause-not_ok
returns-in_err-bundle-clause-not_ok g c =
    let p = err_from_is_err_and c.from_residual.result c.from_residual.ensures.1 in
    rw (p.1, p.2)
    (input_not_ok _ _ (Run c.args.count c.args.place c.args.at) _
    (c.in_err-bundle.ensures.refused (Run c.args.count c.args.place c.args.at) refl))

pub returns-in_err-bundle-clause-told : goal.returns-in_err-bundle-clause-told
returns-in_err-bundle-clause-told g c =
    let p = err_from_is_err_and c.from_residual.result c.from_residual.ensures.1 in
    rw (p.1, p.2) (told_quiet _ _ _ (input_no_save _ _ (Run c.args.count c.args.place c.args.at) _
    (c.in_err-bundle.ensures.refused (Run c.args.count c.args.place c.args.at) refl))
    (record { contents = refl; count = refl }))

pub returns-in_err-scenario-clause-refused : goal.returns-in_err-scenario-clause-refused
returns-in_err-scenario-clause-refused g c =
    let p = err_from_is_err_and c.from_residual-in_err-scenario.result c.from_residual-in_err-scenario.ensures.1 in
    rw (p.1, p.2)
    (says_input _ _ _ (Run c.args.count c.args.place c.args.at) _ (c.read_scenario.ensures.loads.held
    ∙ c.read_sources.ensures.loads.held) refl
    (says_earlier (g.F.Files.told c.args.files.now) (g.F.Files.told c.read_sources.new.files)
    (g.F.Files.told c.read_scenario.new.files) _ (Run c.args.count c.args.place c.args.at) _
    c.read_sources.ensures.loads
    (c.in_err-scenario.ensures.refused (Run c.args.count c.args.place c.args.at) refl
    (bundle_still (g.F.Files.told c.args.files.now) (g.F.Files.told c.read_sources.new.files) _
    (Run c.args.count c.args.place c.args.at) _ c.read_sources.ensures.loads
    c.in_ok-bundle.ensures.ok))))

pub returns-in_err-scenario-clause-not_ok : goal.returns-in_err-scenario-clause-not_ok
returns-in_err-scenario-clause-not_ok g c =
    let p = err_from_is_err_and c.from_residual-in_err-scenario.result c.from_residual-in_err-scenario.ensures.1 in
    rw (p.1, p.2) (input_not_ok _ _ (Run c.args.count c.args.place c.args.at) _
    (c.in_err-scenario.ensures.refused (Run c.args.count c.args.place c.args.at) refl
    (bundle_still (g.F.Files.told c.args.files.now) (g.F.Files.told c.read_sources.new.files) _
    (Run c.args.count c.args.place c.args.at) _ c.read_sources.ensures.loads
    c.in_ok-bundle.ensures.ok)))

pub returns-in_err-scenario-clause-told : goal.returns-in_err-scenario-clause-told
returns-in_err-scenario-clause-told g c =
    let p = err_from_is_err_and c.from_residual-in_err-scenario.result c.from_residual-in_err-scenario.ensures.1 in
    rw (p.1, p.2) (told_quiet _ _ _ (input_no_save _ _ (Run c.args.count c.args.place c.args.at) _
    (c.in_err-scenario.ensures.refused (Run c.args.count c.args.place c.args.at) refl
    (bundle_still (g.F.Files.told c.args.files.now) (g.F.Files.told c.read_sources.new.files) _
    (Run c.args.count c.args.place c.args.at) _ c.read_sources.ensures.loads
    c.in_ok-bundle.ensures.ok))) (record { contents = refl; count = refl }))

pub save_bundle-requires : goal.save_bundle-requires
save_bundle-requires g c = plain_spellable c.in_ok-bundle.bundle c.in_ok-bundle.ensures.plain

pub returns-in_err-save_bundle-clause-refused : goal.returns-in_err-save_bundle-clause-refused
returns-in_err-save_bundle-clause-refused g c =
    let p = err_from_is_err_and c.from_residual-in_err-save_bundle.result c.from_residual-in_err-save_bundle.ensures.1
    in
    rw (p.1, p.2)
    (says_save (g.F.Files.told c.args.files.now) (g.F.Files.told c.read_scenario.new.files)
    (g.F.Files.told c.save_bundle.new.files) _ _ (Run c.args.count c.args.place c.args.at)
    c.in_ok-bundle.bundle c.args.place _
    (loads_then (g.F.Files.told c.args.files.now) (g.F.Files.told c.read_sources.new.files)
    (g.F.Files.told c.read_scenario.new.files) c.read_sources.ensures.loads c.read_scenario.ensures.loads)
    c.in_ok-bundle.ensures.ok (
      c.in_ok-scenario.scenario,
      (scenario_since (g.F.Files.told c.args.files.now) (g.F.Files.told c.read_sources.new.files) _ _ _ _
          c.read_sources.ensures.loads c.in_ok-scenario.ensures.ok),
    )
    refl c.save_bundle.ensures.others refl c.in_err-save_bundle.ensures.refused)

pub returns-clause-ok : goal.returns-clause-ok
returns-clause-ok g c =
    on_ok_weaker c.print_run.result (λ printed.
    says_done _ _ _ (Run c.args.count c.args.place c.args.at) c.in_ok-bundle.bundle c.args.at c.in_ok-scenario.scenario
    c.in_ok-bundle.ensures.ok (
      c.in_ok-save_bundle.ensures.ok,
      others_since (g.F.Files.told c.args.files.now) (g.F.Files.told c.read_scenario.new.files) _ _
          (loads_then (g.F.Files.told c.args.files.now) (g.F.Files.told c.read_sources.new.files)
          (g.F.Files.told c.read_scenario.new.files) c.read_sources.ensures.loads c.read_scenario.ensures.loads)
          c.save_bundle.ensures.others,
    ) refl
    (scenario_since (g.F.Files.told c.args.files.now) (g.F.Files.told c.read_sources.new.files) _ _ _ _
    c.read_sources.ensures.loads c.in_ok-scenario.ensures.ok) printed)
    c.print_run.ensures.ok

pub returns-clause-refused : goal.returns-clause-refused
returns-clause-refused g c =
    IfErr-weaker c.print_run.result _ _ (λ status says.
    says_part _ _ _ (Run c.args.count c.args.place c.args.at)
    c.in_ok-bundle.bundle c.args.at c.in_ok-scenario.scenario status
    c.in_ok-bundle.ensures.ok (
      c.in_ok-save_bundle.ensures.ok,
      others_since (g.F.Files.told c.args.files.now) (g.F.Files.told c.read_scenario.new.files) _ _
          (loads_then (g.F.Files.told c.args.files.now) (g.F.Files.told c.read_sources.new.files)
          (g.F.Files.told c.read_scenario.new.files) c.read_sources.ensures.loads c.read_scenario.ensures.loads)
          c.save_bundle.ensures.others,
    ) refl
    (scenario_since (g.F.Files.told c.args.files.now) (g.F.Files.told c.read_sources.new.files) _ _ _ _
    c.read_sources.ensures.loads c.in_ok-scenario.ensures.ok) says)
    c.print_run.ensures.refused

pub returns-in_err-save_bundle-clause-not_ok : goal.returns-in_err-save_bundle-clause-not_ok
returns-in_err-save_bundle-clause-not_ok g c =
    let p = err_from_is_err_and c.from_residual-in_err-save_bundle.result c.from_residual-in_err-save_bundle.ensures.1
    in
    rw (p.1, p.2)
    (save_not_ok (files_call g.F.Files.told c.read_scenario.new.files c.save_bundle.new.files)
    (word_at (texts c.args.words.now) c.args.place) c.args.place _ c.in_err-save_bundle.ensures.refused)

pub returns-in_err-save_bundle-clause-told : goal.returns-in_err-save_bundle-clause-told
returns-in_err-save_bundle-clause-told g c =
    let p = err_from_is_err_and c.from_residual-in_err-save_bundle.result c.from_residual-in_err-save_bundle.ensures.1
    in
    rw (p.1, p.2) c.in_err-save_bundle.ensures.told

pub returns-clause-not_ok : goal.returns-clause-not_ok
returns-clause-not_ok g c =
    IfErr-weaker c.print_run.result _ _ (λ status says. print_not_ok _ _ status says) c.print_run.ensures.refused

pub returns-clause-told : goal.returns-clause-told
returns-clause-told g c =
    IfErr-weaker c.print_run.result _ _ (λ status says.
    told_quiet _ _ status (print_no_save _ _ status says) c.in_ok-save_bundle.ensures.quiet)
    c.print_run.ensures.refused

pub returns-clause-quiet : goal.returns-clause-quiet
returns-clause-quiet g c =
    on_ok_weaker c.print_run.result (λ printed. c.in_ok-save_bundle.ensures.quiet) c.print_run.ensures.ok

pub print_run-requires-clause-lawful : goal.print_run-requires-clause-lawful
print_run-requires-clause-lawful g c =
    lawful_for (bundle_names c.in_ok-bundle.bundle) c.in_ok-scenario.ensures.ok.bytes c.in_ok-scenario.scenario
    c.in_ok-scenario.ensures.ok.says
