use Rattle.std.proofs.Common.{refl}
use Rattle.std.proofs.lemmas.Result.{err_from_is_err_and, on_ok_weaker, IfErr-weaker}
use Rattle.tdl_make.proofs.Spelled.{plain_spellable}
use Rattle.tdl_words.specs.declared.words.Call.TheVariants.{Compile}
use Rattle.tdl_top.proofs.InputsSay.{input_not_ok, input_no_save}
use Rattle.tdl_top.proofs.Saying.{says_input, says_save, others_since}
use Rattle.tdl_top.proofs.Reported.{told_quiet}
use Rattle.tdl_top.proofs.top.compile_sources.Goals as goal

pub returns-in_err-bundle-clause-refused : goal.returns-in_err-bundle-clause-refused
returns-in_err-bundle-clause-refused g c = λ out silent.
    let p = err_from_is_err_and c.from_residual.result c.from_residual.ensures.1 in
    rw (p.1, p.2)
    (says_input _ _ out (Compile c.args.count c.args.place) _ c.read_sources.ensures.loads.held silent
    (c.in_err-bundle.ensures.refused (Compile c.args.count c.args.place) refl))

pub returns-in_err-bundle-clause-not_ok : goal.returns-in_err-bundle-clause-not_ok
returns-in_err-bundle-clause-not_ok g c =
    let p = err_from_is_err_and c.from_residual.result c.from_residual.ensures.1 in
    rw (p.1, p.2)
    (input_not_ok _ _ (Compile c.args.count c.args.place) _
    (c.in_err-bundle.ensures.refused (Compile c.args.count c.args.place) refl))

pub returns-in_err-bundle-clause-told : goal.returns-in_err-bundle-clause-told
returns-in_err-bundle-clause-told g c =
    let p = err_from_is_err_and c.from_residual.result c.from_residual.ensures.1 in
    rw (p.1, p.2)
    (told_quiet _ _ _
    (input_no_save _ _ (Compile c.args.count c.args.place) _
    (c.in_err-bundle.ensures.refused (Compile c.args.count c.args.place) refl))
    (record { contents = refl; count = refl }))

pub save_bundle-requires : goal.save_bundle-requires
save_bundle-requires g c = plain_spellable c.in_ok-bundle.bundle c.in_ok-bundle.ensures.plain

pub returns-clause-ok : goal.returns-clause-ok
returns-clause-ok g c = λ out silent.
    on_ok_weaker c.save_bundle.result (λ saved.
    record {
      bundle = c.in_ok-bundle.bundle;
      has = c.in_ok-bundle.ensures.ok;
      leaves = (
        saved,
        others_since (g.F.Files.told c.args.files.now) (g.F.Files.told c.read_sources.new.files) _ _
            c.read_sources.ensures.loads c.save_bundle.ensures.others,
      );
      prints = silent;
    }) c.save_bundle.ensures.ok

pub returns-clause-refused : goal.returns-clause-refused
returns-clause-refused g c = λ out silent.
    IfErr-weaker c.save_bundle.result _ _ (λ status says.
    says_save (g.F.Files.told c.args.files.now) (g.F.Files.told c.read_sources.new.files)
    (g.F.Files.told c.save_bundle.new.files) _ out (Compile c.args.count c.args.place)
    c.in_ok-bundle.bundle c.args.place status
    c.read_sources.ensures.loads c.in_ok-bundle.ensures.ok tt refl
    c.save_bundle.ensures.others silent says)
    c.save_bundle.ensures.refused
