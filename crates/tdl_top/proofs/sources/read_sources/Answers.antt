use Rattle.std.proofs.Common.{◌≤◌, ℕ, List, All, length, subst, sym}
use Rattle.std.proofs.lemmas.Result.{err_from_is_err_and, IfOk-weaker, IfErr-weaker}
use Rattle.tdl_base.specs.declared.limits.TheConstants.{SOURCES}
use Rattle.tdl_tree.specs.declared.declarations.Tree.{Tree}
use Rattle.tdl_words.specs.Words.{texts}
use Rattle.tdl_report.specs.Calls.{files_call}
use Rattle.tdl_top.specs.Loads.{FormSays}
use Rattle.tdl_top.specs.Taken.{SayBundle}
use Rattle.tdl_size.specs.Sized.{IsSized}
use Rattle.tdl_top.proofs.InTurn.{read_count, read_sized}
use Rattle.tdl_top.proofs.InputsSay.{sources_input, form_input}
use Rattle.tdl_top.proofs.sources.read_sources.Goals as goal

pub returns-in_err-trees-clause-refused : goal.returns-in_err-trees-clause-refused
returns-in_err-trees-clause-refused g c = λ call is.
    let p = err_from_is_err_and c.from_residual.result c.from_residual.ensures.1 in
    rw (p.1, p.2)
    (sources_input (files_call g.F.Files.told c.args.files.now c.read_trees.new.files) (texts c.args.words.now) call
    c.args.count c.in_err-trees.field-0.0 is c.in_err-trees.ensures.refused)

pub bundle_of-requires : goal.bundle_of-requires
bundle_of-requires g c =
    let counted = read_count (g.F.Files.told c.args.files.now).holds (texts c.args.words.now) c.args.count
    c.in_ok-trees.trees c.in_ok-trees.ensures.ok in
    let sized = read_sized (g.F.Files.told c.args.files.now).holds (texts c.args.words.now) c.args.count
    c.in_ok-trees.trees c.in_ok-trees.ensures.ok in
    record {
      few = subst (λ (trees : List Tree). length trees ≤ SOURCES) (sym c.as_slice.ensures)
          (subst (λ (n : ℕ). n ≤ SOURCES) (sym counted) c.requires);
      sized = subst (λ (trees : List Tree). All IsSized trees) (sym c.as_slice.ensures) sized;
    }

pub returns-clause-ok : goal.returns-clause-ok
returns-clause-ok g c =
    IfOk-weaker c.bundle_of.result _ _ (λ bundle say.
    record {
      trees = c.in_ok-trees.trees;
      read = c.in_ok-trees.ensures.ok;
      say = subst (λ (trees : List Tree). SayBundle trees bundle) c.as_slice.ensures say;
    }) c.bundle_of.ensures.ok

pub returns-clause-refused : goal.returns-clause-refused
returns-clause-refused g c = λ call is.
    IfErr-weaker c.bundle_of.result _ _ (λ status says.
    form_input (files_call g.F.Files.told c.args.files.now c.read_trees.new.files) (texts c.args.words.now) call
    c.args.count c.in_ok-trees.trees status is c.in_ok-trees.ensures.ok
    (subst (λ (trees : List Tree). FormSays trees status) c.as_slice.ensures says))
    c.bundle_of.ensures.refused
