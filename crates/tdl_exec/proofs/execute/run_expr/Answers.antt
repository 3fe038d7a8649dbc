use Rattle.std.proofs.Common.{rules, w64, FitsSigned, to_z-of_z, sym, ap, ◌∙◌, subst}
use Rattle.tdl_stack.specs.Running.{StackState, newest, no_cells, code_value}
use Rattle.tdl_exec.specs.Going.{IsChecked, IsGoing, end_of}
use Rattle.tdl_exec.proofs.InStep.{begun_goes}
use Rattle.tdl_exec.proofs.execute.run_expr.Goals as goal

pub finish-requires : goal.finish-requires
finish-requires g c =
    subst IsGoing (sym (c.new-run.ensures no_cells))
    (begun_goes c.as_slice.result.now no_cells (subst IsChecked (sym c.as_slice.ensures) c.requires))

pub returns : goal.returns
returns g c =
    let fits : FitsSigned w64 c.into_number.result = search rules in
    to_z-of_z fits ∙ c.into_number.ensures
    ∙ ap (λ (s : StackState). newest s.stack)
    (c.finish.ensures ∙ ap (end_of (g.V.View.outer c.args.view.now)) (c.new-run.ensures no_cells))
    ∙ ap (code_value (g.V.View.outer c.args.view.now)) c.as_slice.ensures
