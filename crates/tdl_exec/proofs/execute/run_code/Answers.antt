use Rattle.std.proofs.Common.{sym, ap, ◌∙◌, subst}
use Rattle.tdl_stack.specs.Running.{StackState, no_outer, cells_after}
use Rattle.tdl_exec.specs.Going.{IsChecked, IsGoing, end_of}
use Rattle.tdl_exec.proofs.InStep.{begun_goes}
use Rattle.tdl_exec.proofs.execute.run_code.Goals as goal

pub finish-requires : goal.finish-requires
finish-requires c =
    subst IsGoing (sym (c.new-run.ensures c.args.cells.now))
    (begun_goes c.as_slice.result.now c.args.cells.now (subst IsChecked (sym c.as_slice.ensures) c.requires))

pub returns : goal.returns
returns c =
    ap (λ (s : StackState). s.cells)
    (c.finish.ensures ∙ ap (end_of no_outer) (c.new-run.ensures c.args.cells.now))
    ∙ ap (λ code. cells_after code c.args.cells.now) c.as_slice.ensures
