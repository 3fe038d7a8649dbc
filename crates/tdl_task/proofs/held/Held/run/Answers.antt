use Rattle.std.proofs.Common.{◌≡◌, length, ap, sym, ◌∙◌, arith}
use Rattle.tdl_base.specs.Cells.{Cells}
use Rattle.tdl_task.specs.Jobs.{HeldCells}
use Rattle.tdl_task.proofs.KeptCells.{after-kinds, after-count}
use Rattle.tdl_task.proofs.held.Held.run.Goals as goal

pub invariant_of-result : goal.invariant_of-result
invariant_of-result c =
    let code = c.args.code.now.instrs in
    let kinds : c.into_parts-kinds.result.0 ≡ c.self.inside.kinds =
    c.into_parts-kinds.ensures.kinds ∙ ap (λ (x : Cells). x.kinds) c.run_code.ensures
    ∙ after-kinds code c.new-cells.result ∙ ap (λ (x : Cells). x.kinds) c.new-cells.ensures in
    let count : length c.into_parts-kinds.result.1 ≡ length c.self.inside.values =
    ap length c.into_parts-kinds.ensures.values ∙ ap (λ (x : Cells). length x.values) c.run_code.ensures
    ∙ after-count code c.new-cells.result ∙ ap (λ (x : Cells). length x.values) c.new-cells.ensures in
    let same : length c.into_parts-kinds.result.0 ≡ length c.self.inside.kinds = ap length kinds in
    (count ∙ c.self.invariant.0 ∙ sym same, omega (arith, same, c.self.invariant.1))

pub returns-clause-task : goal.returns-clause-task
returns-clause-task c =
    let kinds : c.into_parts-kinds.result.0 ≡ c.self.inside.kinds =
    c.into_parts-kinds.ensures.kinds ∙ ap (λ (x : Cells). x.kinds) c.run_code.ensures
    ∙ after-kinds c.args.code.now.instrs c.new-cells.result ∙ ap (λ (x : Cells). x.kinds) c.new-cells.ensures in
    ap (λ ks. record { kinds = ks; inputs = c.self.inside.inputs; outputs = c.self.inside.outputs }) kinds
    ∙ ap (λ (h : HeldCells). h.task) c.self.view_is
