use Rattle.std.proofs.Common.{◌≡◌, ◌+◌, ◌≤◌, length, ap, ◌∙◌, arith}
use Rattle.tdl_task.specs.Jobs.{HeldCells}
use Rattle.tdl_task.proofs.Released.{released-length}
use Rattle.tdl_task.proofs.held.Held.release.Goals as goal

pub invariant_of-result : goal.invariant_of-result
invariant_of-result c =
    let ins : c.self.inside.inputs ≡ c.args.self.task.inputs = ap (λ (h : HeldCells). h.task.inputs) c.self.view_is in
    let outs : c.self.inside.outputs ≡ c.args.self.task.outputs = ap (λ (h : HeldCells). h.task.outputs) c.self.view_is in
    let kinds : length c.as_slice.result.now ≡ length c.self.inside.kinds = ap length c.as_slice.ensures in
    let room : length c.args.inputs.now + length c.args.outputs.now ≤ length c.as_slice.result.now =
    omega (arith, ins, outs, kinds, c.requires.inputs, c.requires.outputs, c.self.invariant.1) in (
      ap length c.put_released.ensures
          ∙ released-length c.as_slice.result.now c.args.inputs.now c.args.outputs.now room
          ∙ kinds,
      c.self.invariant.1,
    )
