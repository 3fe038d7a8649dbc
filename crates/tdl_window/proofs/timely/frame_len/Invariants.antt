use Rattle.std.proofs.Common.{◌≡◌, ◌+◌, ◌*◌, ◌≤◌, map, sum, drop}
use Rattle.tdl_base.specs.Numbers.{width_of}
use Rattle.tdl_deploy.specs.Placed.{frame_len}
use Rattle.tdl_mode.specs.declared.program.PortDef.{PortDef}
use Rattle.tdl_window.proofs.timely.frame_len.Given as goal

abbrev pub invariant-loop-output : goal.invariant-loop-output
invariant-loop-output l =
    (l.bytes + sum (map (λ (o : PortDef). width_of o.kind) (drop l.output-index l.task.outputs)) ≡ frame_len l.task)
    × (l.bytes ≤ 7 + 8 * l.output-index)
