use Rattle.std.proofs.Common.{◌≡◌, ◌+◌, ◌-◌, List, ℤ, length, take, drop, refl, ap, ap₂, ◌∙◌, arith}
use Rattle.tdl_body.specs.Effects.{effect_of}
use Rattle.tdl_mode.specs.States.{result_of}
use Rattle.tdl_eval.specs.Envs.{made_of}
use Rattle.tdl_logic.specs.Standing.{filled}
use Rattle.tdl_logic.proofs.Ending.{result-is, ended-is}
use Rattle.tdl_logic.proofs.task_now.TaskNow.end.Goals as goal

pub returns : goal.returns
returns c =
    let task = c.self.inside.task.now in
    let outputs : List ℤ = c.self.inside.outputs.items in
    let inputs : List ℤ = c.self.inside.inputs.items in
    let kinds = c.self.inside.kinds in
    let after = c.exec_cells.new.cells in
    let done : made_of kinds after
    ≡ effect_of task.body (made_of kinds (filled inputs outputs (length c.self.inside.cells))) =
    c.exec_cells.ensures.done ∙ ap (λ vs. effect_of task.body (made_of kinds vs)) c.fill.ensures.values
    ∙ ap₂ (λ is os. effect_of task.body (made_of kinds (filled is os (length c.self.inside.cells))))
    c.deref.ensures.value c.deref-2.ensures.value in
    let count : c.len-from.result + c.len.result - c.len-from.result ≡ length task.outputs =
    omega (arith, c.len.ensures) in
    let new : c.copy_from_slice.new.self.items ≡ result_of task inputs outputs =
    c.copy_from_slice.ensures.items
    ∙ ap₂ (λ k vs. take k (drop c.len-from.result vs)) count c.as_slice-cells.ensures
    ∙ result-is task outputs inputs c.self.inside.cells after kinds (length c.self.inside.cells) c.len-from.result
    c.self.invariant refl done c.len-from.ensures in
    ended-is c.args.self.now task outputs inputs c.copy_from_slice.new.self.items c.self.inside.active
    c.in-Some.field-0 c.self.view_is c.in-Some.is new
