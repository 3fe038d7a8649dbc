-- A job that ends leaves its task as the definition says.
use Rattle.std.proofs.Common.{◌≡◌, ℕ, ◌+◌, ◌-◌, ℤ, pos, List, ◌++◌, length, take, drop, replicate, Option, Some, None, ap, ap₂, sym, ◌∙◌, arith}
use Rattle.std.specs.Prelude.{option_map, unwrap_or}
use Rattle.std.proofs.lemmas.List.{length-append, length-map}
use Rattle.tdl_base.specs.declared.kinds.Kind.{Kind}
use Rattle.tdl_base.specs.Cells.{Cells}
use Rattle.tdl_body.specs.Effects.{effect_of}
use Rattle.tdl_eval.specs.Envs.{made_of}
use Rattle.tdl_mode.specs.declared.program.Task.{Task}
use Rattle.tdl_mode.specs.States.{TaskState, result_of, kinds_of}
use Rattle.tdl_mode.specs.Phases.{ended}
use Rattle.tdl_logic.specs.declared.task_now.Origin.{Origin}
use Rattle.tdl_logic.specs.Standing.{HasRoom, task_state, job_of, cell_kinds, filled}

-- a task has as many cells as ports
pub count_of : (task : Task) (outputs inputs cells : List ℤ) (kinds : List Kind) →
    HasRoom task outputs inputs cells kinds →
    length cells ≡ length task.inputs + length task.outputs + length task.locals
count_of task outputs inputs cells kinds room =
    let is : length kinds ≡ length (cell_kinds task) = ap length room.kinds_are in
    omega (
      arith,
      is,
      room.cells_fit,
      length-append (kinds_of task.inputs ++ kinds_of task.outputs) (kinds_of task.locals),
      length-append (kinds_of task.inputs) (kinds_of task.outputs),
      length-map task.inputs (λ p. p.kind),
      length-map task.outputs (λ p. p.kind),
      length-map task.locals (λ p. p.kind),
    )

-- the outputs among the cells that the body leaves are its result
pub result-is : (task : Task) (outputs inputs cells after : List ℤ) (kinds : List Kind) (n from : ℕ) →
    HasRoom task outputs inputs cells kinds → n ≡ length cells →
    made_of kinds after ≡ effect_of task.body (made_of kinds (filled inputs outputs n)) →
    from ≡ length task.inputs →
    take (length task.outputs) (drop from after) ≡ result_of task inputs outputs
unfolding result_of
result-is task outputs inputs cells after kinds n from room count done place =
    ap (λ k. take (length task.outputs) (drop k after)) place
    ∙ ap (λ (c : Cells). take (length task.outputs) (drop (length task.inputs) c.values)) done
    ∙ ap₂ (λ ks zeros. take (length task.outputs) (drop (length task.inputs)
    (effect_of task.body (made_of ks (inputs ++ outputs ++ replicate zeros (pos 0)))).values)) room.kinds_are locals
  where
    locals : n - (length inputs + length outputs) ≡ length task.locals
    locals =
        omega (arith, count, count_of task outputs inputs cells kinds room, room.inputs_fit, room.outputs_fit)

-- the task after its active job
pub ended-is : (old : TaskState) (task : Task) (outputs inputs new : List ℤ) (active : Option Origin)
    (origin : Origin) → task_state task outputs active inputs ≡ old → active ≡ Some origin →
    new ≡ result_of task inputs outputs →
    task_state task new None inputs ≡ unwrap_or (option_map (ended old) old.active) old
ended-is old task outputs inputs new active origin view is result =
    ap (λ v. task_state task v None inputs) result
    ∙ ap (λ a. unwrap_or (option_map (ended (task_state task outputs a inputs)) (option_map (job_of inputs) a))
    (task_state task outputs a inputs)) (sym is)
    ∙ ap (λ (u : TaskState). unwrap_or (option_map (ended u) u.active) u) view
