-- The outputs of a job's code are the result of its task.
use Rattle.std.proofs.Common.{◌≡◌, ℕ, ℤ, pos, List, [], ◌∷◌, ◌++◌, map, length, take, drop, replicate, refl, ap, ap₂, ◌∙◌}
use Rattle.std.proofs.lemmas.List.{length-map}
use Rattle.tdl_base.specs.declared.kinds.Kind.{Kind}
use Rattle.tdl_mode.specs.declared.program.Task.{Task}
use Rattle.tdl_mode.specs.declared.program.PortDef.{PortDef}
use Rattle.tdl_mode.specs.States.{result_of, kinds_of}
use Rattle.tdl_base.specs.Cells.{Cells}
use Rattle.tdl_stack.specs.Running.{outputs_after, cells_after}
use Rattle.tdl_lower.specs.Templates.{body_code}
use Rattle.tdl_verify.specs.Micros.{cells_of}
use Rattle.tdl_gen.specs.Tables.{task_table, initials}
use Rattle.tdl_lower.proofs.BodyCodes.{cells_after-code}

-- the kinds of ports in a table are the kinds of the ports
kinds-initials : (ports : List PortDef) → map (λ o. o.kind) (initials ports) ≡ kinds_of ports
kinds-initials [] = refl
kinds-initials (p ∷ ps) = ap (λ ks. p.kind ∷ ks) (kinds-initials ps)

-- the outputs of a job's code, run on its cells, are the result of its task
pub job_result : (task : Task) (inputs old : List ℤ) →
    let t = task_table task in
    outputs_after (length t.inputs) (length t.outputs) t.body.instrs
    (cells_of t (inputs ++ old ++ replicate (length t.locals) (pos 0))) ≡ result_of task inputs old
unfolding result_of
job_result task inputs old =
    let t = task_table task in
    let i : length t.inputs ≡ length task.inputs = length-map task.inputs (λ (p : PortDef). p.kind) in
    let n : length t.outputs ≡ length task.outputs = length-map task.outputs _ in
    let l : length t.locals ≡ length task.locals = length-map task.locals (λ (p : PortDef). p.kind) in
    let values : List ℤ = inputs ++ old ++ replicate (length task.locals) (pos 0) in
    let cells : cells_of t (inputs ++ old ++ replicate (length t.locals) (pos 0)) ≡
    record { kinds = kinds_of task.inputs ++ kinds_of task.outputs ++ kinds_of task.locals; values = values } =
    ap₂ (λ (ks : List Kind) (k : ℕ). record {
      kinds = kinds_of task.inputs ++ ks ++ kinds_of task.locals;
      values =
          inputs ++ old ++ replicate k (pos 0);
    }) (kinds-initials task.outputs) l in
    ap₂ (λ a b. take b (drop a (cells_after (body_code task.body)
    (cells_of t (inputs ++ old ++ replicate (length t.locals) (pos 0)))).values)) i n
    ∙ ap (λ c. take (length task.outputs) (drop (length task.inputs) (cells_after (body_code task.body) c).values))
    cells
    ∙ ap (λ (c : Cells). take (length task.outputs) (drop (length task.inputs) c.values))
    (cells_after-code task.body (record {
      kinds =
          kinds_of task.inputs ++ kinds_of task.outputs ++ kinds_of task.locals;
      values = values;
    }))
