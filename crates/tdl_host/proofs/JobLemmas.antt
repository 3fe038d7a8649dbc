-- A job of a task as the run's definition has it: its cells at its release, and its microseconds.
use Rattle.std.proofs.Common.{◌≡◌, ℕ, zero, suc, ◌+◌, ◌-◌, ◌<◌, ◌≤◌, ℤ, pos, List, [], ◌∷◌, ◌++◌, length, map, replicate, Option, Some, refl, ap, ap₂, subst, sym, ◌∙◌, arith}
use Rattle.std.proofs.lemmas.List.{length-append, length-map}
use Rattle.tdl_base.specs.declared.kinds.Kind.{Kind}
use Rattle.tdl_base.specs.Numbers.{narrowed}
use Rattle.tdl_stack.specs.declared.instr.Code.{Code}
use Rattle.tdl_stack.specs.Lawful.{IsLawful}
use Rattle.tdl_image.specs.declared.bundle.Initial.{Initial}
use Rattle.tdl_image.specs.declared.hosted.TaskTable.{TaskTable}
use Rattle.tdl_image.specs.declared.hosted.ReleaseEntry.{ReleaseEntry}
use Rattle.tdl_task.specs.declared.slot.Slot.{Slot as JobSlot}
use Rattle.tdl_task.specs.declared.slot.Slot.TheVariants as job
use Rattle.tdl_task.specs.Jobs.{TaskCells, cells_of_shape, ReadyJob, DoneJob, narrowed_each, released, body_shape, values_after, outputs_of_cells}
use Rattle.tdl_verify.specs.States.{Slot}
use Rattle.tdl_verify.specs.Micros.{worked}
use Rattle.tdl_verify.specs.Turns.{arguments}
use Rattle.tdl_host.specs.CheckedCodes.{IsCheckedTask, cells_of_table}
use Rattle.tdl_host.specs.Hosts.{TaskView, IsSlotOf, IsSeated, IsCommitted, slot_now, with_job}

-- ---- a microsecond

-- the body of a task is lawful for the cells of its job
pub body-lawful : (t : TaskTable) (cells : TaskCells) → IsCheckedTask t → cells ≡ cells_of_table t →
    IsLawful t.body.instrs (body_shape cells)
body-lawful t cells checked is = subst (λ k. IsLawful t.body.instrs (body_shape k)) (sym is) checked.body

-- a job that does not end has one microsecond less
worked-more : (t : TaskTable) (mode invocation left : ℕ) (cells : List ℤ) → 1 < left →
    worked t mode invocation left cells ≡ Slot.Ready mode invocation (left - 1) cells
worked-more t mode invocation zero cells lt = absurd (omega arith)
worked-more t mode invocation (suc zero) cells lt = absurd (omega arith)
worked-more t mode invocation (suc (suc left)) cells lt =
    let e : suc left ≡ suc (suc left) - 1 = omega arith in ap (λ n. Slot.Ready mode invocation n cells) e

-- a job at its last microsecond has its body run
worked-last : (t : TaskTable) (mode invocation left : ℕ) (cells : List ℤ) → 0 < left → left ≤ 1 →
    worked t mode invocation left cells
    ≡ Slot.Done mode invocation
    (outputs_of_cells (record {
      task = cells_of_table t;
      values = values_after t.body.instrs (record { task = cells_of_table t; values = cells });
    }))
worked-last t mode invocation zero cells some last = absurd (omega arith)
worked-last t mode invocation (suc zero) cells some last = refl
worked-last t mode invocation (suc (suc left)) cells some last = absurd (omega arith)

-- a job that is still ready has one microsecond less
pub still-worked : (t : TaskTable) (r s : ReadyJob) → 1 < r.remaining →
    s ≡ record r { remaining = r.remaining - 1 } →
    slot_now (Some (job.Ready s)) ≡ worked t r.job.mode.0 r.job.invocation r.remaining r.held.values
still-worked t r s more is =
    ap (λ (q : ReadyJob). slot_now (Some (job.Ready q))) is
    ∙ sym (worked-more t r.job.mode.0 r.job.invocation r.remaining r.held.values more)

-- a job that is done was at its last one, and has the outputs of its body
pub done-worked : (t : TaskTable) (r : ReadyJob) (d : DoneJob) → r.held.task ≡ cells_of_table t → 0 < r.remaining →
    r.remaining ≤ 1 →
    d ≡ record { job = r.job; held = record { task = r.held.task; values = values_after t.body.instrs r.held } } →
    slot_now (Some (job.Done d)) ≡ worked t r.job.mode.0 r.job.invocation r.remaining r.held.values
done-worked t r d cells some last is =
    ap (λ (q : DoneJob). slot_now (Some (job.Done q))) is
    ∙ ap
    (λ (k : TaskCells). Slot.Done r.job.mode.0 r.job.invocation
    (outputs_of_cells (record {
      task = k;
      values = values_after t.body.instrs (record { task = k; values = r.held.values });
    })))
    cells
    ∙ sym (worked-last t r.job.mode.0 r.job.invocation r.remaining r.held.values some last)

-- a slot that is in hand is of the same cells
pub seated-slot : (cells : TaskCells) (place : Option JobSlot) (slot : JobSlot) → IsSeated cells place →
    place ≡ Some slot → IsSlotOf cells slot
seated-slot cells place slot seated is = subst (λ o. IsSeated cells o) is seated

-- ---- a release

-- only the first kinds narrow
narrowed-front : (kinds more : List Kind) (vs : List ℤ) → length vs ≤ length kinds →
    narrowed_each (kinds ++ more) vs ≡ narrowed_each kinds vs
narrowed-front [] [] [] le = refl
narrowed-front [] (k ∷ ks) [] le = refl
narrowed-front [] more (v ∷ vs) le = absurd (omega arith)
narrowed-front (k ∷ ks) more [] le = refl
narrowed-front (k ∷ ks) more (v ∷ vs) le = ap (λ z. narrowed k v ∷ z) (narrowed-front ks more vs (omega arith))

-- how many cells are left for locals
left-over : (a b c : List Kind) (n m : ℕ) → n ≡ length a → m ≡ length b → length (a ++ b ++ c) - (n + m) ≡ length c
left-over a b c n m e f = omega (arith, e, f, length-append (a ++ b) c, length-append a b)

-- the numbers of a release, where each input and output has one
pub released-cells : (t : TaskTable) (inputs outputs : List ℤ) → length inputs ≡ length t.inputs →
    length outputs ≡ length t.outputs →
    released (cells_of_table t) inputs outputs
    ≡ narrowed_each t.inputs inputs ++ outputs ++ replicate (length t.locals) (pos 0)
released-cells t inputs outputs ins outs =
    ap₂ (λ (front : List ℤ) (n : ℕ). front ++ outputs ++ replicate n (pos 0))
    (narrowed-front (t.inputs ++ map (λ (o : Initial). o.kind) t.outputs) t.locals inputs
    (omega (arith, ins, length-append t.inputs (map (λ (o : Initial). o.kind) t.outputs)))
    ∙ narrowed-front t.inputs (map (λ (o : Initial). o.kind) t.outputs) inputs (omega (arith, ins)))
    (left-over t.inputs (map (λ (o : Initial). o.kind) t.outputs) t.locals (length inputs) (length outputs) ins
    (outs ∙ sym (length-map t.outputs (λ (o : Initial). o.kind))))

-- a shape of a task's kinds has the task's cells
pub shape-cells : (t : TaskTable) (inputs outputs locals : List Kind) → inputs ≡ t.inputs →
    outputs ≡ map (λ (o : Initial). o.kind) t.outputs → locals ≡ t.locals →
    cells_of_shape (record { inputs = inputs; outputs = outputs; locals = locals }) ≡ cells_of_table t
shape-cells t inputs outputs locals ins outs locs =
    ap (λ ks. cells_of_shape (record { inputs = ks; outputs = outputs; locals = locals })) ins
    ∙ ap (λ ks. cells_of_shape (record { inputs = t.inputs; outputs = ks; locals = locals })) outs
    ∙ ap
    (λ ks.
    cells_of_shape (record { inputs = t.inputs; outputs = map (λ (o : Initial). o.kind) t.outputs; locals = ks }))
    locs
    ∙ ap
    (λ n. record {
      kinds = t.inputs ++ map (λ (o : Initial). o.kind) t.outputs ++ t.locals;
      inputs = length t.inputs;
      outputs = n;
    })
    (length-map t.outputs (λ (o : Initial). o.kind))

-- narrowed numbers of codes are the arguments of a call
pub narrowed-arguments : (f : Code → ℤ) (kinds : List Kind) (codes : List Code) → length codes ≡ length kinds →
    narrowed_each kinds (map f codes) ≡ arguments f kinds codes
narrowed-arguments f [] [] e = refl
narrowed-arguments f [] (code ∷ codes) e = absurd (omega arith)
narrowed-arguments f (k ∷ ks) [] e = absurd (omega arith)
narrowed-arguments f (k ∷ ks) (code ∷ codes) e =
    ap (λ z. narrowed k (f code) ∷ z) (narrowed-arguments f ks codes (omega arith))

-- ---- a task

-- a task whose slot was done, and is idle over the outputs of its job
pub commits : (v s : TaskView) (place place' : Option JobSlot) (d : DoneJob) (i : TaskCells) (outputs : List ℤ) →
    v ≡ s → v.now.slot ≡ slot_now place → place ≡ Some (job.Done d) → place' ≡ Some (job.Idle i) →
    outputs ≡ outputs_of_cells d.held →
    IsCommitted s.now (record v.now { outputs = outputs; slot = slot_now place' })
commits v s place place' d i outputs e slot was now is =
    subst (λ (z : TaskView). IsCommitted z.now (record v.now { outputs = outputs; slot = slot_now place' })) e (record {
      mode = d.job.mode.0;
      invocation = d.job.invocation;
      outputs = outputs_of_cells d.held;
      was = slot ∙ ap (λ (o : Option JobSlot). slot_now o) was;
      now = ap₂ (λ (vs : List ℤ) (k : Slot). record v.now { outputs = vs; slot = k }) is
          (ap (λ (o : Option JobSlot). slot_now o) now);
    })

-- a task whose job is released, over the outputs that stand
pub starts : (v s : TaskView) (r : ReleaseEntry) (inputs outputs : List ℤ) (slot : Slot) (count time : ℕ)
    (cells : TaskCells) → v ≡ s → length inputs ≡ length s.table.inputs →
    length v.now.outputs ≡ length v.table.outputs → cells ≡ cells_of_table v.table → outputs ≡ v.now.outputs →
    slot ≡ Slot.Ready r.mode r.invocation time (released cells inputs outputs) →
    count ≡ suc v.now.released → record v.now { slot = slot; released = count } ≡ with_job s.table r time inputs s.now
starts v s r inputs outputs slot count time cells e ins outs ec eo is en =
    let own : length inputs ≡ length v.table.inputs = ins ∙ ap (λ (z : TaskView). length z.table.inputs) (sym e) in
    let values : released cells inputs outputs
    ≡ narrowed_each v.table.inputs inputs ++ v.now.outputs ++ replicate (length v.table.locals) (pos 0) =
    ap₂ (λ (k : TaskCells) (o : List ℤ). released k inputs o) ec eo
    ∙ released-cells v.table inputs v.now.outputs own outs in
    subst (λ (z : TaskView). record v.now { slot = slot; released = count } ≡ with_job z.table r time inputs z.now) e
    (ap₂ (λ (k : Slot) (n : ℕ). record v.now { slot = k; released = n })
    (is ∙ ap (λ (vs : List ℤ). Slot.Ready r.mode r.invocation time vs) values) en)
