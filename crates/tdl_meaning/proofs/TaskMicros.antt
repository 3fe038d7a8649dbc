-- A microsecond of the processor keeps the tasks of a hosted module in step with their logical state.
use Rattle.std.proofs.Common.{◌≡◌, ℕ, suc, ◌+◌, ◌≤◌, ℤ, pos, List, [], ◌∷◌, ◌++◌, map, length, replicate, Option, Some, None, filter, ap, sym, ◌∙◌}
use Rattle.std.proofs.lemmas.List.{length-map}
use Rattle.tdl_mode.specs.declared.program.Mode.{Mode}
use Rattle.tdl_mode.specs.declared.program.Task.{Task}
use Rattle.tdl_mode.specs.declared.program.PortDef.{PortDef}
use Rattle.tdl_mode.specs.States.{Job, TaskState}
use Rattle.tdl_image.specs.declared.hosted.Hosted.{Hosted}
use Rattle.tdl_verify.specs.States.{Slot, TaskNow, HostNow}
use Rattle.tdl_verify.specs.Micros.{is_live, slot_run, tasks_run}
use Rattle.tdl_gen.specs.Tables.{task_table}
use Rattle.tdl_verify.proofs.JobSlots.{SlotFacts, slot_micro}
use Rattle.tdl_verify.specs.Covered.{covered_by}
use Rattle.tdl_gen.proofs.Results.{job_result}
use Rattle.tdl_meaning.specs.HostInStep.{TaskPairs, IsJob, SlotPair}

-- mode k of a hosted module, with the worst cases of its tasks
module _ (k : ℕ) (mode : Mode) (h : Hosted) (worst : ℕ → ℕ) where
  -- the microseconds that the windows of invocation n of this mode cover up to an offset
  abbrev pub covers : ℕ → ℕ → ℕ
  covers n d = covered_by k n d h.windows

  -- the length of the locals is that of the definition in the table of the task
  locals-length : (task : Task) → length (task_table task).locals ≡ length task.locals
  locals-length task = length-map task.locals (λ (d : PortDef). d.kind)

  -- the cells that a job begins with, from the table of its task: its inputs, the outputs, and locals of 0
  abbrev cells_for : Task → List ℤ → Job → List ℤ
  cells_for task outs job = job.inputs ++ outs ++ replicate (length (task_table task).locals) (pos 0)

  -- those cells from the definition of its task
  cells-same : (task : Task) (outs : List ℤ) (job : Job) →
      cells_for task outs job ≡ job.inputs ++ outs ++ replicate (length task.locals) (pos 0)
  cells-same task outs job = ap (λ n. job.inputs ++ outs ++ replicate n (pos 0)) (locals-length task)

  -- what a slot holds of a job makes a pair with it
  slot_pair : (t d c : ℕ) (task : Task) (outs : List ℤ) (job : Job) → IsJob k mode t d job → (slot : Slot) →
      SlotFacts h (task_table task) k job.invocation (worst t) (cells_for task outs job) c slot →
      SlotPair k mode covers worst t d c task outs (Some job) slot
  slot_pair t d c task outs job j Slot.Idle facts = absurd facts
  slot_pair t d c task outs job j (Slot.Ready md i left values) facts = (
    j,
    facts.0 ∙ sym j.mode',
    facts.1,
    facts.2 ∙ cells-same task outs job,
    facts.3,
    facts.4,
  )
  slot_pair t d c task outs job j (Slot.Done md i values) facts = (
    j,
    facts.0 ∙ sym j.mode',
    facts.1,
    facts.2 ∙ job_result task job.inputs outs,
  )

  -- a microsecond of the processor keeps a task in step
  micro_slot : (t c y : ℕ) (s : HostNow) → s.mode ≡ Some k → y ≡ s.base + c →
      length (filter (is_live y s) h.windows) ≤ 1 → (task : Task) (outs : List ℤ) (active : Option Job) (slot : Slot) →
      SlotPair k mode covers worst t (suc c) c task outs active slot →
      SlotPair k mode covers worst t (suc c) (suc c) task outs active
      (slot_run (filter (is_live y s) h.windows) (task_table task) slot)
  micro_slot t c y s md at few task outs None Slot.Idle pair = tt
  micro_slot t c y s md at few task outs None (Slot.Ready a i left cells) pair = absurd pair
  micro_slot t c y s md at few task outs None (Slot.Done a i values) pair = absurd pair
  micro_slot t c y s md at few task outs (Some job) Slot.Idle pair = absurd pair
  micro_slot t c y s md at few task outs (Some job) (Slot.Done a i values) pair = pair
  micro_slot t c y s md at few task outs (Some job) (Slot.Ready a i left cells) pair =
      slot_pair t (suc c) (suc c) task outs job pair.0 _
      (slot_micro h (task_table task) k job.invocation (worst t) (cells_for task outs job) y c s
      (Slot.Ready a i left cells) md at few
      (pair.1 ∙ pair.0.mode', pair.2, pair.3 ∙ sym (cells-same task outs job), pair.4, pair.5))

  -- a microsecond of the processor keeps all tasks of the module in step
  pub micro_pairs : (c y : ℕ) (s : HostNow) → s.mode ≡ Some k → y ≡ s.base + c →
      length (filter (is_live y s) h.windows) ≤ 1 → (n : ℕ) (us : List TaskState) (ws : List TaskNow) →
      TaskPairs k mode covers worst (suc c) c n us ws →
      TaskPairs k mode covers worst (suc c) (suc c) n us
      (tasks_run (filter (is_live y s) h.windows) (map (λ (u : TaskState). task_table u.definition) us) ws)
  micro_pairs c y s md at few n [] [] ps = tt
  micro_pairs c y s md at few n [] (w ∷ ws) ps = absurd ps
  micro_pairs c y s md at few n (u ∷ us) [] ps = absurd ps
  micro_pairs c y s md at few n (u ∷ us) (w ∷ ws) ps = (
    record {
      outputs = ps.0.outputs;
      slot = micro_slot n c y s md at few u.definition u.outputs u.active w.slot ps.0.slot;
    },
    micro_pairs c y s md at few (suc n) us ws ps.1,
  )
