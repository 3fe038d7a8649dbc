-- One hosted module as its machine holds it, and the words that the machine's calls use.
use Rattle.std.specs.Prelude.{◌≡◌, ◌<◌, ◌≤◌, length, map, All, ℕ, suc, ◌++◌, ℤ, pos, replicate, Bool, true, false, ◌==◌, ◌&&◌, nat_le, if◌then◌else◌, List, [], ◌∷◌, filter, Option, Some, None, option_map, option_and_then, unwrap_or, slice_get, find}
use Rattle.tdl_base.specs.declared.numbers.TheConstants.{FIRST_NODE}
use Rattle.tdl_base.specs.Lists.{changed_at}
use Rattle.tdl_trace.specs.Shown.{Shown}
use Rattle.tdl_scen.specs.declared.entries.Sense.{Sense}
use Rattle.tdl_scen.specs.declared.entries.TaskTimes.{TaskTimes}
use Rattle.tdl_scen.specs.Scenario.{course_of, time_of}
use Rattle.tdl_stack.specs.declared.instr.Code.{Code}
use Rattle.tdl_stack.specs.Running.{Outer}
use Rattle.tdl_ecode.specs.declared.instr.EInstr.{EInstr}
use Rattle.tdl_image.specs.declared.hosted.Hosted.{Hosted}
use Rattle.tdl_image.specs.declared.hosted.TaskTable.{TaskTable}
use Rattle.tdl_verify.specs.States.{Slot, TaskNow, Trigger, HostNow, Part, Times, outer_on, value_on, task_first}
use Rattle.tdl_verify.specs.Micros.{slot_run}
use Rattle.tdl_image.specs.declared.hosted.ImageWindow.{ImageWindow}
use Rattle.tdl_verify.specs.Turns.{Acted, Spot, Turned, host_acts, phase_of, turn}
use Rattle.tdl_verify.specs.Runs.{is_plain}
use Rattle.tdl_node.specs.Machines.{plain_turned}
use Rattle.tdl_task.specs.Jobs.{TaskCells, narrowed_each, outputs_of_cells}
use Rattle.tdl_task.specs.declared.slot.Slot.{Slot as JobSlot}
use Rattle.tdl_task.specs.declared.slot.Slot.TheVariants as job
use Rattle.tdl_image.specs.declared.hosted.ReleaseEntry.{ReleaseEntry}
use Rattle.tdl_host.specs.CheckedCodes.{IsCheckedTask, cells_of_table}
use Rattle.tdl_host.specs.declared.act.Next.{Next}
use Rattle.tdl_host.specs.declared.state.Alarm.{Alarm}
use Rattle.tdl_host.specs.declared.step.Place.{Place}
use Rattle.tdl_host.specs.declared.step.Standing.{Standing}
use Rattle.tdl_host.specs.declared.step.Stepped.{Stepped}

-- ---- the state

-- the slot of a task as the run's definition has it; idle while its job is in hand
abbrev pub slot_now : Option JobSlot → Slot
slot_now None = Slot.Idle
slot_now (Some (job.Idle i)) = Slot.Idle
slot_now (Some (job.Ready r)) = Slot.Ready r.job.mode.0 r.job.invocation r.remaining r.held.values
slot_now (Some (job.Done d)) = Slot.Done d.job.mode.0 d.job.invocation (outputs_of_cells d.held)

-- a slot of these cells, whose job, where it is ready, has some time left
abbrev pub IsSlotOf : TaskCells → JobSlot → Type 0
IsSlotOf cells (job.Idle i) = i ≡ cells
IsSlotOf cells (job.Ready r) = (r.held.task ≡ cells) × (0 < r.remaining)
IsSlotOf cells (job.Done d) = d.held.task ≡ cells

-- such a slot is there
abbrev pub IsSeated : TaskCells → Option JobSlot → Type 0
IsSeated cells None = ⊥
IsSeated cells (Some slot) = IsSlotOf cells slot

-- the outputs and the slot of a task are those of its table
pub record FitsTable (t : TaskTable) (outputs : List ℤ) (slot : Option JobSlot) : Type 0 where
  pub checked : IsCheckedTask t
  pub count : length outputs ≡ length t.outputs
  pub seated : IsSeated (cells_of_table t) slot

-- a task: its table beside its state
pub record TaskView : Type 0 where
  pub table : TaskTable
  pub now : TaskNow

-- the tables of tasks, and their states
abbrev pub tables_of : List TaskView → List TaskTable
tables_of us = map (λ u. u.table) us

abbrev pub states_of : List TaskView → List TaskNow
states_of us = map (λ u. u.now) us

-- a task before its first job
abbrev pub first_view : TaskTable → TaskView
first_view t = record { table = t; now = task_first t }

-- a task after a microsecond in which one window is live
abbrev pub worked_in : ImageWindow → TaskView → TaskView
worked_in w u = record { table = u.table; now = record u.now { slot = slot_run (w ∷ []) u.table u.now.slot } }

-- a module: its tables beside its state
pub record HostedNow : Type 0 where
  pub host : Hosted
  pub now : HostNow

-- the trigger as the run's definition has it
abbrev pub trigger_now : Alarm → Trigger
trigger_now a = record { at = a.at; block = a.block }

-- the outputs of task t; none where there is no such task
abbrev pub task_outputs : HostNow → ℕ → List ℤ
task_outputs s t = unwrap_or (option_map (λ u. u.outputs) (slice_get s.tasks t)) []

-- of each task at most so many jobs were released
pub record HasReleased (bound : ℕ) (s : HostNow) : Type 0 where
  pub each : All (λ (u : TaskNow). u.released ≤ bound) s.tasks

-- the slot of task t; idle where there is no such task
abbrev pub slot_of : HostNow → ℕ → Slot
slot_of s t = unwrap_or (option_map (λ u. u.slot) (slice_get s.tasks t)) Slot.Idle

-- no job is in the slot
abbrev pub is_idle : Slot → Bool
is_idle Slot.Idle = true
is_idle slot = false

-- a job is ready
pub record IsLate (slot : Slot) : Type 0 where
  pub mode : ℕ
  pub invocation : ℕ
  pub left : ℕ
  pub cells : List ℤ
  pub was : slot ≡ Slot.Ready mode invocation left cells

-- the job of a task was done and is committed
pub record IsCommitted (old new : TaskNow) : Type 0 where
  pub mode : ℕ
  pub invocation : ℕ
  pub outputs : List ℤ
  pub was : old.slot ≡ Slot.Done mode invocation outputs
  pub now : new ≡ record old { outputs = outputs; slot = Slot.Idle }

-- the job of task t was done and is committed
pub record IsCommittedAt (t : ℕ) (old new : HostNow) : Type 0 where
  pub mode : ℕ
  pub invocation : ℕ
  pub outputs : List ℤ
  pub was : slot_of old t ≡ Slot.Done mode invocation outputs
  pub now : new
      ≡ record old
      { tasks = changed_at t (λ (u : TaskNow). record u { outputs = outputs; slot = Slot.Idle }) old.tasks }
  pub shown : task_outputs new t ≡ outputs

-- a task of this table with one more job, which takes this time and is released with these inputs
abbrev pub with_job : TaskTable → ReleaseEntry → ℕ → List ℤ → TaskNow → TaskNow
with_job t r time inputs u = record u {
  slot = Slot.Ready r.mode r.invocation time
      (narrowed_each t.inputs inputs ++ u.outputs ++ replicate (length t.locals) (pos 0));
  released = suc u.released;
}

-- a job of task t, which had none, is released with these inputs; its k-th job takes `time k`
pub record IsStartedAt (t : ℕ) (r : ReleaseEntry) (time : ℕ → ℕ) (inputs : List ℤ) (table : TaskTable)
    (old new : HostNow) : Type 0 where
  pub was : TaskNow
  pub here : slice_get old.tasks t ≡ Some was
  pub idle : was.slot ≡ Slot.Idle
  pub now : new ≡ record old { tasks = changed_at t (with_job table r (time (suc was.released)) inputs) old.tasks }

-- task t is there, and has a job
pub record IsBusyAt (t : ℕ) (s : HostedNow) : Type 0 where
  pub table : TaskTable
  pub of_table : slice_get s.host.tasks t ≡ Some table
  pub was : TaskNow
  pub here : slice_get s.now.tasks t ≡ Some was
  pub busy : is_idle was.slot ≡ false

-- ---- what its codes read, and how long its jobs take

-- what the codes of a module read at instant x
abbrev pub outer_at : Hosted → HostNow → List Sense → ℕ → Outer
outer_at h s senses x = outer_on (Part.Host h s ∷ []) (course_of senses x) h.number.0

-- the number of a code of the module at instant x
abbrev pub value_at : Hosted → HostNow → List Sense → ℕ → Code → ℤ
value_at h s senses x code = value_on (Part.Host h s ∷ []) (course_of senses x) h.number.0 code

-- the worst case of task t of module m; 0 where there is no such task
abbrev pub worst_of : Hosted → ℕ → ℕ → ℕ
worst_of h m t =
    unwrap_or (option_map (λ (table : TaskTable). table.worst)
    (option_and_then (λ (own : Hosted). slice_get own.tasks t) (find (λ (own : Hosted). own.number.0 == m) (h ∷ [])))) 0

-- how long the jobs of the module take: as is listed, otherwise their worst cases
abbrev pub listed_times : Hosted → List TaskTimes → Times
listed_times h times m t k = time_of times (worst_of h m t) m t k

-- ---- instructions

-- what an instruction did, its rows after those that are there
abbrev pub with_rows_before : List Shown → Acted → Acted
with_rows_before rows (Acted.On p more pc) = Acted.On p (rows ++ more) pc
with_rows_before rows (Acted.Over p more) = Acted.Over p (rows ++ more)
with_rows_before rows (Acted.Stop reason) = Acted.Stop reason

-- what an instruction of the module does at instant x on the first node, after rows
abbrev pub acts : Hosted → List TaskTimes → List Sense → ℕ → List Shown → HostNow → ℕ → EInstr → Acted
acts h times senses x rows s pc i =
    with_rows_before rows (host_acts x FIRST_NODE.0 (value_at h s senses x) (listed_times h times) h s pc i)

-- the block of a module goes on
abbrev pub went : Next → Hosted → HostNow → List Shown → Acted
went (Next.On pc) h s rows = Acted.On (Part.Host h s) rows pc
went Next.Over h s rows = Acted.Over (Part.Host h s) rows

-- ---- turns

-- what a turn of the module comes to, with so many instructions left, without log lines
abbrev pub host_turn : ℕ → Hosted → List TaskTimes → List Sense → ℕ → Spot → HostNow → List Shown → Turned
host_turn n h times senses x spot s rows =
    plain_turned (turn n x FIRST_NODE.0 (course_of senses x) (listed_times h times) spot (Part.Host h s ∷ []) rows)

-- where a turn of the module stands
abbrev pub spot_now : Standing → Spot
spot_now Standing.Between = Spot.Between
spot_now (Standing.At place) = Spot.In 0 place.block place.pc

-- the block of the trigger, where it is due at x and of a phase up to 4
abbrev pub due_block : ℕ → Hosted → Option Trigger → Option ℕ
due_block x h None = None
due_block x h (Some t) = if t.at == x && nat_le (phase_of h.blocks t.block) 4 then Some t.block else None

-- the state once a due trigger was taken out
abbrev pub trigger_taken : Option ℕ → HostNow → HostNow
trigger_taken None s = s
trigger_taken (Some b) s = record s { trigger = None }

-- what goes on at a place, or the end of the turn
abbrev pub picked_by : (ℕ → ℕ → ℕ → List Part → Turned) → Hosted → HostNow → List Shown → Option Place → Turned
picked_by go h s rows None = Turned.Finished (Part.Host h s ∷ []) rows
picked_by go h s rows (Some place) = go 0 place.block place.pc (Part.Host h s ∷ [])

-- what a turn comes to after one step
abbrev pub after_step : ℕ → Hosted → List TaskTimes → List Sense → ℕ → HostNow → List Shown → Stepped → Turned
after_step n h times senses x s rows Stepped.Finished = Turned.Finished (Part.Host h s ∷ []) (filter is_plain rows)
after_step n h times senses x s rows (Stepped.On standing) = host_turn n h times senses x (spot_now standing) s rows

-- ---- the machine

-- a module, the listed times of jobs, its machine's greatest count of one instant, and its state
pub record HostView : Type 0 where
  pub host : Hosted
  pub times : List TaskTimes
  pub declared : ℕ
  pub now : HostNow
