-- What the laws of the machine say.
use Rattle.std.specs.Prelude.{◌≡◌, ℕ, suc, ◌+◌, ◌<◌, ◌≤◌, ℤ, Bool, true, false, ◌==◌, List, [], ◌∷◌, Some, None, slice_get}
use Rattle.std.specs.List.{list_any}
use Rattle.tdl_base.specs.Numbers.{narrowed}
use Rattle.tdl_base.specs.declared.kinds.Kind.{Kind}
use Rattle.tdl_stack.specs.declared.instr.Code.{Code}
use Rattle.tdl_frame.specs.Frames.{Member, Frame}
use Rattle.tdl_image.specs.declared.hosted.Hosted.{Hosted}
use Rattle.tdl_image.specs.declared.hosted.TaskTable.{TaskTable}
use Rattle.tdl_image.specs.declared.hosted.CallEntry.{CallEntry}
use Rattle.tdl_image.specs.declared.hosted.ReleaseEntry.{ReleaseEntry}
use Rattle.tdl_image.specs.declared.hosted.ImageWindow.{ImageWindow}
use Rattle.tdl_image.specs.declared.stub.Stub.{Stub}
use Rattle.tdl_image.specs.declared.stub.StubTask.{StubTask}
use Rattle.tdl_image.specs.declared.stub.Receive.{Receive}
use Rattle.tdl_verify.specs.States.{Slot, TaskNow, HostNow, EntryNow, StubNow, Part, NodeNow, Times, stub_outputs}
use Rattle.tdl_verify.specs.Turns.{Acted, output_rows, release_acts, end_acts, take_acts}
use Rattle.tdl_verify.specs.Micros.{micro}
use Rattle.tdl_verify.specs.Covered.{job_outputs}

-- ---- microseconds

-- a window that a job may run in at x: one of the processor, of the module's mode, that began and has not ended
pub record IsOpen (x : ℕ) (s : HostNow) (w : ImageWindow) : Type 0 where
  pub processor : w.bus ≡ false
  pub mode : s.mode ≡ Some w.mode
  pub begun : s.base + w.offset ≤ x
  pub lasts : x < s.base + w.offset + w.length

-- no node has two live windows at x
abbrev pub AllWalk : ℕ → List NodeNow → Type 0
AllWalk x nodes = (k : ℕ) (n : NodeNow) → slice_get nodes k ≡ Some n → micro x n ≡ None → ⊥

-- the slot still has the job of this invocation with these cells, or the outputs of its body on them
abbrev pub KeepsJob : TaskTable → (mode invocation : ℕ) → List ℤ → Slot → Type 0
KeepsJob t mode invocation cells Slot.Idle = ⊥
KeepsJob t mode invocation cells (Slot.Ready m i left values) = (m ≡ mode) × (i ≡ invocation) × (values ≡ cells)
KeepsJob t mode invocation cells (Slot.Done m i outputs) =
    (m ≡ mode) × (i ≡ invocation) × (outputs ≡ job_outputs t cells)

-- ---- releases

-- the cell of each input holds what its argument is at the release
abbrev pub HoldsArguments : (Code → ℤ) → TaskTable → CallEntry → List ℤ → Type 0
HoldsArguments value table call cells =
    (j : ℕ) (code : Code) (kind : Kind) → slice_get call.args j ≡ Some code → slice_get table.inputs j ≡ Some kind →
    slice_get cells j ≡ Some (narrowed kind (value code))

-- the release and its call and task stand at their places, and the slot of the task is idle
pub record CanStart (h : Hosted) (s : HostNow) (i : ℕ) (r : ReleaseEntry) (c : CallEntry) (table : TaskTable)
    (u : TaskNow) : Type 0 where
  pub release : slice_get h.releases i ≡ Some r
  pub call : slice_get h.calls r.call ≡ Some c
  pub table_at : slice_get h.tasks c.task ≡ Some table
  pub task_at : slice_get s.tasks c.task ≡ Some u
  pub idle : u.slot ≡ Slot.Idle

-- the job of the release is ready in the slot of its task, with its arguments in its cells
pub record StartsJob (value : Code → ℤ) (times : Times) (h : Hosted) (s : HostNow) (pc i : ℕ) (r : ReleaseEntry)
    (c : CallEntry) (table : TaskTable) (u : TaskNow) : Type 0 where
  pub after : HostNow
  pub acts : release_acts value times h s pc i ≡ Acted.On (Part.Host h after) [] (suc pc)
  pub cells : List ℤ
  pub task : slice_get after.tasks c.task ≡ Some (record {
    outputs = u.outputs;
    slot = Slot.Ready r.mode r.invocation (times h.number.0 c.task (suc u.released)) cells;
    released = suc u.released;
  })
  pub holds : HoldsArguments value table c cells

-- ---- ends

-- the outputs of a done job are committed and shown, and the slot of its task is idle
pub record Commits (x node : ℕ) (h : Hosted) (s : HostNow) (pc t : ℕ) (u : TaskNow) (outputs : List ℤ) : Type 0 where
  pub after : HostNow
  pub acts : end_acts x node h s pc t
      ≡ Acted.On (Part.Host h after) (output_rows x node h.number.0 t outputs) (suc pc)
  pub task : slice_get after.tasks t ≡ Some (record u { outputs = outputs; slot = Slot.Idle })

-- ---- frames

-- the frame is of this module, in the mode that the module is in
pub record IsFrameOf (h : Hosted) (s : HostNow) (frame : Frame) : Type 0 where
  pub owner : frame.owner ≡ h.number.0
  pub mode : s.mode ≡ Some frame.mode

-- no member of the frame was executed
abbrev pub NoneExecuted : Frame → Type 0
NoneExecuted f = (k : ℕ) (m : Member) → slice_get f.members k ≡ Some m → m.executed ≡ false

-- the frame's one member is an executed job of the entry's mode and invocation
pub record IsForEntry (f : Frame) (e : Receive) (m : Member) : Type 0 where
  pub members : f.members ≡ m ∷ []
  pub mode : f.mode ≡ e.mode
  pub executed : m.executed ≡ true
  pub invocation : m.invocation ≡ e.invocation

-- a stub has a task of this number
abbrev pub is_numbered : ℕ → List StubTask → Bool
is_numbered t tasks = list_any (λ (k : StubTask). k.number == t) tasks

-- an entry is taken: its copy becomes the outputs of its task and is shown, the outputs of other tasks stay
pub record TakesEntry (x node : ℕ) (p : Stub) (s : StubNow) (pc r : ℕ) (e : Receive) (now : EntryNow) : Type 0 where
  pub after : StubNow
  pub acts : take_acts x node p s pc r
      ≡ Acted.On (Part.Outside p after) (output_rows x node p.number.0 e.task now.copy) (suc pc)
  pub same : stub_outputs e.task p.tasks after.outputs ≡ now.copy
  pub others : (t : ℕ) → (t ≡ e.task → ⊥) → stub_outputs t p.tasks after.outputs ≡ stub_outputs t p.tasks s.outputs
