-- The E-machine of a node at one instant: the due triggers, block by block, until none is due.
use Rattle.std.specs.Prelude.{ℕ, zero, suc, ◌+◌, ℤ, pos, Bool, false, ◌&&◌, ◌==◌, List, [], ◌∷◌, ◌++◌, Option, Some, None, option_map, option_and_then, unwrap_or, slice_get, replicate, length, if◌then◌else◌}
use Rattle.tdl_base.specs.Lists.{changed_at, joined, numbered, first_of}
use Rattle.tdl_base.specs.declared.kinds.Kind.{Kind}
use Rattle.tdl_base.specs.declared.kinds.Kind.TheVariants.{Long}
use Rattle.tdl_base.specs.Numbers.{narrowed, is_true}
use Rattle.tdl_trace.specs.declared.why.Why.{Why}
use Rattle.tdl_trace.specs.declared.why.Why.TheVariants as why
use Rattle.tdl_trace.specs.Shown.{Shown}
use Rattle.tdl_stack.specs.declared.instr.Code.{Code}
use Rattle.tdl_ecode.specs.declared.instr.EInstr.{EInstr}
use Rattle.tdl_ecode.specs.declared.instr.EInstr.TheVariants.{Call, Release, End, Take, Mode, If, Jump, Future, Return}
use Rattle.tdl_ecode.specs.declared.instr.Block.{Block}
use Rattle.tdl_image.specs.declared.hosted.Hosted.{Hosted}
use Rattle.tdl_image.specs.declared.hosted.TaskTable.{TaskTable}
use Rattle.tdl_image.specs.declared.hosted.CallEntry.{CallEntry}
use Rattle.tdl_image.specs.declared.hosted.ReleaseEntry.{ReleaseEntry}
use Rattle.tdl_image.specs.declared.hosted.Driver.{Driver}
use Rattle.tdl_image.specs.declared.stub.Stub.{Stub}
use Rattle.tdl_image.specs.declared.stub.StubTask.{StubTask}
use Rattle.tdl_image.specs.declared.stub.Receive.{Receive}
use Rattle.tdl_base.specs.Sensed.{Sensed}
use Rattle.tdl_verify.specs.States.{Slot, TaskNow, Trigger, HostNow, EntryNow, StubNow, Part, Times, value_on, part_number}

-- ---- which trigger is next

-- a due trigger: the place of its part, and the place of its entry, 0 for a hosted module's own
pub record Due : Type 0 where
  pub part : ℕ
  pub entry : ℕ

-- the phase of a block; 0 where there is no such block
abbrev pub phase_of : List Block → ℕ → ℕ
phase_of blocks b = unwrap_or (option_map (λ k. k.phase) (slice_get blocks b)) 0

-- an instant, where there is one, is x
abbrev pub is_at : ℕ → Option ℕ → Bool
is_at x None = false
is_at x (Some at) = at == x

-- the due entries of this phase of a stub at place k, the first of these entries at place n
abbrev pub due_entries : ℕ → ℕ → ℕ → Stub → ℕ → List Receive → List EntryNow → List Due
due_entries x phase k p n (e ∷ es) (now ∷ more) =
    (if is_at x now.due && phase_of p.blocks e.block == phase then record { part = k; entry = n } ∷ [] else [])
    ++ due_entries x phase k p (suc n) es more
due_entries x phase k p n es more = []

-- the due triggers of this phase of a part, whose place is k
abbrev pub due_of : ℕ → ℕ → ℕ → Part → List Due
due_of x phase k (Part.Host h s) = host_due s.trigger
  where
    host_due : Option Trigger → List Due
    host_due None = []
    host_due (Some t) =
        if t.at == x && phase_of h.blocks t.block == phase then record { part = k; entry = 0 } ∷ [] else []
due_of x phase k (Part.Outside p s) = due_entries x phase k p 0 p.entries s.entries

-- the due triggers of this phase, part by part
abbrev pub due_in : ℕ → ℕ → List Part → List Due
due_in x phase parts = joined (numbered 0 (due_of x phase) parts)

-- the due trigger with the least phase of its block, then module, then entry
abbrev pub least_due : ℕ → List Part → Option Due
least_due x parts = first_of (due_in x 0 parts ++ due_in x 1 parts ++ due_in x 2 parts ++ due_in x 3 parts ++ due_in x 4 parts)

-- the number of the block that a due trigger runs
abbrev pub due_block_number : Due → Part → ℕ
due_block_number d (Part.Host h s) = unwrap_or (option_map (λ t. t.block) s.trigger) 0
due_block_number d (Part.Outside p s) = unwrap_or (option_map (λ e. e.block) (slice_get p.entries d.entry)) 0

-- the instructions of block b of a part
abbrev pub code_at : ℕ → Part → List EInstr
code_at b (Part.Host h s) = unwrap_or (option_map (λ k. k.code) (slice_get h.blocks b)) []
code_at b (Part.Outside p s) = unwrap_or (option_map (λ k. k.code) (slice_get p.blocks b)) []

-- the part with a due trigger taken out
abbrev pub taken_out : Due → Part → Part
taken_out d (Part.Host h s) = Part.Host h (record s { trigger = None })
taken_out d (Part.Outside p s) =
    Part.Outside p (record s { entries = changed_at d.entry (λ (e : EntryNow). record e { due = None }) s.entries })

-- ---- what one instruction does

-- after an instruction: on at an index, the block's end, or a trap
pub data Acted : Type 0 where
  On : Part → List Shown → ℕ → Acted
  Over : Part → List Shown → Acted
  Stop : Why → Acted

-- the rows of the outputs of task t
abbrev pub output_rows : ℕ → ℕ → ℕ → ℕ → List ℤ → List Shown
output_rows x node m t outputs = numbered 0 (λ o v. Shown.Port x node m t o v) outputs

-- a code without instructions
abbrev pub no_code : Code
no_code = record { instrs = [] }

-- the numbers of a call's arguments, each narrowed to its input's kind
abbrev pub arguments : (Code → ℤ) → List Kind → List Code → List ℤ
arguments value kinds [] = []
arguments value [] (code ∷ codes) = narrowed Long (value code) ∷ arguments value [] codes
arguments value (k ∷ ks) (code ∷ codes) = narrowed k (value code) ∷ arguments value ks codes

-- the driver's actuator takes its expression's narrowed number
abbrev pub call_acts : ℕ → ℕ → (Code → ℤ) → Hosted → HostNow → ℕ → ℕ → Acted
call_acts x node value h s pc d = by_driver (slice_get h.drivers d)
  where
    narrowed_to : ℕ → ℤ → ℤ
    narrowed_to a v = narrowed (unwrap_or (option_map (λ p. p.kind) (slice_get h.actuators a)) Long) v

    by_driver : Option Driver → Acted
    by_driver None = Acted.On (Part.Host h s) [] (suc pc)
    by_driver (Some r) =
        Acted.On
        (Part.Host h
        (record s { actuators = changed_at r.actuator (λ _. narrowed_to r.actuator (value r.value)) s.actuators }))
        (Shown.Act x node h.number.0 r.actuator (narrowed_to r.actuator (value r.value)) ∷ []) (suc pc)

-- a job of the release's mode and invocation starts, where the slot of its task is idle
abbrev pub release_acts : (Code → ℤ) → Times → Hosted → HostNow → ℕ → ℕ → Acted
release_acts value times h s pc i = by_release (slice_get h.releases i)
  where
    started : ReleaseEntry → CallEntry → TaskTable → TaskNow → TaskNow
    started r c table u = record u {
      slot = Slot.Ready r.mode r.invocation (times h.number.0 c.task (suc u.released))
          (arguments value table.inputs c.args ++ u.outputs ++ replicate (length table.locals) (pos 0));
      released = suc u.released;
    }

    by_slot : ReleaseEntry → CallEntry → TaskTable → Slot → Acted
    by_slot r c table Slot.Idle =
        Acted.On (Part.Host h (record s { tasks = changed_at c.task (started r c table) s.tasks })) [] (suc pc)
    by_slot r c table slot = Acted.Stop why.Busy

    by_table : ReleaseEntry → CallEntry → Option TaskTable → Option TaskNow → Acted
    by_table r c (Some table) (Some u) = by_slot r c table u.slot
    by_table r c table u = Acted.On (Part.Host h s) [] (suc pc)

    by_call : ReleaseEntry → Option CallEntry → Acted
    by_call r None = Acted.On (Part.Host h s) [] (suc pc)
    by_call r (Some c) = by_table r c (slice_get h.tasks c.task) (slice_get s.tasks c.task)

    by_release : Option ReleaseEntry → Acted
    by_release None = Acted.On (Part.Host h s) [] (suc pc)
    by_release (Some r) = by_call r (slice_get h.calls r.call)

-- a done job is committed; a ready one is late
abbrev pub end_acts : ℕ → ℕ → Hosted → HostNow → ℕ → ℕ → Acted
end_acts x node h s pc t = by_slot (unwrap_or (option_map (λ u. u.slot) (slice_get s.tasks t)) Slot.Idle)
  where
    by_slot : Slot → Acted
    by_slot Slot.Idle = Acted.On (Part.Host h s) [] (suc pc)
    by_slot (Slot.Ready mode invocation left cells) = Acted.Stop why.Late
    by_slot (Slot.Done mode invocation outputs) =
        Acted.On
        (Part.Host h
        (record s
        { tasks = changed_at t (λ (u : TaskNow). record u { outputs = outputs; slot = Slot.Idle }) s.tasks }))
        (output_rows x node h.number.0 t outputs) (suc pc)

-- a mode, where there is one, is m
abbrev pub is_mode : ℕ → Option ℕ → Bool
is_mode m None = false
is_mode m (Some k) = k == m

-- the module is in the mode from here on; a row where it was not
abbrev pub mode_acts : ℕ → ℕ → Hosted → HostNow → ℕ → ℕ → Acted
mode_acts x node h s pc m =
    Acted.On (Part.Host h (record s { mode = Some m; base = x }))
    (if is_mode m s.mode then [] else Shown.Mode x node h.number.0 m ∷ []) (suc pc)

-- an instruction of a hosted module
abbrev pub host_acts : ℕ → ℕ → (Code → ℤ) → Times → Hosted → HostNow → ℕ → EInstr → Acted
host_acts x node value times h s pc Return = Acted.Over (Part.Host h s) []
host_acts x node value times h s pc (Call d) = call_acts x node value h s pc d
host_acts x node value times h s pc (Release i) = release_acts value times h s pc i
host_acts x node value times h s pc (End t) = end_acts x node h s pc t
host_acts x node value times h s pc (Take r) = Acted.On (Part.Host h s) [] (suc pc)
host_acts x node value times h s pc (Mode m) = mode_acts x node h s pc m
host_acts x node value times h s pc (If g a) =
    Acted.On (Part.Host h s) [] (if is_true (value (unwrap_or (slice_get h.guards g) no_code)) then suc pc else a)
host_acts x node value times h s pc (Jump a) = Acted.On (Part.Host h s) [] a
host_acts x node value times h s pc (Future dt b) =
    Acted.On (Part.Host h (record s { trigger = Some (record { at = x + dt; block = b }) })) [] (suc pc)

-- the outputs of a stub, those of task t replaced by a copy
abbrev pub replaced_in : ℕ → List ℤ → List StubTask → List (List ℤ) → List (List ℤ)
replaced_in t copy (task ∷ tasks) (outputs ∷ more) =
    (if task.number == t then copy else outputs) ∷ replaced_in t copy tasks more
replaced_in t copy tasks more = more

-- the copy of entry r becomes the outputs of its task
abbrev pub take_acts : ℕ → ℕ → Stub → StubNow → ℕ → ℕ → Acted
take_acts x node p s pc r = by_entry (slice_get p.entries r) (slice_get s.entries r)
  where
    by_entry : Option Receive → Option EntryNow → Acted
    by_entry (Some e) (Some now) =
        Acted.On (Part.Outside p (record s { outputs = replaced_in e.task now.copy p.tasks s.outputs }))
        (output_rows x node p.number.0 e.task now.copy) (suc pc)
    by_entry e now = Acted.On (Part.Outside p s) [] (suc pc)

-- an instruction of a stub
abbrev pub stub_acts : ℕ → ℕ → Stub → StubNow → ℕ → EInstr → Acted
stub_acts x node p s pc Return = Acted.Over (Part.Outside p s) []
stub_acts x node p s pc (Take r) = take_acts x node p s pc r
stub_acts x node p s pc i = Acted.On (Part.Outside p s) [] (suc pc)

-- the opcode and the operands of an instruction, an unused one 0
abbrev pub step_row : ℕ → ℕ → ℕ → ℕ → ℕ → EInstr → Shown
step_row x node m b pc Return = Shown.Step x node m b pc 0 0 0
step_row x node m b pc (Call d) = Shown.Step x node m b pc 1 d 0
step_row x node m b pc (Release i) = Shown.Step x node m b pc 2 i 0
step_row x node m b pc (End t) = Shown.Step x node m b pc 3 t 0
step_row x node m b pc (Take r) = Shown.Step x node m b pc 4 r 0
step_row x node m b pc (Mode k) = Shown.Step x node m b pc 5 k 0
step_row x node m b pc (If g a) = Shown.Step x node m b pc 6 g a
step_row x node m b pc (Jump a) = Shown.Step x node m b pc 7 a 0
step_row x node m b pc (Future dt k) = Shown.Step x node m b pc 8 dt k

-- an instruction at index pc of block b of a part, on a node
abbrev pub part_acts : ℕ → ℕ → Sensed → Times → List Part → ℕ → Part → EInstr → Acted
part_acts x node sensed times parts pc (Part.Host h s) i =
    host_acts x node (value_on parts sensed h.number.0) times h s pc i
part_acts x node sensed times parts pc (Part.Outside p s) i = stub_acts x node p s pc i

-- ---- a turn

-- where a turn stands: between blocks, or at an index of a block of a part
pub data Spot : Type 0 where
  Between : Spot
  In : (part block pc : ℕ) → Spot

-- how a turn ends: the parts and the rows, or a trap
pub data Turned : Type 0 where
  Finished : List Part → List Shown → Turned
  Trapped : Why → Turned

-- what goes on from a spot, with these parts and these rows so far
abbrev pub Next : Type 0
Next = Spot → List Part → List Shown → Turned

-- after an instruction of part k
abbrev pub acted : Next → ℕ → ℕ → List Part → List Shown → Acted → Turned
acted next k b parts rows (Acted.On p more pc) = next (Spot.In k b pc) (changed_at k (λ _. p) parts) (rows ++ more)
acted next k b parts rows (Acted.Over p more) = next Spot.Between (changed_at k (λ _. p) parts) (rows ++ more)
acted next k b parts rows (Acted.Stop reason) = Turned.Trapped reason

-- the instruction that is fetched from part k, if there is one
abbrev pub fetched : Next → ℕ → ℕ → Sensed → Times → ℕ → ℕ → ℕ → List Part → List Shown → Option Part → Option EInstr →
    Turned
fetched next x node sensed times k b pc parts rows (Some p) (Some i) =
    acted next k b parts (rows
    ++ step_row x node (part_number p) b pc i ∷ []) (part_acts x node sensed times parts pc p i)
fetched next x node sensed times k b pc parts rows p i = Turned.Trapped why.Lost

-- no instruction is left in the count
abbrev pub spent : Option EInstr → Turned
spent None = Turned.Trapped why.Lost
spent (Some i) = Turned.Trapped why.Budget

-- the instruction at index pc of block b of part k
abbrev pub part_instr : List Part → ℕ → ℕ → ℕ → Option EInstr
part_instr parts k b pc = option_and_then (λ p. slice_get (code_at b p) pc) (slice_get parts k)

-- a due trigger is taken out and its block begun; where none is due the turn is over
abbrev pub block_begun : (ℕ → ℕ → ℕ → List Part → Turned) → List Part → List Shown → Option Due → Turned
block_begun go parts rows None = Turned.Finished parts rows
block_begun go parts rows (Some d) =
    go d.part (unwrap_or (option_map (due_block_number d) (slice_get parts d.part)) 0) 0
    (changed_at d.part (taken_out d) parts)

-- the next instruction: of the block that is run, or of the block of the least due trigger
abbrev pub picked : (ℕ → ℕ → ℕ → List Part → Turned) → ℕ → List Part → List Shown → Spot → Turned
picked go x parts rows (Spot.In k b pc) = go k b pc parts
picked go x parts rows Spot.Between = block_begun go parts rows (least_due x parts)

-- a turn with so many instructions left
unfoldable pub turn : ℕ → ℕ → ℕ → Sensed → Times → Next
turn zero x node sensed times spot parts rows = picked (λ k b pc ps. spent (part_instr ps k b pc)) x parts rows spot
turn (suc n) x node sensed times spot parts rows =
    picked (λ k b pc ps. fetched (turn n x node sensed times) x node sensed times k b pc ps rows (slice_get ps k)
    (part_instr ps k b pc)) x parts rows spot
