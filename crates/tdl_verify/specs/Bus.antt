-- The bus: which frames leave at an instant, and what a frame does where it arrives.
use Rattle.std.specs.Prelude.{ℕ, ◌+◌, ℤ, Bool, true, false, ◌&&◌, ◌==◌, List, [], ◌∷◌, map, filter, flat_map, find, Option, Some, None, option_map, option_and_then, unwrap_or, slice_get, if◌then◌else◌}
use Rattle.tdl_base.specs.declared.kinds.Kind.{Kind}
use Rattle.tdl_frame.specs.Frames.{Member, Frame}
use Rattle.tdl_image.specs.declared.hosted.Hosted.{Hosted}
use Rattle.tdl_image.specs.declared.hosted.ReleaseEntry.{ReleaseEntry}
use Rattle.tdl_image.specs.declared.hosted.ImageWindow.{ImageWindow}
use Rattle.tdl_image.specs.declared.stub.Receive.{Receive}
use Rattle.tdl_verify.specs.States.{Slot, TaskNow, HostNow, EntryNow, Part, NodeNow}
use Rattle.tdl_verify.specs.Turns.{is_mode}

-- a frame on the bus: its number in order of sending from 1, when it was sent and until when it is there
pub record Flight : Type 0 where
  pub number : ℕ
  pub sent_at : ℕ
  pub until : ℕ
  pub frame : Frame

-- what starts on a node at one instant: nothing, a frame, a frame whose job is not done, or two frames
pub data Start : Type 0 where
  Nothing : Start
  Sends : Frame → (until : ℕ) → Start
  Late : Start
  Two : Start

-- a bus window of the module's mode starts at x
abbrev pub starts_at : ℕ → HostNow → ImageWindow → Bool
starts_at x s w = w.bus && (is_mode w.mode s.mode && s.base + w.offset == x)

-- the task of an invocation of a mode
abbrev pub task_of : Hosted → ℕ → ℕ → ℕ
task_of h mode invocation =
    unwrap_or (option_map (λ c. c.task)
    (option_and_then (λ (r : ReleaseEntry). slice_get h.calls r.call)
    (find (λ r. r.mode == mode && r.invocation == invocation) h.releases))) 0

-- the kinds of the outputs of a task
abbrev pub output_kinds : Hosted → ℕ → List Kind
output_kinds h t = unwrap_or (option_map (λ k. map (λ o. o.kind) k.outputs) (slice_get h.tasks t)) []

-- the member of a window, where its job was executed or not, with these outputs
abbrev pub window_member : Hosted → ImageWindow → Bool → List ℤ → Member
window_member h w executed outputs = record {
  invocation = w.invocation;
  executed = executed;
  kinds = output_kinds h (task_of h w.mode w.invocation);
  values = outputs;
}

-- what a window sends, by its task's committed outputs and slot: the outputs of its job where it is done, none where it
-- is not, and the committed outputs where no such job was released
abbrev pub member_by : Hosted → ImageWindow → List ℤ → Slot → Option Member
member_by h w outputs Slot.Idle = Some (window_member h w false outputs)
member_by h w outputs (Slot.Ready mode invocation left cells) =
    if mode == w.mode && invocation == w.invocation then None else Some (window_member h w false outputs)
member_by h w outputs (Slot.Done mode invocation made) =
    if mode == w.mode && invocation == w.invocation then Some (window_member h w true made)
    else Some (window_member h w false outputs)

-- what a window of a module sends
abbrev pub member_of : Hosted → HostNow → ImageWindow → Option Member
member_of h s w =
    unwrap_or (option_map (λ (u : TaskNow). member_by h w u.outputs u.slot)
    (slice_get s.tasks (task_of h w.mode w.invocation)))
    (Some (window_member h w false []))

-- the start of a window that sends this member; late where there is none
abbrev pub start_by : Hosted → HostNow → ImageWindow → Option Member → Start
start_by h s w None = Start.Late
start_by h s w (Some m) =
    Start.Sends (record { owner = h.number.0; mode = w.mode; members = m ∷ [] }) (s.base + w.offset + w.length)

-- the start of one window
abbrev pub start_of : Hosted → HostNow → ImageWindow → Start
start_of h s w = start_by h s w (member_of h s w)

-- the starts of a part at x
abbrev pub starts : ℕ → Part → List Start
starts x (Part.Host h s) = map (start_of h s) (filter (starts_at x s) h.windows)
starts x (Part.Outside p s) = []

-- the starts of a node as one
abbrev pub one_start : List Start → Start
one_start [] = Start.Nothing
one_start (s ∷ []) = s
one_start (s ∷ t ∷ more) = Start.Two

-- the start of a node at x
abbrev pub node_start : ℕ → NodeNow → Start
node_start x n = one_start (flat_map (starts x) n.parts)

-- ---- arrival

-- the member of this invocation, where it was executed
abbrev pub executed_member : Frame → Receive → Option Member
executed_member f e =
    if f.mode == e.mode then find (λ (m : Member). m.executed && m.invocation == e.invocation) f.members else None

-- a receive entry after a frame of its module arrived at x
abbrev pub received : ℕ → Frame → Receive → EntryNow → EntryNow
received x f e now = unwrap_or (option_map (λ (m : Member). record { copy = m.values; due = Some (x + e.delta) }) (executed_member f e)) now

-- the receive entries of a stub after it
abbrev pub entries_received : ℕ → Frame → List Receive → List EntryNow → List EntryNow
entries_received x f (e ∷ es) (now ∷ more) = received x f e now ∷ entries_received x f es more
entries_received x f es more = more

-- a part after a frame arrived
abbrev pub part_received : ℕ → Frame → Part → Part
part_received x f (Part.Host h s) = Part.Host h s
part_received x f (Part.Outside p s) =
    if p.number.0 == f.owner then Part.Outside p (record s { entries = entries_received x f p.entries s.entries })
    else Part.Outside p s

-- a node after a frame arrived
abbrev pub node_received : ℕ → Frame → NodeNow → NodeNow
node_received x f n = record n { parts = map (part_received x f) n.parts }
