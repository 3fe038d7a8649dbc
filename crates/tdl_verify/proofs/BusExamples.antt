-- Closed facts of frames: which one leaves after a switch, and when a stub takes what has arrived.
use Rattle.std.proofs.Common.{◌≡◌, ℕ, pos, true, List, [], ◌∷◌, Some, None, codes, refl}
use Rattle.tdl_base.specs.declared.kinds.Kind.TheVariants.{Int}
use Rattle.tdl_ecode.specs.declared.instr.EInstr.TheVariants as e
use Rattle.tdl_frame.specs.Frames.{Frame}
use Rattle.tdl_image.specs.declared.bundle.Initial.{Initial}
use Rattle.tdl_image.specs.declared.hosted.Hosted.{Hosted}
use Rattle.tdl_image.specs.declared.hosted.TaskTable.{TaskTable}
use Rattle.tdl_image.specs.declared.hosted.ImageWindow.{ImageWindow}
use Rattle.tdl_image.specs.declared.hosted.ReleaseEntry.{ReleaseEntry}
use Rattle.tdl_image.specs.declared.stub.Stub.{Stub}
use Rattle.tdl_verify.specs.States.{Slot, HostNow, Part, NodeNow, node_first}
use Rattle.tdl_verify.specs.Turns.{least_due}
use Rattle.tdl_verify.specs.Bus.{Start, starts, node_received}

-- a bus window of the first invocation of a mode, from 2 to 3
abbrev bus_window : (mode : ℕ) → ImageWindow
bus_window mode = record { bus = true; mode = mode; invocation = 1; offset = 2; length = 1 }

-- the first invocation of a mode, of the one task
abbrev release : (mode : ℕ) → ReleaseEntry
release mode = record { mode = mode; invocation = 1; call = 0 }

-- the output of the one task
abbrev output : List Initial
output = record { kind = Int; name = codes "o"; initial = pos 10 } ∷ []

-- the one task
abbrev task : TaskTable
task = record {
  name = codes "inc";
  worst = 2;
  inputs = [];
  outputs = output;
  locals = [];
  body = record { instrs = [] };
}

-- a module with one task, which is invoked and sent in each of two modes
abbrev sender : Hosted
sender = record {
  number = record { 0 = 0 };
  name = codes "P";
  sensors = [];
  actuators = [];
  tasks = task ∷ [];
  modes = codes "main" ∷ codes "fast" ∷ [];
  calls = record { task = 0; args = [] } ∷ [];
  releases = release 0 ∷ release 1 ∷ [];
  guards = [];
  drivers = [];
  windows = bus_window 0 ∷ bus_window 1 ∷ [];
  blocks = [];
  entry = 0;
}

-- the module after its switch to the second mode at 5, with the job of that mode done
abbrev switched : HostNow
switched = record {
  mode = Some 1;
  base = 5;
  trigger = None;
  tasks = record { outputs = pos 11 ∷ []; slot = Slot.Done 1 1 (pos 12 ∷ []); released = 2 } ∷ [];
  actuators = [];
}

-- the frame of a job that was executed in a mode
abbrev executed_in : (mode : ℕ) → Frame
executed_in mode = record {
  owner = 0;
  mode = mode;
  members = record { invocation = 1; executed = true; kinds = Int ∷ []; values = pos 12 ∷ [] } ∷ [];
}

-- after a switch one frame leaves, that of the new mode
starts-switched : starts 7 (Part.Host sender switched) ≡ Start.Sends (executed_in 1) 8 ∷ []
starts-switched = refl

-- a stub whose entry is due one microsecond after its frame
abbrev receiver : Stub
receiver = record {
  number = record { 0 = 0 };
  name = codes "P";
  tasks = record { number = 0; name = codes "inc"; outputs = output } ∷ [];
  entries = record { mode = 1; invocation = 1; task = 0; delta = 1; block = 0 } ∷ [];
  blocks = record { phase = 1; code = e.Take 0 ∷ e.Return ∷ [] } ∷ [];
}

-- a node with the stub, after the frame's arrival at 8
abbrev receiving : NodeNow
receiving =
    node_received 8 (executed_in 1)
    (node_first (record { node = codes "n2"; declared = 2; hosted = []; stubs = receiver ∷ [] }))

-- nothing is due when the frame arrives
due-arrival : least_due 8 receiving.parts ≡ None
due-arrival = refl

-- the entry is due when its time has passed
due-later : least_due 9 receiving.parts ≡ Some (record { part = 0; entry = 0 })
due-later = refl
