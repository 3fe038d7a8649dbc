-- The bundle of a node `n1` with a module `P`: every 5 ms a task `inc` adds a sensor's number to its output, in the
-- first 200 us.
use Rattle.std.specs.Prelude.{ℕ, pos, true, false, [], ◌∷◌, codes}
use Rattle.tdl_base.specs.declared.kinds.Kind.TheVariants.{Int}
use Rattle.tdl_base.specs.declared.arithmetic.BinOp.TheVariants.{Add}
use Rattle.tdl_base.specs.declared.numbers.Place.TheVariants.{Sensor, Port, Cell}
use Rattle.tdl_base.specs.declared.numbers.PortKey.{PortKey}
use Rattle.tdl_stack.specs.declared.instr.Code.{Code}
use Rattle.tdl_stack.specs.declared.instr.Instr.TheVariants.{Load, Store, Bin}
use Rattle.tdl_ecode.specs.declared.instr.Block.{Block}
use Rattle.tdl_ecode.specs.declared.instr.EInstr.TheVariants.{Call, Release, End, Take, Mode, Future, Return}
use Rattle.tdl_image.specs.declared.bundle.Bundle.{Bundle}
use Rattle.tdl_image.specs.declared.bundle.Image.{Image}
use Rattle.tdl_image.specs.declared.bundle.KindName.{KindName}
use Rattle.tdl_image.specs.declared.bundle.Initial.{Initial}
use Rattle.tdl_image.specs.declared.hosted.Hosted.{Hosted}
use Rattle.tdl_image.specs.declared.hosted.TaskTable.{TaskTable}
use Rattle.tdl_image.specs.declared.hosted.CallEntry.{CallEntry}
use Rattle.tdl_image.specs.declared.hosted.ReleaseEntry.{ReleaseEntry}
use Rattle.tdl_image.specs.declared.hosted.Driver.{Driver}
use Rattle.tdl_image.specs.declared.hosted.ImageWindow.{ImageWindow}
use Rattle.tdl_image.specs.declared.stub.Stub.{Stub}
use Rattle.tdl_image.specs.declared.stub.StubTask.{StubTask}
use Rattle.tdl_image.specs.declared.stub.Receive.{Receive}
use Rattle.tdl_image.specs.Spelling.{Bytes}

-- the sensor
abbrev pub sensor : KindName
sensor = record { kind = Int; name = codes "s" }

-- the output
abbrev pub output : Initial
output = record { kind = Int; name = codes "o"; initial = pos 10 }

-- `o := o + a`
abbrev pub body : Code
body = record { instrs = Load (Cell 1) ∷ Load (Cell 0) ∷ Bin Add ∷ Store 1 ∷ [] }

-- the task
abbrev pub task : TaskTable
task = record {
  name = codes "inc";
  worst = 200;
  inputs = Int ∷ [];
  outputs = output ∷ [];
  locals = [];
  body = body;
}

-- the task's argument: the sensor's number
abbrev pub argument : Code
argument = record { instrs = Load (Sensor 0) ∷ [] }

-- the call of the task
abbrev pub call : CallEntry
call = record { task = 0; args = argument ∷ [] }

-- the release of the mode's only job
abbrev pub release : ReleaseEntry
release = record { mode = 0; invocation = 1; call = 0 }

-- the job's window on the processor
abbrev pub window : ImageWindow
window = record { bus = false; mode = 0; invocation = 1; offset = 0; length = 200 }

-- at the start: the mode is entered, and its cycle starts at once
abbrev pub start_block : Block
start_block = record { phase = 3; code = Mode 0 ∷ Future 0 1 ∷ Return ∷ [] }

-- at the start of a cycle: the job is released, and ends after 5 ms
abbrev pub release_block : Block
release_block = record { phase = 4; code = Release 0 ∷ Future 5000 2 ∷ Return ∷ [] }

-- at the end of a cycle, first the job ends
abbrev pub end_block : Block
end_block = record { phase = 1; code = End 0 ∷ Future 0 3 ∷ Return ∷ [] }

-- then actuators would be updated
abbrev pub update_block : Block
update_block = record { phase = 2; code = Future 0 4 ∷ Return ∷ [] }

-- then the next cycle starts
abbrev pub next_block : Block
next_block = record { phase = 3; code = Mode 0 ∷ Future 0 1 ∷ Return ∷ [] }

-- the module
abbrev pub host : Hosted
host = record {
  number = record { 0 = 0 };
  name = codes "P";
  sensors = sensor ∷ [];
  actuators = [];
  tasks = task ∷ [];
  modes = codes "main" ∷ [];
  calls = call ∷ [];
  releases = release ∷ [];
  guards = [];
  drivers = [];
  windows = window ∷ [];
  blocks = start_block ∷ release_block ∷ end_block ∷ update_block ∷ next_block ∷ [];
  entry = 0;
}

-- the image of the node
abbrev pub image : Image
image = record { node = codes "n1"; declared = 11; hosted = host ∷ []; stubs = [] }

-- the bundle
abbrev pub counting : Bundle
counting = record { images = image ∷ [] }

-- the bundle with another declared count
abbrev pub with_declared : ℕ → Bundle
with_declared n = record { images = record image { declared = n } ∷ [] }

-- the bundle with another worst case
abbrev pub with_worst : ℕ → Bundle
with_worst n = record {
  images = record image { hosted = record host { tasks = record task { worst = n } ∷ [] } ∷ [] } ∷ [];
}

-- the bytes of `counting`, part by part
abbrev pub counting_bytes : Bytes
counting_bytes =
    0x54 ∷ 0x44 ∷ 0x4c ∷ 0x42 ∷ 0x00 ∷ 0x01 ∷ 0x00 ∷ 0x01 ∷ 0x02 ∷ 0x6e ∷ 0x31 ∷ 0x00 ∷ 0x00 ∷ 0x00 ∷ 0x0b ∷ 0x00 ∷
    0x01 ∷ 0x00 ∷ 0x00 ∷ 0x01 ∷ 0x50 ∷
    0x00 ∷ 0x01 ∷ 0x03 ∷ 0x01 ∷ 0x73 ∷ 0x00 ∷ 0x00 ∷
    0x00 ∷ 0x01 ∷ 0x03 ∷ 0x69 ∷ 0x6e ∷ 0x63 ∷ 0x00 ∷ 0x00 ∷ 0x00 ∷ 0xc8 ∷ 0x00 ∷ 0x01 ∷ 0x03 ∷ 0x00 ∷ 0x01 ∷ 0x03 ∷
    0x01 ∷ 0x6f ∷ 0x00 ∷ 0x00 ∷ 0x00 ∷ 0x00 ∷ 0x00 ∷ 0x00 ∷ 0x00 ∷ 0x0a ∷ 0x00 ∷ 0x00 ∷
    0x00 ∷ 0x00 ∷ 0x00 ∷ 0x04 ∷ 0x03 ∷ 0x00 ∷ 0x01 ∷ 0x03 ∷ 0x00 ∷ 0x00 ∷ 0x06 ∷ 0x00 ∷ 0x04 ∷ 0x00 ∷ 0x01 ∷
    0x00 ∷ 0x01 ∷ 0x04 ∷ 0x6d ∷ 0x61 ∷ 0x69 ∷ 0x6e ∷
    0x00 ∷ 0x01 ∷ 0x00 ∷ 0x00 ∷ 0x00 ∷ 0x01 ∷ 0x00 ∷ 0x00 ∷ 0x00 ∷ 0x01 ∷ 0x01 ∷ 0x00 ∷ 0x00 ∷ 0x00 ∷ 0x01 ∷ 0x00 ∷
    0x00 ∷ 0x00 ∷ 0x01 ∷ 0x00 ∷ 0x00 ∷ 0x00 ∷ 0x00 ∷ 0x00 ∷ 0x00 ∷
    0x00 ∷ 0x00 ∷ 0x00 ∷ 0x01 ∷ 0x00 ∷ 0x00 ∷ 0x00 ∷ 0x00 ∷ 0x01 ∷ 0x00 ∷ 0x00 ∷ 0x00 ∷ 0x00 ∷ 0x00 ∷ 0x00 ∷ 0x00 ∷
    0xc8 ∷
    0x00 ∷ 0x00 ∷ 0x00 ∷ 0x05 ∷
    0x03 ∷ 0x00 ∷ 0x00 ∷ 0x00 ∷ 0x03 ∷ 0x05 ∷ 0x00 ∷ 0x00 ∷ 0x08 ∷ 0x00 ∷ 0x00 ∷ 0x00 ∷ 0x00 ∷ 0x00 ∷ 0x00 ∷ 0x00 ∷
    0x01 ∷ 0x00 ∷
    0x04 ∷ 0x00 ∷ 0x00 ∷ 0x00 ∷ 0x03 ∷ 0x02 ∷ 0x00 ∷ 0x00 ∷ 0x08 ∷ 0x00 ∷ 0x00 ∷ 0x13 ∷ 0x88 ∷ 0x00 ∷ 0x00 ∷ 0x00 ∷
    0x02 ∷ 0x00 ∷
    0x01 ∷ 0x00 ∷ 0x00 ∷ 0x00 ∷ 0x03 ∷ 0x03 ∷ 0x00 ∷ 0x00 ∷ 0x08 ∷ 0x00 ∷ 0x00 ∷ 0x00 ∷ 0x00 ∷ 0x00 ∷ 0x00 ∷ 0x00 ∷
    0x03 ∷ 0x00 ∷
    0x02 ∷ 0x00 ∷ 0x00 ∷ 0x00 ∷ 0x02 ∷ 0x08 ∷ 0x00 ∷ 0x00 ∷ 0x00 ∷ 0x00 ∷ 0x00 ∷ 0x00 ∷ 0x00 ∷ 0x04 ∷ 0x00 ∷
    0x03 ∷ 0x00 ∷ 0x00 ∷ 0x00 ∷ 0x03 ∷ 0x05 ∷ 0x00 ∷ 0x00 ∷ 0x08 ∷ 0x00 ∷ 0x00 ∷ 0x00 ∷ 0x00 ∷ 0x00 ∷ 0x00 ∷ 0x00 ∷
    0x01 ∷ 0x00 ∷
    0x00 ∷ 0x00 ∷ 0x00 ∷ 0x00 ∷ 0x00 ∷ 0x00 ∷ []

-- ---- what a second node would have, with a module `C` that shows that output on an actuator

-- the bus window of the job's frame: 42 us at the end of the cycle
abbrev pub bus_window : ImageWindow
bus_window = record { bus = true; mode = 0; invocation = 1; offset = 4958; length = 42 }

-- the actuator
abbrev pub actuator : Initial
actuator = record { kind = Int; name = codes "v"; initial = pos 0 }

-- the output's key
abbrev pub output_key : PortKey
output_key = record { «module» = record { 0 = 0 }; task = record { 0 = 0 }; output = 0 }

-- the update of the actuator with the output
abbrev pub driver : Driver
driver = record { actuator = 0; value = record { instrs = Load (Port output_key) ∷ [] } }

-- at the start of a cycle there is nothing to release
abbrev pub wait_block : Block
wait_block = record { phase = 4; code = Future 5000 2 ∷ Return ∷ [] }

-- at its end no job ends
abbrev pub idle_block : Block
idle_block = record { phase = 1; code = Future 0 3 ∷ Return ∷ [] }

-- then the actuator is updated
abbrev pub show_block : Block
show_block = record { phase = 2; code = Call 0 ∷ Future 0 4 ∷ Return ∷ [] }

-- the module
abbrev pub showing_host : Hosted
showing_host = record {
  number = record { 0 = 1 };
  name = codes "C";
  sensors = [];
  actuators = actuator ∷ [];
  tasks = [];
  modes = codes "main" ∷ [];
  calls = [];
  releases = [];
  guards = [];
  drivers = driver ∷ [];
  windows = [];
  blocks = start_block ∷ wait_block ∷ idle_block ∷ show_block ∷ next_block ∷ [];
  entry = 0;
}

-- the task `inc`, as a node sees it that does not host it
abbrev pub remote_task : StubTask
remote_task = record { number = 0; name = codes "inc"; outputs = output ∷ [] }

-- the frame of its job is taken over when it arrives
abbrev pub receive : Receive
receive = record { mode = 0; invocation = 1; task = 0; delta = 0; block = 0 }

-- the block that does so
abbrev pub example_take_block : Block
example_take_block = record { phase = 1; code = Take 0 ∷ Return ∷ [] }

-- the stub of `P`
abbrev pub stub : Stub
stub = record {
  number = record { 0 = 0 };
  name = codes "P";
  tasks = remote_task ∷ [];
  entries = receive ∷ [];
  blocks = example_take_block ∷ [];
}

-- the image of the node
abbrev pub showing : Image
showing = record { node = codes "n2"; declared = 12; hosted = showing_host ∷ []; stubs = stub ∷ [] }

-- its bytes, part by part
abbrev pub showing_bytes : Bytes
showing_bytes =
    0x02 ∷ 0x6e ∷ 0x32 ∷ 0x00 ∷ 0x00 ∷ 0x00 ∷ 0x0c ∷
    0x00 ∷ 0x01 ∷ 0x00 ∷ 0x01 ∷ 0x01 ∷ 0x43 ∷ 0x00 ∷ 0x00 ∷ 0x00 ∷ 0x01 ∷ 0x03 ∷ 0x01 ∷ 0x76 ∷ 0x00 ∷ 0x00 ∷ 0x00 ∷
    0x00 ∷ 0x00 ∷ 0x00 ∷ 0x00 ∷ 0x00 ∷ 0x00 ∷ 0x00 ∷ 0x00 ∷ 0x01 ∷ 0x04 ∷ 0x6d ∷ 0x61 ∷ 0x69 ∷ 0x6e ∷
    0x00 ∷ 0x00 ∷ 0x00 ∷ 0x00 ∷ 0x00 ∷ 0x00 ∷ 0x00 ∷ 0x01 ∷ 0x00 ∷ 0x00 ∷ 0x00 ∷ 0x00 ∷ 0x00 ∷ 0x01 ∷ 0x02 ∷ 0x00 ∷
    0x00 ∷ 0x00 ∷ 0x00 ∷ 0x00 ∷ 0x00 ∷
    0x00 ∷ 0x00 ∷ 0x00 ∷ 0x00 ∷
    0x00 ∷ 0x00 ∷ 0x00 ∷ 0x05 ∷
    0x03 ∷ 0x00 ∷ 0x00 ∷ 0x00 ∷ 0x03 ∷ 0x05 ∷ 0x00 ∷ 0x00 ∷ 0x08 ∷ 0x00 ∷ 0x00 ∷ 0x00 ∷ 0x00 ∷ 0x00 ∷ 0x00 ∷ 0x00 ∷
    0x01 ∷ 0x00 ∷
    0x04 ∷ 0x00 ∷ 0x00 ∷ 0x00 ∷ 0x02 ∷ 0x08 ∷ 0x00 ∷ 0x00 ∷ 0x13 ∷ 0x88 ∷ 0x00 ∷ 0x00 ∷ 0x00 ∷ 0x02 ∷ 0x00 ∷
    0x01 ∷ 0x00 ∷ 0x00 ∷ 0x00 ∷ 0x02 ∷ 0x08 ∷ 0x00 ∷ 0x00 ∷ 0x00 ∷ 0x00 ∷ 0x00 ∷ 0x00 ∷ 0x00 ∷ 0x03 ∷ 0x00 ∷
    0x02 ∷ 0x00 ∷ 0x00 ∷ 0x00 ∷ 0x03 ∷ 0x01 ∷ 0x00 ∷ 0x00 ∷ 0x08 ∷ 0x00 ∷ 0x00 ∷ 0x00 ∷ 0x00 ∷ 0x00 ∷ 0x00 ∷ 0x00 ∷
    0x04 ∷ 0x00 ∷
    0x03 ∷ 0x00 ∷ 0x00 ∷ 0x00 ∷ 0x03 ∷ 0x05 ∷ 0x00 ∷ 0x00 ∷ 0x08 ∷ 0x00 ∷ 0x00 ∷ 0x00 ∷ 0x00 ∷ 0x00 ∷ 0x00 ∷ 0x00 ∷
    0x01 ∷ 0x00 ∷
    0x00 ∷ 0x00 ∷ 0x00 ∷ 0x00 ∷
    0x00 ∷ 0x01 ∷ 0x00 ∷ 0x00 ∷ 0x01 ∷ 0x50 ∷
    0x00 ∷ 0x01 ∷ 0x00 ∷ 0x00 ∷ 0x03 ∷ 0x69 ∷ 0x6e ∷ 0x63 ∷ 0x00 ∷ 0x01 ∷ 0x03 ∷ 0x01 ∷ 0x6f ∷ 0x00 ∷ 0x00 ∷ 0x00 ∷
    0x00 ∷ 0x00 ∷ 0x00 ∷ 0x00 ∷ 0x0a ∷
    0x00 ∷ 0x01 ∷ 0x00 ∷ 0x00 ∷ 0x00 ∷ 0x01 ∷ 0x00 ∷ 0x00 ∷ 0x00 ∷ 0x00 ∷ 0x00 ∷ 0x00 ∷ 0x00 ∷ 0x00 ∷ 0x00 ∷ 0x00 ∷
    0x00 ∷ 0x00 ∷ 0x00 ∷ 0x01 ∷ 0x01 ∷ 0x00 ∷ 0x00 ∷ 0x00 ∷ 0x02 ∷ 0x04 ∷ 0x00 ∷ 0x00 ∷ 0x00 ∷ []
