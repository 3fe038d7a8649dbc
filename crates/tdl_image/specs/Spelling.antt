-- How a bundle is spelled in bytes: the parts of each thing in turn, numbers with their high byte first.
use Rattle.std.specs.Prelude.{ℕ, Bool, true, false, List, [], ◌∷◌, ◌++◌, length, codes}
use Rattle.std.specs.List.{flat_map}
use Rattle.tdl_base.specs.Bytes.{long, short, word}
use Rattle.tdl_base.specs.declared.kinds.Kind.{Kind}
use Rattle.tdl_base.specs.declared.kinds.Kind.TheVariants.{Boolean, Byte, Short, Int, Long}
use Rattle.tdl_stack.specs.declared.instr.Code.{Code}
use Rattle.tdl_stack.specs.Spelling.{code_bytes}
use Rattle.tdl_ecode.specs.declared.instr.Block.{Block}
use Rattle.tdl_ecode.specs.Spelling.{einstr_bytes}
use Rattle.tdl_image.specs.declared.bundle.Bundle.{Bundle}
use Rattle.tdl_image.specs.declared.bundle.Image.{Image}
use Rattle.tdl_image.specs.declared.bundle.KindName.{KindName}
use Rattle.tdl_image.specs.declared.bundle.Initial.{Initial}
use Rattle.tdl_image.specs.declared.hosted.Hosted.{Hosted}
use Rattle.tdl_image.specs.declared.hosted.TaskTable.{TaskTable}
use Rattle.tdl_image.specs.declared.hosted.CallEntry.{CallEntry}
use Rattle.tdl_image.specs.declared.hosted.ReleaseEntry.{ReleaseEntry}
use Rattle.tdl_image.specs.declared.hosted.Driver.{Driver}
use Rattle.tdl_image.specs.declared.hosted.ImageWindow.{ImageWindow}
use Rattle.tdl_image.specs.declared.stub.Stub.{Stub}
use Rattle.tdl_image.specs.declared.stub.StubTask.{StubTask}
use Rattle.tdl_image.specs.declared.stub.Receive.{Receive}

-- a text is a list of bytes
abbrev pub Bytes : Type 0
Bytes = List ℕ

-- a number of one byte
abbrev pub byte : ℕ → Bytes
byte n = n ∷ []

-- a string: the count of its bytes in one byte, and the bytes
abbrev pub string : Bytes → Bytes
string name = byte (length name) ++ name

-- a short list: the count of its items in two bytes, and the items
abbrev pub short_list : {X : Type 0} → (X → Bytes) → List X → Bytes
short_list item items = short (length items) ++ flat_map item items

-- a long list: the count of its items in four bytes, and the items
abbrev pub long_list : {X : Type 0} → (X → Bytes) → List X → Bytes
long_list item items = word (length items) ++ flat_map item items

-- the number of a kind
abbrev pub kind_number : Kind → ℕ
kind_number Boolean = 0
kind_number Byte = 1
kind_number Short = 2
kind_number Int = 3
kind_number Long = 4

-- the number of a resource: 0 the processor, 1 the bus
abbrev pub resource_number : Bool → ℕ
resource_number false = 0
resource_number true = 1

-- a kind
abbrev pub kind_bytes : Kind → Bytes
kind_bytes kind = byte (kind_number kind)

-- a sensor: kind, name
abbrev pub kind_name_bytes : KindName → Bytes
kind_name_bytes sensor = kind_bytes sensor.kind ++ string sensor.name

-- an actuator or an output: kind, name, initial number
abbrev pub initial_bytes : Initial → Bytes
initial_bytes port = kind_bytes port.kind ++ string port.name ++ long port.initial

-- a code: its instructions
abbrev pub stack_code_bytes : Code → Bytes
stack_code_bytes code = code_bytes code.instrs

-- a task: name, worst case, kinds of the inputs, outputs, kinds of the locals, body
abbrev pub task_bytes : TaskTable → Bytes
task_bytes task =
    string task.name ++ word task.worst ++
    short_list kind_bytes task.inputs ++ short_list initial_bytes task.outputs ++ short_list kind_bytes task.locals ++
    stack_code_bytes task.body

-- a call: task, arguments
abbrev pub call_bytes : CallEntry → Bytes
call_bytes call = short call.task ++ short_list stack_code_bytes call.args

-- a release: mode, invocation, call
abbrev pub release_bytes : ReleaseEntry → Bytes
release_bytes release = short release.mode ++ short release.invocation ++ short release.call

-- a driver: actuator, value
abbrev pub driver_bytes : Driver → Bytes
driver_bytes driver = short driver.actuator ++ stack_code_bytes driver.value

-- a window: resource, mode, invocation, offset, length
abbrev pub window_bytes : ImageWindow → Bytes
window_bytes window =
    byte (resource_number window.bus) ++ short window.mode ++ short window.invocation ++ word window.offset
    ++ word window.length

-- a block: phase, instructions
abbrev pub block_bytes : Block → Bytes
block_bytes block = byte block.phase ++ long_list einstr_bytes block.code

-- what a hosted module declares: number, name, sensors, actuators, tasks, names of the modes
abbrev pub declaration_bytes : Hosted → Bytes
declaration_bytes host =
    short host.number.0 ++ string host.name ++
    short_list kind_name_bytes host.sensors ++ short_list initial_bytes host.actuators ++
    short_list task_bytes host.tasks ++ short_list string host.modes

-- the tables of a hosted module: calls, releases, guards, drivers
abbrev pub table_bytes : Hosted → Bytes
table_bytes host =
    short_list call_bytes host.calls ++ short_list release_bytes host.releases ++
    short_list stack_code_bytes host.guards ++ short_list driver_bytes host.drivers

-- when a hosted module acts: windows, blocks, entry block
abbrev pub timing_bytes : Hosted → Bytes
timing_bytes host = long_list window_bytes host.windows ++ long_list block_bytes host.blocks ++ word host.entry

-- a hosted module
abbrev pub hosted_bytes : Hosted → Bytes
hosted_bytes host = declaration_bytes host ++ table_bytes host ++ timing_bytes host

-- a task of a stub: number, name, outputs
abbrev pub stub_task_bytes : StubTask → Bytes
stub_task_bytes task = short task.number ++ string task.name ++ short_list initial_bytes task.outputs

-- a receive entry: mode, invocation, task, delta, block
abbrev pub receive_bytes : Receive → Bytes
receive_bytes entry =
    short entry.mode ++ short entry.invocation ++ short entry.task ++ word entry.delta ++ word entry.block

-- a stub: number, name, tasks, receive entries, blocks
abbrev pub stub_bytes : Stub → Bytes
stub_bytes stub =
    short stub.number.0 ++ string stub.name ++
    short_list stub_task_bytes stub.tasks ++ short_list receive_bytes stub.entries ++ long_list block_bytes stub.blocks

-- an image: node, declared count, hosted modules, stubs
abbrev pub image_bytes : Image → Bytes
image_bytes image =
    string image.node ++ word image.declared ++ short_list hosted_bytes image.hosted
    ++ short_list stub_bytes image.stubs

-- a bundle: four letters, the version 1, images
abbrev pub bundle_bytes : Bundle → Bytes
bundle_bytes bundle = codes "TDLB" ++ short 1 ++ short_list image_bytes bundle.images
