-- Which bundles have a spelling: names are identifiers, lists fit their counts, numbers are in their ranges.
use Rattle.std.specs.Prelude.{◌<◌, ◌≤◌, List, length, map, All}
use Rattle.std.specs.List.Sorted.{IsStrictlyIncreasing}
use Rattle.tdl_base.specs.Bytes.{FitsShort, FitsWord}
use Rattle.tdl_base.specs.Numbers.{IsOfKind}
use Rattle.tdl_base.specs.declared.limits.TheConstants.{NODES}
use Rattle.tdl_stack.specs.Spelling as stack
use Rattle.tdl_ecode.specs.Spelling as ecode
use Rattle.tdl_stack.specs.declared.instr.Code.{Code}
use Rattle.tdl_ecode.specs.declared.instr.Block.{Block}
use Rattle.tdl_image.specs.declared.bundle.Bundle.{Bundle}
use Rattle.tdl_image.specs.declared.bundle.Image.{Image}
use Rattle.tdl_image.specs.declared.bundle.KindName.{KindName}
use Rattle.tdl_image.specs.declared.bundle.Initial.{Initial}
use Rattle.tdl_image.specs.declared.hosted.Hosted.{Hosted}
use Rattle.tdl_image.specs.declared.hosted.TaskTable.{TaskTable}
use Rattle.tdl_image.specs.declared.hosted.CallEntry.{CallEntry}
use Rattle.tdl_image.specs.declared.hosted.ReleaseEntry.{ReleaseEntry}
use Rattle.tdl_image.specs.declared.hosted.Driver.{Driver}
use Rattle.tdl_image.specs.declared.hosted.ImageWindow.{ImageWindow}
use Rattle.tdl_image.specs.declared.stub.Stub.{Stub}
use Rattle.tdl_image.specs.declared.stub.StubTask.{StubTask}
use Rattle.tdl_image.specs.declared.stub.Receive.{Receive}
use Rattle.tdl_image.specs.Identifiers.{IsIdentifier}

-- the count of the list fits two bytes
abbrev pub IsShortList : {X : Type 0} → List X → Type 0
IsShortList items = FitsShort (length items)

-- the count of the list fits four bytes
abbrev pub IsLongList : {X : Type 0} → List X → Type 0
IsLongList items = FitsWord (length items)

-- a code's count of instructions fits, and so do their operands
pub record IsSpellableCode (code : Code) : Type 0 where
  pub count : IsLongList code.instrs
  pub instrs : All stack.IsInRange code.instrs

-- a block has a phase from 1 to 4, and its count of instructions fits, and so do their operands
pub record IsSpellableBlock (block : Block) : Type 0 where
  pub at_least : 1 ≤ block.phase
  pub at_most : block.phase ≤ 4
  pub count : IsLongList block.code
  pub code : All ecode.IsInRange block.code

-- a sensor's name is an identifier
pub record IsSpellableSensor (sensor : KindName) : Type 0 where
  pub name : IsIdentifier sensor.name

-- an actuator or an output has an identifier as its name, and a number of its kind, which fits eight bytes
pub record IsSpellableInitial (port : Initial) : Type 0 where
  pub name : IsIdentifier port.name
  pub initial : IsOfKind port.kind port.initial

-- a task has an identifier as its name, a worst case above 0 that fits, and lists that fit
pub record IsSpellableTask (task : TaskTable) : Type 0 where
  pub name : IsIdentifier task.name
  pub worst : 0 < task.worst
  pub worst_fits : FitsWord task.worst
  pub input_count : IsShortList task.inputs
  pub output_count : IsShortList task.outputs
  pub local_count : IsShortList task.locals
  pub outputs : All IsSpellableInitial task.outputs
  pub body : IsSpellableCode task.body

-- the task of a call fits, and its arguments do
pub record IsSpellableCall (call : CallEntry) : Type 0 where
  pub task : FitsShort call.task
  pub count : IsShortList call.args
  pub args : All IsSpellableCode call.args

-- the numbers of a release fit
pub record IsSpellableRelease (release : ReleaseEntry) : Type 0 where
  pub mode : FitsShort release.mode
  pub invocation : FitsShort release.invocation
  pub call : FitsShort release.call

-- the actuator of a driver fits, and its expression does
pub record IsSpellableDriver (driver : Driver) : Type 0 where
  pub actuator : FitsShort driver.actuator
  pub value : IsSpellableCode driver.value

-- the numbers of a window fit
pub record IsSpellableWindow (window : ImageWindow) : Type 0 where
  pub mode : FitsShort window.mode
  pub invocation : FitsShort window.invocation
  pub offset : FitsWord window.offset
  pub length : FitsWord window.length

-- a hosted module has identifiers as names, numbers and lists that fit, and parts that can be spelled
pub record IsSpellableHosted (host : Hosted) : Type 0 where
  pub number : FitsShort host.number.0
  pub name : IsIdentifier host.name
  pub sensor_count : IsShortList host.sensors
  pub actuator_count : IsShortList host.actuators
  pub task_count : IsShortList host.tasks
  pub mode_count : IsShortList host.modes
  pub call_count : IsShortList host.calls
  pub release_count : IsShortList host.releases
  pub guard_count : IsShortList host.guards
  pub driver_count : IsShortList host.drivers
  pub window_count : IsLongList host.windows
  pub block_count : IsLongList host.blocks
  pub sensors : All IsSpellableSensor host.sensors
  pub actuators : All IsSpellableInitial host.actuators
  pub tasks : All IsSpellableTask host.tasks
  pub modes : All IsIdentifier host.modes
  pub calls : All IsSpellableCall host.calls
  pub releases : All IsSpellableRelease host.releases
  pub guards : All IsSpellableCode host.guards
  pub drivers : All IsSpellableDriver host.drivers
  pub windows : All IsSpellableWindow host.windows
  pub blocks : All IsSpellableBlock host.blocks
  pub entry : FitsWord host.entry

-- a stub's task has a number that fits, an identifier as its name, and outputs that can be spelled
pub record IsSpellableStubTask (task : StubTask) : Type 0 where
  pub number : FitsShort task.number
  pub name : IsIdentifier task.name
  pub output_count : IsShortList task.outputs
  pub outputs : All IsSpellableInitial task.outputs

-- the numbers of a receive entry fit
pub record IsSpellableReceive (entry : Receive) : Type 0 where
  pub mode : FitsShort entry.mode
  pub invocation : FitsShort entry.invocation
  pub task : FitsShort entry.task
  pub delta : FitsWord entry.delta
  pub block : FitsWord entry.block

-- a stub has a number that fits, an identifier as its name, tasks in ascending order, and lists that fit
pub record IsSpellableStub (stub : Stub) : Type 0 where
  pub number : FitsShort stub.number.0
  pub name : IsIdentifier stub.name
  pub task_count : IsShortList stub.tasks
  pub entry_count : IsShortList stub.entries
  pub block_count : IsLongList stub.blocks
  pub tasks : All IsSpellableStubTask stub.tasks
  pub task_order : IsStrictlyIncreasing (map (λ task. task.number) stub.tasks)
  pub entries : All IsSpellableReceive stub.entries
  pub blocks : All IsSpellableBlock stub.blocks

-- an image has an identifier as its node's name, a count that fits, and hosted modules and stubs in ascending order
pub record IsSpellableImage (image : Image) : Type 0 where
  pub node : IsIdentifier image.node
  pub declared : FitsWord image.declared
  pub hosted_count : IsShortList image.hosted
  pub stub_count : IsShortList image.stubs
  pub hosted : All IsSpellableHosted image.hosted
  pub hosted_order : IsStrictlyIncreasing (map (λ host. host.number.0) image.hosted)
  pub stubs : All IsSpellableStub image.stubs
  pub stub_order : IsStrictlyIncreasing (map (λ stub. stub.number.0) image.stubs)

-- a bundle has 1 to 16 images, one for each node, that can be spelled
pub record IsSpellable (bundle : Bundle) : Type 0 where
  pub at_least : 1 ≤ length bundle.images
  pub at_most : length bundle.images ≤ NODES
  pub images : All IsSpellableImage bundle.images
