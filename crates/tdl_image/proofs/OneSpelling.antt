-- Two bundles that can be spelled have one spelling only where they are one.
use Rattle.std.proofs.Common.{◌≡◌, List, [], ◌++◌, length, drop, sym, ap, ◌∙◌, arith, append-nil, All}
use Rattle.tdl_base.specs.Bytes.{Tells, IsPrefixFree}
use Rattle.tdl_base.proofs.PrefixFree.{short-prefix_free, word-prefix_free, long-prefix_free, part, in_turn, told_as}
use Rattle.tdl_stack.specs.declared.instr.Code.{Code}
use Rattle.tdl_stack.proofs.PrefixFree.{instr-prefix_free}
use Rattle.tdl_ecode.specs.declared.instr.Block.{Block}
use Rattle.tdl_ecode.proofs.Apart.{einstr-prefix_free}
use Rattle.tdl_image.specs.Spelling as spelling
use Rattle.tdl_image.specs.Spelling.{bundle_bytes}
use Rattle.tdl_image.specs.Spellable as sp
use Rattle.tdl_image.specs.Spellable.{IsSpellable}
use Rattle.tdl_image.specs.declared.bundle.Bundle.{Bundle}
use Rattle.tdl_image.specs.declared.bundle.Image.{Image}
use Rattle.tdl_image.specs.declared.bundle.KindName.{KindName}
use Rattle.tdl_image.specs.declared.bundle.Initial.{Initial}
use Rattle.tdl_image.specs.declared.hosted.Hosted.{Hosted}
use Rattle.tdl_image.specs.declared.hosted.TaskTable.{TaskTable}
use Rattle.tdl_image.specs.declared.hosted.CallEntry.{CallEntry}
use Rattle.tdl_image.specs.declared.hosted.ReleaseEntry.{ReleaseEntry}
use Rattle.tdl_image.specs.declared.hosted.Driver.{Driver}
use Rattle.tdl_image.specs.declared.hosted.ImageWindow.{ImageWindow}
use Rattle.tdl_image.specs.declared.stub.Stub.{Stub}
use Rattle.tdl_image.specs.declared.stub.StubTask.{StubTask}
use Rattle.tdl_image.specs.declared.stub.Receive.{Receive}
use Rattle.tdl_image.proofs.PrefixFree.{any, byte-prefix_free, string-prefix_free, short_list-prefix_free, long_list-prefix_free, kind-prefix_free, resource-prefix_free, of_kind_fits}

-- a code
code-prefix_free : IsPrefixFree sp.IsSpellableCode spelling.stack_code_bytes
code-prefix_free =
    told_as (part (λ (x : Code). x.instrs) (long_list-prefix_free instr-prefix_free) (λ x p. (p.count, p.instrs)))
    (λ x y same i. record { instrs = same i })

-- a block
block-prefix_free : IsPrefixFree sp.IsSpellableBlock spelling.block_bytes
block-prefix_free =
    told_as (in_turn (part (λ (x : Block). x.phase) byte-prefix_free (λ x p. tt))
    (part (λ (x : Block). x.code) (long_list-prefix_free einstr-prefix_free) (λ x p. (p.count, p.code))))
    (λ x y same i. record { phase = same.0 i; code = same.1 i })

-- a sensor
sensor-prefix_free : IsPrefixFree sp.IsSpellableSensor spelling.kind_name_bytes
sensor-prefix_free =
    told_as (in_turn (part (λ (x : KindName). x.kind) kind-prefix_free (λ x p. tt))
    (part (λ (x : KindName). x.name) string-prefix_free (λ x p. p.name)))
    (λ x y same i. record { kind = same.0 i; name = same.1 i })

-- an actuator or an output
initial-prefix_free : IsPrefixFree sp.IsSpellableInitial spelling.initial_bytes
initial-prefix_free =
    told_as (in_turn (in_turn (part (λ (x : Initial). x.kind) kind-prefix_free (λ x p. tt))
    (part (λ (x : Initial). x.name) string-prefix_free (λ x p. p.name)))
    (part (λ (x : Initial). x.initial) long-prefix_free (λ x p. of_kind_fits x.kind x.initial p.initial)))
    (λ x y same i. record { kind = same.0.0 i; name = same.0.1 i; initial = same.1 i })

-- a task
task-prefix_free : IsPrefixFree sp.IsSpellableTask spelling.task_bytes
task-prefix_free =
    told_as (in_turn
    (in_turn (in_turn (in_turn (in_turn (part (λ (x : TaskTable). x.name) string-prefix_free (λ x p. p.name))
    (part (λ (x : TaskTable). x.worst) word-prefix_free (λ x p. p.worst_fits)))
    (part (λ (x : TaskTable). x.inputs) (short_list-prefix_free kind-prefix_free)
    (λ x p. (p.input_count, any x.inputs))))
    (part (λ (x : TaskTable). x.outputs) (short_list-prefix_free initial-prefix_free)
    (λ x p. (p.output_count, p.outputs))))
    (part (λ (x : TaskTable). x.locals) (short_list-prefix_free kind-prefix_free)
    (λ x p. (p.local_count, any x.locals))))
    (part (λ (x : TaskTable). x.body) code-prefix_free (λ x p. p.body)))
    (λ x y same i.
    record {
      name = same.0.0.0.0.0 i;
      worst = same.0.0.0.0.1 i;
      inputs = same.0.0.0.1 i;
      outputs = same.0.0.1 i;
      locals = same.0.1 i;
      body = same.1 i;
    })

-- a call
call-prefix_free : IsPrefixFree sp.IsSpellableCall spelling.call_bytes
call-prefix_free =
    told_as (in_turn (part (λ (x : CallEntry). x.task) short-prefix_free (λ x p. p.task))
    (part (λ (x : CallEntry). x.args) (short_list-prefix_free code-prefix_free) (λ x p. (p.count, p.args))))
    (λ x y same i. record { task = same.0 i; args = same.1 i })

-- a release
release-prefix_free : IsPrefixFree sp.IsSpellableRelease spelling.release_bytes
release-prefix_free =
    told_as (in_turn (in_turn (part (λ (x : ReleaseEntry). x.mode) short-prefix_free (λ x p. p.mode))
    (part (λ (x : ReleaseEntry). x.invocation) short-prefix_free (λ x p. p.invocation)))
    (part (λ (x : ReleaseEntry). x.call) short-prefix_free (λ x p. p.call)))
    (λ x y same i. record { mode = same.0.0 i; invocation = same.0.1 i; call = same.1 i })

-- a driver
driver-prefix_free : IsPrefixFree sp.IsSpellableDriver spelling.driver_bytes
driver-prefix_free =
    told_as (in_turn (part (λ (x : Driver). x.actuator) short-prefix_free (λ x p. p.actuator))
    (part (λ (x : Driver). x.value) code-prefix_free (λ x p. p.value)))
    (λ x y same i. record { actuator = same.0 i; value = same.1 i })

-- a window
window-prefix_free : IsPrefixFree sp.IsSpellableWindow spelling.window_bytes
window-prefix_free =
    told_as (in_turn (in_turn (in_turn (in_turn (part (λ (x : ImageWindow). x.bus) resource-prefix_free (λ x p. tt))
    (part (λ (x : ImageWindow). x.mode) short-prefix_free (λ x p. p.mode)))
    (part (λ (x : ImageWindow). x.invocation) short-prefix_free (λ x p. p.invocation)))
    (part (λ (x : ImageWindow). x.offset) word-prefix_free (λ x p. p.offset)))
    (part (λ (x : ImageWindow). x.length) word-prefix_free (λ x p. p.length)))
    (λ x y same i.
    record {
      bus = same.0.0.0.0 i;
      mode = same.0.0.0.1 i;
      invocation = same.0.0.1 i;
      offset = same.0.1 i;
      length =
          same.1 i;
    })

-- a hosted module: what it declares, its tables, and when it acts
hosted-prefix_free : IsPrefixFree sp.IsSpellableHosted spelling.hosted_bytes
hosted-prefix_free =
    told_as (in_turn
    (in_turn
    (in_turn
    (in_turn (in_turn (in_turn (in_turn (part (λ (x : Hosted). x.number.0) short-prefix_free (λ x p. p.number))
    (part (λ (x : Hosted). x.name) string-prefix_free (λ x p. p.name)))
    (part (λ (x : Hosted). x.sensors) (short_list-prefix_free sensor-prefix_free) (λ x p. (p.sensor_count, p.sensors))))
    (part (λ (x : Hosted). x.actuators) (short_list-prefix_free initial-prefix_free)
    (λ x p. (p.actuator_count, p.actuators))))
    (part (λ (x : Hosted). x.tasks) (short_list-prefix_free task-prefix_free) (λ x p. (p.task_count, p.tasks))))
    (part (λ (x : Hosted). x.modes) (short_list-prefix_free string-prefix_free) (λ x p. (p.mode_count, p.modes))))
    (in_turn
    (in_turn
    (in_turn
    (part (λ (x : Hosted). x.calls) (short_list-prefix_free call-prefix_free) (λ x p. (p.call_count, p.calls)))
    (part (λ (x : Hosted). x.releases) (short_list-prefix_free release-prefix_free)
    (λ x p. (p.release_count, p.releases))))
    (part (λ (x : Hosted). x.guards) (short_list-prefix_free code-prefix_free) (λ x p. (p.guard_count, p.guards))))
    (part (λ (x : Hosted). x.drivers) (short_list-prefix_free driver-prefix_free)
    (λ x p. (p.driver_count, p.drivers)))))
    (in_turn
    (in_turn
    (part (λ (x : Hosted). x.windows) (long_list-prefix_free window-prefix_free)
    (λ x p. (p.window_count, p.windows)))
    (part (λ (x : Hosted). x.blocks) (long_list-prefix_free block-prefix_free) (λ x p. (p.block_count, p.blocks))))
    (part (λ (x : Hosted). x.entry) word-prefix_free (λ x p. p.entry))))
    (λ x y same i.
    record {
      number = record { 0 = same.0.0.0.0.0.0.0 i };
      name = same.0.0.0.0.0.0.1 i;
      sensors = same.0.0.0.0.0.1
          i;
      actuators = same.0.0.0.0.1 i;
      tasks = same.0.0.0.1 i;
      modes = same.0.0.1 i;
      calls =
          same.0.1.0.0.0 i;
      releases = same.0.1.0.0.1 i;
      guards = same.0.1.0.1 i;
      drivers = same.0.1.1 i;
      windows =
          same.1.0.0 i;
      blocks = same.1.0.1 i;
      entry = same.1.1 i;
    })

-- a task of a stub
stub_task-prefix_free : IsPrefixFree sp.IsSpellableStubTask spelling.stub_task_bytes
stub_task-prefix_free =
    told_as (in_turn (in_turn (part (λ (x : StubTask). x.number) short-prefix_free (λ x p. p.number))
    (part (λ (x : StubTask). x.name) string-prefix_free (λ x p. p.name)))
    (part (λ (x : StubTask). x.outputs) (short_list-prefix_free initial-prefix_free)
    (λ x p. (p.output_count, p.outputs))))
    (λ x y same i. record { number = same.0.0 i; name = same.0.1 i; outputs = same.1 i })

-- a receive entry
receive-prefix_free : IsPrefixFree sp.IsSpellableReceive spelling.receive_bytes
receive-prefix_free =
    told_as (in_turn (in_turn (in_turn (in_turn (part (λ (x : Receive). x.mode) short-prefix_free (λ x p. p.mode))
    (part (λ (x : Receive). x.invocation) short-prefix_free (λ x p. p.invocation)))
    (part (λ (x : Receive). x.task) short-prefix_free (λ x p. p.task)))
    (part (λ (x : Receive). x.delta) word-prefix_free (λ x p. p.delta)))
    (part (λ (x : Receive). x.block) word-prefix_free (λ x p. p.block)))
    (λ x y same i.
    record {
      mode = same.0.0.0.0 i;
      invocation = same.0.0.0.1 i;
      task = same.0.0.1 i;
      delta = same.0.1 i;
      block =
          same.1 i;
    })

-- a stub
stub-prefix_free : IsPrefixFree sp.IsSpellableStub spelling.stub_bytes
stub-prefix_free =
    told_as (in_turn (in_turn (in_turn (in_turn (part (λ (x : Stub). x.number.0) short-prefix_free (λ x p. p.number))
    (part (λ (x : Stub). x.name) string-prefix_free (λ x p. p.name)))
    (part (λ (x : Stub). x.tasks) (short_list-prefix_free stub_task-prefix_free) (λ x p. (p.task_count, p.tasks))))
    (part (λ (x : Stub). x.entries) (short_list-prefix_free receive-prefix_free) (λ x p. (p.entry_count, p.entries))))
    (part (λ (x : Stub). x.blocks) (long_list-prefix_free block-prefix_free) (λ x p. (p.block_count, p.blocks))))
    (λ x y same i.
    record {
      number = record { 0 = same.0.0.0.0 i };
      name = same.0.0.0.1 i;
      tasks = same.0.0.1 i;
      entries =
          same.0.1 i;
      blocks = same.1 i;
    })

-- an image
image-prefix_free : IsPrefixFree sp.IsSpellableImage spelling.image_bytes
image-prefix_free =
    told_as (in_turn (in_turn (in_turn (part (λ (x : Image). x.node) string-prefix_free (λ x p. p.node))
    (part (λ (x : Image). x.declared) word-prefix_free (λ x p. p.declared)))
    (part (λ (x : Image). x.hosted) (short_list-prefix_free hosted-prefix_free) (λ x p. (p.hosted_count, p.hosted))))
    (part (λ (x : Image). x.stubs) (short_list-prefix_free stub-prefix_free) (λ x p. (p.stub_count, p.stubs))))
    (λ x y same i. record { node = same.0.0.0 i; declared = same.0.0.1 i; hosted = same.0.1 i; stubs = same.1 i })

-- the images of a bundle are spelled after six bytes
images_told : (a b : Bundle) → IsSpellable a → IsSpellable b → bundle_bytes a ++ [] ≡ bundle_bytes b ++ [] →
    a.images ≡ b.images
images_told a b p q e =
    let told =
    (short_list-prefix_free image-prefix_free).tell a.images b.images [] [] (omega (arith, p.at_most), p.images)
    (omega (arith, q.at_most), q.images) (ap (drop 6) e) in
    told.0

-- two bundles with one spelling are one
pub one_spelling : (a b : Bundle) → IsSpellable a → IsSpellable b → bundle_bytes a ≡ bundle_bytes b → a ≡ b
one_spelling a b p q e = λ i. record { images = images_told a b p q (ap (λ bytes. bytes ++ []) e) i }
