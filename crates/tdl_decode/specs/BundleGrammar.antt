-- The grammar of a bundle, part by part in the order of the bytes, and where bytes break it.
use Rattle.std.specs.Prelude.{◌≡◌, ◌≢◌, ℕ, zero, suc, ◌+◌, ◌<◌, ◌≤◌, Bool, List, [], length, take, codes, All}
use Rattle.std.specs.Int.{w16}
use Rattle.tdl_base.specs.declared.kinds.Kind.{Kind}
use Rattle.tdl_base.specs.declared.kinds.Kind.TheVariants.{Long}
use Rattle.tdl_base.specs.declared.limits.TheConstants.{NODES}
use Rattle.tdl_stack.specs.declared.instr.Instr.{Instr}
use Rattle.tdl_stack.specs.declared.instr.Code.{Code}
use Rattle.tdl_stack.specs.Spelling as stack
use Rattle.tdl_ecode.specs.declared.instr.EInstr.{EInstr}
use Rattle.tdl_ecode.specs.declared.instr.Block.{Block}
use Rattle.tdl_ecode.specs.Spelling as ecode
use Rattle.tdl_image.specs.declared.bundle.Image.{Image}
use Rattle.tdl_image.specs.declared.bundle.KindName.{KindName}
use Rattle.tdl_image.specs.declared.bundle.Initial.{Initial}
use Rattle.tdl_image.specs.declared.hosted.Hosted.{Hosted}
use Rattle.tdl_image.specs.declared.hosted.TaskTable.{TaskTable}
use Rattle.tdl_image.specs.declared.hosted.CallEntry.{CallEntry}
use Rattle.tdl_image.specs.declared.hosted.ReleaseEntry.{ReleaseEntry}
use Rattle.tdl_image.specs.declared.hosted.Driver.{Driver}
use Rattle.tdl_image.specs.declared.hosted.ImageWindow.{ImageWindow}
use Rattle.tdl_image.specs.declared.stub.Stub.{Stub}
use Rattle.tdl_image.specs.declared.stub.StubTask.{StubTask}
use Rattle.tdl_image.specs.declared.stub.Receive.{Receive}
use Rattle.tdl_image.specs.Spelling as spelling
use Rattle.tdl_image.specs.Spellable as sp
use Rattle.tdl_decode.specs.Grammar.{Breaks, Grammar, field, number, byte_from_to, short_from_to, word_from_to, any_short, any_word, long_of, identifier, nothing, ◌▷=◌, ◌▷◌, items, listed, long_listed, ascending}

-- a kind: 0 to 4
abbrev pub kind : Grammar Kind
kind = record { spelling = spelling.kind_bytes; spellable = λ k. Unit {0}; breaks = byte_from_to 0 4 ▷ nothing }

-- a resource: 0 or 1
abbrev pub resource : Grammar Bool
resource = record {
  spelling = λ bus. spelling.byte (spelling.resource_number bus);
  spellable = λ bus. Unit {0};
  breaks = byte_from_to 0 1 ▷ nothing;
}

-- ---- codes

-- the operands of a stack instruction, by its first byte
abbrev pub stack_operands : ℕ → Breaks
stack_operands zero = long_of Long ▷ nothing
stack_operands (suc zero) = any_short ▷ nothing
stack_operands (suc (suc zero)) = any_short ▷ any_short ▷ any_short ▷ nothing
stack_operands (suc (suc (suc zero))) = any_short ▷ nothing
stack_operands (suc (suc (suc (suc zero)))) = any_short ▷ nothing
stack_operands (suc (suc (suc (suc (suc zero))))) = byte_from_to 0 1 ▷ nothing
stack_operands (suc (suc (suc (suc (suc (suc zero)))))) = byte_from_to 0 12 ▷ nothing
stack_operands (suc (suc (suc (suc (suc (suc (suc zero))))))) = any_word ▷ nothing
stack_operands (suc (suc (suc (suc (suc (suc (suc (suc zero)))))))) = any_word ▷ nothing
stack_operands opcode = any_short ▷ any_word ▷ nothing

-- a stack instruction: its first byte, 0 to 9, then its operands
abbrev pub stack_instr : Grammar Instr
stack_instr = record {
  spelling = stack.instr_bytes;
  spellable = stack.IsInRange;
  breaks = byte_from_to 0 9 ▷= stack_operands;
}

-- a code: its instructions
abbrev pub code : Grammar Code
code = record {
  spelling = spelling.stack_code_bytes;
  spellable = sp.IsSpellableCode;
  breaks = long_listed stack_instr ▷ nothing;
}

-- an instruction of the E-machine: bytes that end within one, or whose first byte is no opcode
abbrev pub einstr : Grammar EInstr
einstr = record {
  spelling = ecode.einstr_bytes;
  spellable = ecode.IsInRange;
  breaks = field 4 ecode.IsUnfinished ecode.HasNoOpcode;
}

-- a block: phase, 1 to 4, instructions
abbrev pub block : Grammar Block
block = record {
  spelling = spelling.block_bytes;
  spellable = sp.IsSpellableBlock;
  breaks = byte_from_to 1 4 ▷ long_listed einstr ▷ nothing;
}

-- ---- hosted modules

-- a sensor: kind, name
abbrev pub sensor : Grammar KindName
sensor = record {
  spelling = spelling.kind_name_bytes;
  spellable = sp.IsSpellableSensor;
  breaks = kind ▷ identifier ▷ nothing;
}

-- an actuator or an output: kind, name, initial number of the kind
abbrev pub initial : Grammar Initial
initial = record {
  spelling = spelling.initial_bytes;
  spellable = sp.IsSpellableInitial;
  breaks = kind ▷= (λ k. identifier ▷ long_of k ▷ nothing);
}

-- a task: name, worst case, not 0, kinds of the inputs, outputs, kinds of the locals, body
abbrev pub task : Grammar TaskTable
task = record {
  spelling = spelling.task_bytes;
  spellable = sp.IsSpellableTask;
  breaks = identifier ▷ word_from_to 1 4294967295 ▷ listed kind ▷ listed initial ▷ listed kind ▷ code ▷ nothing;
}

-- a call: task, arguments
abbrev pub call : Grammar CallEntry
call = record {
  spelling = spelling.call_bytes;
  spellable = sp.IsSpellableCall;
  breaks = any_short ▷ listed code ▷ nothing;
}

-- a release: mode, invocation, call
abbrev pub release : Grammar ReleaseEntry
release = record {
  spelling = spelling.release_bytes;
  spellable = sp.IsSpellableRelease;
  breaks = any_short ▷ any_short ▷ any_short ▷ nothing;
}

-- a driver: actuator, value
abbrev pub driver : Grammar Driver
driver = record {
  spelling = spelling.driver_bytes;
  spellable = sp.IsSpellableDriver;
  breaks = any_short ▷ code ▷ nothing;
}

-- a window: resource, mode, invocation, offset, length
abbrev pub window : Grammar ImageWindow
window = record {
  spelling = spelling.window_bytes;
  spellable = sp.IsSpellableWindow;
  breaks = resource ▷ any_short ▷ any_short ▷ any_word ▷ any_word ▷ nothing;
}

-- a hosted module: number, at least so much, name, sensors, actuators, tasks, names of the modes, calls, releases,
-- guards, drivers, windows, blocks, entry block
abbrev pub hosted : ℕ → Grammar Hosted
hosted least = record {
  spelling = spelling.hosted_bytes;
  spellable = λ host. sp.IsSpellableHosted host × (least ≤ host.number.0);
  breaks =
      short_from_to least 65535 ▷ identifier ▷ listed sensor ▷ listed initial ▷ listed task ▷ listed identifier ▷
      listed call ▷ listed release ▷ listed code ▷ listed driver ▷ long_listed window ▷ long_listed block ▷
      any_word ▷ nothing;
}

-- ---- stubs

-- a task of a stub: number, at least so much, name, outputs
abbrev pub stub_task : ℕ → Grammar StubTask
stub_task least = record {
  spelling = spelling.stub_task_bytes;
  spellable = λ task. sp.IsSpellableStubTask task × (least ≤ task.number);
  breaks = short_from_to least 65535 ▷ identifier ▷ listed initial ▷ nothing;
}

-- a receive entry: mode, invocation, task, delta, block
abbrev pub receive : Grammar Receive
receive = record {
  spelling = spelling.receive_bytes;
  spellable = sp.IsSpellableReceive;
  breaks = any_short ▷ any_short ▷ any_short ▷ any_word ▷ any_word ▷ nothing;
}

-- a stub: number, at least so much, name, tasks in ascending order, receive entries, blocks
abbrev pub stub : ℕ → Grammar Stub
stub least = record {
  spelling = spelling.stub_bytes;
  spellable = λ s. sp.IsSpellableStub s × (least ≤ s.number.0);
  breaks =
      short_from_to least 65535 ▷ identifier ▷ ascending stub_task (λ task. task.number) ▷ listed receive ▷
      long_listed block ▷ nothing;
}

-- ---- images

-- an image: node, declared count, hosted modules and stubs in ascending order
abbrev pub image : Grammar Image
image = record {
  spelling = spelling.image_bytes;
  spellable = sp.IsSpellableImage;
  breaks =
      identifier ▷ any_word ▷ ascending hosted (λ host. host.number.0) ▷ ascending stub (λ s. s.number.0) ▷ nothing;
}

-- four bytes that are not the letters of a bundle
abbrev pub IsWrongMagic : List ℕ → Type 0
IsWrongMagic bytes = (4 ≤ length bytes) × (take 4 bytes ≢ codes "TDLB")

-- the four letters
abbrev pub magic : Grammar (Unit {0})
magic = record {
  spelling = λ u. codes "TDLB";
  spellable = λ u. Unit {0};
  breaks = field 1 (λ bytes. length bytes < 4) IsWrongMagic;
}

-- the version 1
abbrev pub version : Grammar ℕ
version = number w16 1 1 1

-- the end: rule 3 at the first byte that is there
abbrev pub ended : Breaks
ended bytes rule left = (bytes ≢ []) × (rule ≡ 3) × (left ≡ length bytes)

-- 1 to 16 images
abbrev pub images : Grammar (List Image)
images = record {
  spelling = spelling.short_list spelling.image_bytes;
  spellable = λ xs. (1 ≤ length xs) × (length xs ≤ NODES) × All sp.IsSpellableImage xs;
  breaks = short_from_to 1 NODES ▷= items image;
}

-- a bundle: four letters, version, images, and no more
abbrev pub breaks_bundle : Breaks
breaks_bundle = magic ▷ version ▷ images ▷ ended

-- the bytes first break the rule in the byte of this number, from 0; or at their end, which has their length as its number
pub record IsBundleFault (bytes : List ℕ) (rule at : ℕ) : Type 0 where
  pub left : ℕ
  pub breaks : breaks_bundle bytes rule left
  pub place : at + left ≡ length bytes
