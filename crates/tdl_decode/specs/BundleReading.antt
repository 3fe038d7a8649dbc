-- What reading gives at the front of bytes: the parts of a bundle, in the order of the bytes.
use Rattle.std.specs.Prelude.{ℕ, Bool, true, false, nat_lt, bytes_eq, if◌then◌else◌, List, [], ◌∷◌, length, take, drop, get_or, codes, Result, Ok, Err}
use Rattle.std.specs.Int.{w16}
use Rattle.tdl_base.specs.declared.kinds.Kind.{Kind}
use Rattle.tdl_base.specs.declared.kinds.Kind.TheVariants.{Boolean, Byte, Short, Int, Long}
use Rattle.tdl_base.specs.declared.limits.TheConstants.{NODES}
use Rattle.tdl_base.specs.declared.arithmetic.UnOp.{UnOp}
use Rattle.tdl_base.specs.declared.arithmetic.UnOp.TheVariants.{Neg, Not}
use Rattle.tdl_base.specs.declared.arithmetic.BinOp.{BinOp}
use Rattle.tdl_base.specs.declared.arithmetic.BinOp.TheVariants.{Add, Sub, Mul, Div, Rem, Less, LessEq, Greater, GreaterEq, Equal, NotEqual, And, Or}
use Rattle.tdl_base.specs.declared.numbers.Place.TheVariants.{Sensor, Port, Cell}
use Rattle.tdl_base.specs.declared.numbers.PortKey.{PortKey}
use Rattle.tdl_stack.specs.declared.instr.Instr.{Instr}
use Rattle.tdl_stack.specs.declared.instr.Instr.TheVariants.{Const, Load, Store, Un, Bin, Jz, Jmp, Rep}
use Rattle.tdl_stack.specs.declared.instr.Code.{Code}
use Rattle.tdl_ecode.specs.declared.fault.InstrFault.{InstrFault}
use Rattle.tdl_ecode.specs.declared.fault.InstrFault.TheVariants.{Short as CutShort, Unknown}
use Rattle.tdl_ecode.specs.declared.instr.EInstr.{EInstr}
use Rattle.tdl_ecode.specs.declared.instr.Block.{Block}
use Rattle.tdl_ecode.specs.Reading as ecode
use Rattle.tdl_image.specs.declared.bundle.Bundle.{Bundle}
use Rattle.tdl_image.specs.declared.bundle.Image.{Image}
use Rattle.tdl_image.specs.declared.bundle.KindName.{KindName}
use Rattle.tdl_image.specs.declared.bundle.Initial.{Initial}
use Rattle.tdl_image.specs.declared.hosted.Hosted.{Hosted}
use Rattle.tdl_image.specs.declared.hosted.TaskTable.{TaskTable}
use Rattle.tdl_image.specs.declared.hosted.CallEntry.{CallEntry}
use Rattle.tdl_image.specs.declared.hosted.ReleaseEntry.{ReleaseEntry}
use Rattle.tdl_image.specs.declared.hosted.Driver.{Driver}
use Rattle.tdl_image.specs.declared.hosted.ImageWindow.{ImageWindow}
use Rattle.tdl_image.specs.declared.stub.Stub.{Stub}
use Rattle.tdl_image.specs.declared.stub.StubTask.{StubTask}
use Rattle.tdl_image.specs.declared.stub.Receive.{Receive}
use Rattle.tdl_decode.specs.Reading.{Read, ◌>>=◌, number_in, byte_in, short_in, word_in, any_short_in, any_word_in, long_in, string_in, items_in, listed_in, long_listed_in, ascending_in}

-- the kind of a number
abbrev pub kind_of : ℕ → Kind
kind_of n = get_or (Boolean ∷ Byte ∷ Short ∷ Int ∷ Long ∷ []) n Boolean

-- a kind
unfoldable pub kind_in : List ℕ → Read Kind
kind_in bytes = byte_in 0 4 bytes >>= λ n bytes. Ok (kind_of n, bytes)

-- the resource of a number, by whether it is the bus
abbrev pub bus_of : ℕ → Bool
bus_of n = get_or (false ∷ true ∷ []) n false

-- a resource
unfoldable pub resource_in : List ℕ → Read Bool
resource_in bytes = byte_in 0 1 bytes >>= λ n bytes. Ok (bus_of n, bytes)

-- ---- codes

-- the operator of a number
abbrev pub un_of : ℕ → UnOp
un_of n = get_or (Neg ∷ Not ∷ []) n Neg

abbrev pub bin_of : ℕ → BinOp
bin_of n =
    get_or (Add ∷ Sub ∷ Mul ∷ Div ∷ Rem ∷ Less ∷ LessEq ∷ Greater ∷ GreaterEq ∷ Equal ∷ NotEqual ∷ And ∷ Or ∷ []) n Add

-- three numbers that name an output
unfoldable pub key_in : List ℕ → Read PortKey
key_in bytes =
    any_short_in bytes >>= λ m bytes.
    any_short_in bytes >>= λ t bytes.
    any_short_in bytes >>= λ output bytes.
    Ok (record { «module» = record { 0 = m }; task = record { 0 = t }; output = output }, bytes)

-- how often, and how many instructions
unfoldable pub rep_in : List ℕ → Read Instr
rep_in bytes =
    any_short_in bytes >>= λ times bytes.
    any_word_in bytes >>= λ count bytes.
    Ok (Rep times count, bytes)

-- what the bytes after the first one of a stack instruction give, for each first byte in order
abbrev pub by_first : List ℕ → List (Read Instr)
by_first bytes =
    (long_in Long bytes >>= λ v bytes. Ok (Const v, bytes)) ∷
    (any_short_in bytes >>= λ k bytes. Ok (Load (Sensor k), bytes)) ∷
    (key_in bytes >>= λ key bytes. Ok (Load (Port key), bytes)) ∷
    (any_short_in bytes >>= λ k bytes. Ok (Load (Cell k), bytes)) ∷
    (any_short_in bytes >>= λ k bytes. Ok (Store k, bytes)) ∷
    (byte_in 0 1 bytes >>= λ op bytes. Ok (Un (un_of op), bytes)) ∷
    (byte_in 0 12 bytes >>= λ op bytes. Ok (Bin (bin_of op), bytes)) ∷
    (any_word_in bytes >>= λ n bytes. Ok (Jz n, bytes)) ∷
    (any_word_in bytes >>= λ n bytes. Ok (Jmp n, bytes)) ∷
    []

-- a stack instruction after its first byte
unfoldable pub operands_in : ℕ → List ℕ → Read Instr
operands_in opcode bytes = get_or (by_first bytes) opcode (rep_in bytes)

-- a stack instruction
unfoldable pub stack_instr_in : List ℕ → Read Instr
stack_instr_in bytes = byte_in 0 9 bytes >>= operands_in

-- a code
unfoldable pub code_in : List ℕ → Read Code
code_in bytes = long_listed_in stack_instr_in bytes >>= λ instrs bytes. Ok (record { instrs = instrs }, bytes)

-- what was read as an instruction of the E-machine
abbrev pub einstr_of : List ℕ → Result (EInstr × ℕ) InstrFault → Read EInstr
einstr_of bytes (Ok read) = Ok (read.0, drop read.1 bytes)
einstr_of bytes (Err CutShort) = Err (2, 0)
einstr_of bytes (Err Unknown) = Err (4, length bytes)

-- an instruction of the E-machine
unfoldable pub einstr_in : List ℕ → Read EInstr
einstr_in bytes = einstr_of bytes (ecode.reading bytes)

-- a block
unfoldable pub block_in : List ℕ → Read Block
block_in bytes =
    byte_in 1 4 bytes >>= λ phase bytes.
    long_listed_in einstr_in bytes >>= λ code bytes.
    Ok (record { phase = phase; code = code }, bytes)

-- ---- hosted modules

-- a sensor
unfoldable pub sensor_in : List ℕ → Read KindName
sensor_in bytes =
    kind_in bytes >>= λ kind bytes.
    string_in bytes >>= λ name bytes.
    Ok (record { kind = kind; name = name }, bytes)

-- an actuator or an output
unfoldable pub initial_in : List ℕ → Read Initial
initial_in bytes =
    kind_in bytes >>= λ kind bytes.
    string_in bytes >>= λ name bytes.
    long_in kind bytes >>= λ initial bytes.
    Ok (record { kind = kind; name = name; initial = initial }, bytes)

-- a task
unfoldable pub task_in : List ℕ → Read TaskTable
task_in bytes =
    string_in bytes >>= λ name bytes.
    word_in 1 4294967295 bytes >>= λ worst bytes.
    listed_in kind_in bytes >>= λ inputs bytes.
    listed_in initial_in bytes >>= λ outputs bytes.
    listed_in kind_in bytes >>= λ locals bytes.
    code_in bytes >>= λ body bytes.
    Ok (record { name = name; worst = worst; inputs = inputs; outputs = outputs; locals = locals; body = body }, bytes)

-- a call
unfoldable pub call_in : List ℕ → Read CallEntry
call_in bytes =
    any_short_in bytes >>= λ task bytes.
    listed_in code_in bytes >>= λ args bytes.
    Ok (record { task = task; args = args }, bytes)

-- a release
unfoldable pub release_in : List ℕ → Read ReleaseEntry
release_in bytes =
    any_short_in bytes >>= λ mode bytes.
    any_short_in bytes >>= λ invocation bytes.
    any_short_in bytes >>= λ call bytes.
    Ok (record { mode = mode; invocation = invocation; call = call }, bytes)

-- a driver
unfoldable pub driver_in : List ℕ → Read Driver
driver_in bytes =
    any_short_in bytes >>= λ actuator bytes.
    code_in bytes >>= λ value bytes.
    Ok (record { actuator = actuator; value = value }, bytes)

-- a window
unfoldable pub window_in : List ℕ → Read ImageWindow
window_in bytes =
    resource_in bytes >>= λ bus bytes.
    any_short_in bytes >>= λ mode bytes.
    any_short_in bytes >>= λ invocation bytes.
    any_word_in bytes >>= λ offset bytes.
    any_word_in bytes >>= λ len bytes.
    Ok (record { bus = bus; mode = mode; invocation = invocation; offset = offset; length = len }, bytes)

-- a hosted module whose number is at least so much
unfoldable pub hosted_in : ℕ → List ℕ → Read Hosted
hosted_in least bytes =
    short_in least 65535 bytes >>= λ number bytes.
    string_in bytes >>= λ name bytes.
    listed_in sensor_in bytes >>= λ sensors bytes.
    listed_in initial_in bytes >>= λ actuators bytes.
    listed_in task_in bytes >>= λ tasks bytes.
    listed_in string_in bytes >>= λ modes bytes.
    listed_in call_in bytes >>= λ calls bytes.
    listed_in release_in bytes >>= λ releases bytes.
    listed_in code_in bytes >>= λ guards bytes.
    listed_in driver_in bytes >>= λ drivers bytes.
    long_listed_in window_in bytes >>= λ windows bytes.
    long_listed_in block_in bytes >>= λ blocks bytes.
    any_word_in bytes >>= λ entry bytes.
    Ok (
      record {
        number = record { 0 = number };
        name = name;
        sensors = sensors;
        actuators = actuators;
        tasks = tasks;
        modes = modes;
        calls = calls;
        releases = releases;
        guards = guards;
        drivers = drivers;
        windows = windows;
        blocks = blocks;
        entry = entry;
      },
      bytes,
    )

-- ---- stubs

-- a task of a stub whose number is at least so much
unfoldable pub stub_task_in : ℕ → List ℕ → Read StubTask
stub_task_in least bytes =
    short_in least 65535 bytes >>= λ number bytes.
    string_in bytes >>= λ name bytes.
    listed_in initial_in bytes >>= λ outputs bytes.
    Ok (record { number = number; name = name; outputs = outputs }, bytes)

-- a receive entry
unfoldable pub receive_in : List ℕ → Read Receive
receive_in bytes =
    any_short_in bytes >>= λ mode bytes.
    any_short_in bytes >>= λ invocation bytes.
    any_short_in bytes >>= λ task bytes.
    any_word_in bytes >>= λ delta bytes.
    any_word_in bytes >>= λ block bytes.
    Ok (record { mode = mode; invocation = invocation; task = task; delta = delta; block = block }, bytes)

-- a stub whose number is at least so much
unfoldable pub stub_in : ℕ → List ℕ → Read Stub
stub_in least bytes =
    short_in least 65535 bytes >>= λ number bytes.
    string_in bytes >>= λ name bytes.
    ascending_in stub_task_in (λ task. task.number) bytes >>= λ tasks bytes.
    listed_in receive_in bytes >>= λ entries bytes.
    long_listed_in block_in bytes >>= λ blocks bytes.
    Ok (record { number = record { 0 = number }; name = name; tasks = tasks; entries = entries; blocks = blocks }, bytes)

-- ---- images

-- an image
unfoldable pub image_in : List ℕ → Read Image
image_in bytes =
    string_in bytes >>= λ node bytes.
    any_word_in bytes >>= λ declared bytes.
    ascending_in hosted_in (λ host. host.number.0) bytes >>= λ hosted bytes.
    ascending_in stub_in (λ stub. stub.number.0) bytes >>= λ stubs bytes.
    Ok (record { node = node; declared = declared; hosted = hosted; stubs = stubs }, bytes)

-- the four letters
unfoldable pub magic_in : List ℕ → Read (Unit {0})
magic_in bytes =
    if nat_lt (length bytes) 4 then Err (2, 0)
    else if bytes_eq (take 4 bytes) (codes "TDLB") then Ok (tt, drop 4 bytes)
    else Err (1, length bytes)

-- 1 to 16 images
unfoldable pub images_in : List ℕ → Read (List Image)
images_in bytes = short_in 1 NODES bytes >>= items_in image_in

-- a bundle, and nothing after it
unfoldable pub bundle_in : List ℕ → Result Bundle (ℕ × ℕ)
bundle_in bytes =
    magic_in bytes >>= λ letters bytes.
    number_in w16 1 1 1 bytes >>= λ version bytes.
    images_in bytes >>= λ images bytes.
    if nat_lt 0 (length bytes) then Err (3, length bytes) else Ok (record { images = images })
