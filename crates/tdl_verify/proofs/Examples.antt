-- Closed runs of small bundles: each theorem says which rows a bundle's run has, or where it traps.
use Rattle.std.proofs.Common.{◌≡◌, ℕ, ℤ, pos, true, false, List, [], ◌∷◌, codes, refl}
use Rattle.std.specs.Int.{int_wrap}
use Rattle.tdl_base.specs.declared.kinds.Kind.TheVariants.{Int}
use Rattle.tdl_base.specs.declared.numbers.Place.TheVariants.{Sensor, Port, Cell}
use Rattle.tdl_base.specs.declared.arithmetic.BinOp.TheVariants.{Add, Greater}
use Rattle.tdl_trace.specs.declared.why.Why.TheVariants as why
use Rattle.tdl_trace.specs.Shown.{Shown}
use Rattle.tdl_stack.specs.declared.instr.Instr.TheVariants as instr
use Rattle.tdl_stack.specs.declared.instr.Code.{Code}
use Rattle.tdl_ecode.specs.declared.instr.EInstr.TheVariants as e
use Rattle.tdl_ecode.specs.declared.instr.Block.{Block}
use Rattle.tdl_image.specs.declared.bundle.Bundle.{Bundle}
use Rattle.tdl_image.specs.declared.hosted.Hosted.{Hosted}
use Rattle.tdl_image.specs.declared.hosted.TaskTable.{TaskTable}
use Rattle.tdl_image.specs.declared.hosted.ImageWindow.{ImageWindow}
use Rattle.tdl_image.specs.declared.hosted.ReleaseEntry.{ReleaseEntry}
use Rattle.tdl_image.specs.declared.stub.Stub.{Stub}
use Rattle.tdl_image.specs.declared.stub.Receive.{Receive}
use Rattle.tdl_verify.specs.States.{Times}
use Rattle.tdl_verify.specs.Turns.{turn}
use Rattle.tdl_verify.specs.Runs.{instant, next_instant, run_to, machine_run, no_loss, plain_rows}

abbrev adds : Code
adds = record { instrs = instr.Load (Cell 1) ∷ instr.Load (Cell 0) ∷ instr.Bin Add ∷ instr.Store 1 ∷ [] }

abbrev reads_sensor : Code
reads_sensor = record { instrs = instr.Load (Sensor 0) ∷ [] }

-- inc: o := o + a, with a worst case of 2 us
abbrev inc : TaskTable
inc = record {
  name = codes "inc";
  worst = 2;
  inputs = Int ∷ [];
  outputs =
      record { kind = Int; name = codes "o"; initial = pos 10 } ∷ [];
  locals = [];
  body = adds;
}

-- the blocks of one mode with a period of 5 us
abbrev blocks : List Block
blocks =
    record { phase = 3; code = e.Mode 0 ∷ e.Future 0 1 ∷ e.Return ∷ [] }
    ∷ record { phase = 4; code = e.Release 0 ∷ e.Future 5 2 ∷ e.Return ∷ [] }
    ∷ record { phase = 1; code = e.End 0 ∷ e.Future 0 3 ∷ e.Return ∷ [] }
    ∷ record { phase = 2; code = e.Future 0 4 ∷ e.Return ∷ [] }
    ∷ record { phase = 3; code = e.Mode 0 ∷ e.Future 0 1 ∷ e.Return ∷ [] }
    ∷ []

-- a processor window and a bus window of the first invocation of a mode
abbrev on_cpu : (mode offset length : ℕ) → ImageWindow
on_cpu mode offset length = record { bus = false; mode = mode; invocation = 1; offset = offset; length = length }

abbrev on_bus : (mode offset length : ℕ) → ImageWindow
on_bus mode offset length = record { bus = true; mode = mode; invocation = 1; offset = offset; length = length }

-- a module with the task inc, invoked in each of its modes
abbrev counter : (number : ℕ) → List (List ℕ) → List ReleaseEntry → List Code → List ImageWindow → List Block → Hosted
counter number modes releases guards windows blocks = record {
  number = record { 0 = number };
  name = codes "P";
  sensors = record { kind = Int; name = codes "s" } ∷ [];
  actuators = [];
  tasks = inc ∷ [];
  modes = modes;
  calls = record { task = 0; args = reads_sensor ∷ [] } ∷ [];
  releases = releases;
  guards = guards;
  drivers = [];
  windows = windows;
  blocks = blocks;
  entry = 0;
}

abbrev first_release : ReleaseEntry
first_release = record { mode = 0; invocation = 1; call = 0 }

-- P with these windows
abbrev counting : List ImageWindow → Hosted
counting windows = counter 0 (codes "main" ∷ []) (first_release ∷ []) [] windows blocks

-- modules on the one node n1
abbrev on_one : ℕ → List Hosted → Bundle
on_one declared hosted =
    record { images = record { node = codes "n1"; declared = declared; hosted = hosted; stubs = [] } ∷ [] }

-- P alone, with a processor window of this length
abbrev alone : (declared length : ℕ) → Bundle
alone declared length = on_one declared (counting (on_cpu 0 0 length ∷ []) ∷ [])

abbrev ones : ℕ → ℕ → ℕ → ℤ
ones x m k = pos 1

-- every job takes its worst case of 2 us
abbrev worst : Times
worst m t k = 2

-- the outputs appear at 5 and 10
counts_on : plain_rows (machine_run (alone 11 2) 10 ones worst no_loss) ≡
    Shown.Mode 0 0 0 0 ∷ Shown.Port 5 0 0 0 0 (pos 11) ∷ Shown.Port 10 0 0 0 0 (pos 12) ∷ []
unfolding turn instant next_instant run_to int_wrap
counts_on = refl

-- a window that is a microsecond short: the job is late
is_late : plain_rows (machine_run (alone 11 1) 5 ones worst no_loss) ≡ Shown.Mode 0 0 0 0 ∷ Shown.Trap 5 0 why.Late ∷ []
unfolding turn instant next_instant run_to int_wrap
is_late = refl

-- a declared count that is one too low
is_over : plain_rows (machine_run (alone 10 2) 5 ones worst no_loss) ≡ Shown.Mode 0 0 0 0 ∷ Shown.Trap 5 0 why.Budget
    ∷ []
unfolding turn instant next_instant run_to int_wrap
is_over = refl

-- a block that does not end the job: its slot is not idle at the next release
abbrev never_ending : List Block
never_ending =
    record { phase = 3; code = e.Mode 0 ∷ e.Future 0 1 ∷ e.Return ∷ [] }
    ∷ record { phase = 4; code = e.Release 0 ∷ e.Future 5 2 ∷ e.Return ∷ [] }
    ∷ record { phase = 1; code = e.Future 0 3 ∷ e.Return ∷ [] }
    ∷ record { phase = 2; code = e.Future 0 4 ∷ e.Return ∷ [] }
    ∷ record { phase = 3; code = e.Mode 0 ∷ e.Future 0 1 ∷ e.Return ∷ [] }
    ∷ []

is_busy : plain_rows
    (machine_run
    (on_one 11 (counter 0 (codes "main" ∷ []) (first_release ∷ []) [] (on_cpu 0 0 2 ∷ []) never_ending ∷ [])) 5 ones
    worst no_loss) ≡
    Shown.Mode 0 0 0 0 ∷ Shown.Trap 5 0 why.Busy ∷ []
unfolding turn instant next_instant run_to int_wrap
is_busy = refl

-- windows of two modules that are live in one microsecond
two_live : plain_rows (machine_run (on_one 22
    (counting (on_cpu 0 0 2 ∷ []) ∷ counter 1 (codes "main" ∷ []) (first_release ∷ []) [] (on_cpu 0 1 2 ∷ []) blocks ∷
    [])) 5 ones worst no_loss) ≡
    Shown.Mode 0 0 0 0 ∷ Shown.Mode 0 0 1 0 ∷ Shown.Trap 2 0 why.Clash ∷ []
unfolding turn instant next_instant run_to int_wrap
two_live = refl

-- ---- two nodes: P on n1, and C, which updates its actuator v from P.inc.o, on n2

abbrev reader_blocks : List Block
reader_blocks =
    record { phase = 3; code = e.Mode 0 ∷ e.Future 0 1 ∷ e.Return ∷ [] }
    ∷ record { phase = 4; code = e.Future 5 2 ∷ e.Return ∷ [] }
    ∷ record { phase = 1; code = e.Future 0 3 ∷ e.Return ∷ [] }
    ∷ record { phase = 2; code = e.Call 0 ∷ e.Future 0 4 ∷ e.Return ∷ [] }
    ∷ record { phase = 3; code = e.Mode 0 ∷ e.Future 0 1 ∷ e.Return ∷ [] }
    ∷ []

abbrev reads_output : Code
reads_output =
    record {
      instrs = instr.Load (Port (record { «module» = record { 0 = 0 }; task = record { 0 = 0 }; output = 0 })) ∷
          [];
    }

abbrev reader : Hosted
reader = record {
  number = record { 0 = 1 };
  name = codes "C";
  sensors = [];
  actuators = record { kind = Int; name = codes "v"; initial = pos 0 } ∷ [];
  tasks = [];
  modes = codes "main" ∷ [];
  calls = [];
  releases = [];
  guards = [];
  drivers = record { actuator = 0; value = reads_output } ∷ [];
  windows = [];
  blocks = reader_blocks;
  entry = 0;
}

abbrev take_block : ℕ → Block
take_block r = record { phase = 1; code = e.Take r ∷ e.Return ∷ [] }

-- the stub of P with these entries
abbrev stub_with : List Receive → List Block → Stub
stub_with entries blocks = record {
  number = record { 0 = 0 };
  name = codes "P";
  tasks = record {
    number = 0;
    name = codes "inc";
    outputs = record { kind = Int; name = codes "o"; initial = pos 10 }
        ∷ [];
  } ∷ [];
  entries = entries;
  blocks = blocks;
}

abbrev first_entry : Receive
first_entry = record { mode = 0; invocation = 1; task = 0; delta = 0; block = 0 }

abbrev on_two : Hosted → Stub → Bundle
on_two p s = record {
  images = record { node = codes "n1"; declared = 20; hosted = p ∷ []; stubs = [] }
      ∷ record { node = codes "n2"; declared = 20; hosted = reader ∷ []; stubs = s ∷ [] }
      ∷ [];
}

-- the output appears on both nodes at 5, and C reads it at the same instant
both_show : plain_rows
    (machine_run
    (on_two (counting (on_cpu 0 0 2 ∷ on_bus 0 4 1 ∷ [])) (stub_with (first_entry ∷ []) (take_block 0 ∷ []))) 5 ones
    worst no_loss) ≡
    Shown.Mode 0 0 0 0 ∷ Shown.Mode 0 1 1 0
    ∷ Shown.Port 5 0 0 0 0 (pos 11) ∷ Shown.Port 5 1 0 0 0 (pos 11) ∷ Shown.Act 5 1 1 0 (pos 11) ∷ []
unfolding turn instant next_instant run_to int_wrap
both_show = refl

-- a guard that fails: the frame carries no executed job, and C reads the output as it was
abbrev guarded_blocks : List Block
guarded_blocks =
    record { phase = 3; code = e.Mode 0 ∷ e.Future 0 1 ∷ e.Return ∷ [] }
    ∷ record { phase = 4; code = e.If 0 2 ∷ e.Release 0 ∷ e.Future 5 2 ∷ e.Return ∷ [] }
    ∷ record { phase = 1; code = e.End 0 ∷ e.Future 0 3 ∷ e.Return ∷ [] }
    ∷ record { phase = 2; code = e.Future 0 4 ∷ e.Return ∷ [] }
    ∷ record { phase = 3; code = e.Mode 0 ∷ e.Future 0 1 ∷ e.Return ∷ [] }
    ∷ []

abbrev above_one : Code
above_one = record { instrs = instr.Load (Sensor 0) ∷ instr.Const (pos 1) ∷ instr.Bin Greater ∷ [] }

not_invoked : plain_rows (machine_run (on_two
    (counter 0 (codes "main" ∷ []) (first_release ∷ []) (above_one ∷ []) (on_cpu 0 0 2 ∷ on_bus 0 4 1 ∷ [])
    guarded_blocks)
    (stub_with (first_entry ∷ []) (take_block 0 ∷ []))) 5 ones worst no_loss) ≡
    Shown.Mode 0 0 0 0 ∷ Shown.Mode 0 1 1 0 ∷ Shown.Act 5 1 1 0 (pos 10) ∷ []
unfolding turn instant next_instant run_to int_wrap
not_invoked = refl

-- a switch at 5 from main to fast, whose period is 3 us
abbrev switching_blocks : List Block
switching_blocks =
    record { phase = 3; code = e.Mode 0 ∷ e.Future 0 1 ∷ e.Return ∷ [] }
    ∷ record { phase = 4; code = e.Release 0 ∷ e.Future 5 2 ∷ e.Return ∷ [] }
    ∷ record { phase = 1; code = e.End 0 ∷ e.Future 0 3 ∷ e.Return ∷ [] }
    ∷ record { phase = 2; code = e.Future 0 4 ∷ e.Return ∷ [] }
    ∷ record { phase = 3; code = e.Mode 1 ∷ e.Future 0 5 ∷ e.Return ∷ e.Mode 0 ∷ e.Future 0 1 ∷ e.Return ∷ [] }
    ∷ record { phase = 4; code = e.Release 1 ∷ e.Future 3 6 ∷ e.Return ∷ [] }
    ∷ record { phase = 1; code = e.End 0 ∷ e.Future 0 7 ∷ e.Return ∷ [] }
    ∷ record { phase = 2; code = e.Future 0 8 ∷ e.Return ∷ [] }
    ∷ record { phase = 3; code = e.Mode 1 ∷ e.Future 0 5 ∷ e.Return ∷ [] }
    ∷ []

switches : plain_rows (machine_run (on_two
    (counter 0 (codes "main" ∷ codes "fast" ∷ []) (first_release ∷ record { mode = 1; invocation = 1; call = 0 } ∷ [])
    []
    (on_cpu 0 0 2 ∷ on_bus 0 4 1 ∷ on_cpu 1 0 2 ∷ on_bus 1 2 1 ∷ []) switching_blocks)
    (stub_with (first_entry ∷ record { mode = 1; invocation = 1; task = 0; delta = 0; block = 1 } ∷ [])
    (take_block 0 ∷ take_block 1 ∷ []))) 8 ones worst no_loss) ≡
    Shown.Mode 0 0 0 0 ∷ Shown.Mode 0 1 1 0
    ∷ Shown.Port 5 0 0 0 0 (pos 11) ∷ Shown.Mode 5 0 0 1
    ∷ Shown.Port 5 1 0 0 0 (pos 11) ∷ Shown.Act 5 1 1 0 (pos 11)
    ∷ Shown.Port 8 0 0 0 0 (pos 12) ∷ Shown.Port 8 1 0 0 0 (pos 12) ∷ []
unfolding turn instant next_instant run_to int_wrap
switches = refl

-- a frame that arrives at 3, and a delta of 2: the stub commits at 5 and not before
commits_later : plain_rows (machine_run (on_two (counting (on_cpu 0 0 2 ∷ on_bus 0 2 1 ∷ []))
    (stub_with (record first_entry { delta = 2 } ∷ []) (take_block 0 ∷ []))) 5 ones worst no_loss) ≡
    Shown.Mode 0 0 0 0 ∷ Shown.Mode 0 1 1 0
    ∷ Shown.Port 5 0 0 0 0 (pos 11) ∷ Shown.Port 5 1 0 0 0 (pos 11) ∷ Shown.Act 5 1 1 0 (pos 11) ∷ []
unfolding turn instant next_instant run_to int_wrap
commits_later = refl
