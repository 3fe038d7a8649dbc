-- The log of a machine's run, counted out: each instruction, each frame, and each stretch in which a job ran.
use Rattle.std.proofs.Common.{◌≡◌, ℕ, pos, true, false, List, [], ◌∷◌, map, codes, refl}
use Rattle.std.specs.Int.{int_wrap}
use Rattle.tdl_base.specs.declared.kinds.Kind.TheVariants.{Int}
use Rattle.tdl_base.specs.declared.numbers.Place.TheVariants.{Cell}
use Rattle.tdl_base.specs.declared.arithmetic.BinOp.TheVariants.{Add}
use Rattle.tdl_trace.specs.Shown.{Shown}
use Rattle.tdl_stack.specs.declared.instr.Instr.TheVariants as instr
use Rattle.tdl_ecode.specs.declared.instr.EInstr.TheVariants as e
use Rattle.tdl_ecode.specs.declared.instr.Block.{Block}
use Rattle.tdl_image.specs.declared.bundle.Bundle.{Bundle}
use Rattle.tdl_image.specs.declared.bundle.Image.{Image}
use Rattle.tdl_image.specs.declared.hosted.Hosted.{Hosted}
use Rattle.tdl_image.specs.declared.hosted.TaskTable.{TaskTable}
use Rattle.tdl_base.specs.Sensed.{Sensed}
use Rattle.tdl_verify.specs.States.{Times}
use Rattle.tdl_verify.specs.Turns.{turn, step_row}
use Rattle.tdl_verify.specs.Runs.{instant, next_instant, run_to, machine_run, no_loss, logged_rows}

-- ---- one instruction of each kind

-- at 1 us, on node 2, of module 3, of block 4, at index 5: the opcode and the operands
step_row-operands : map (step_row 1 2 3 4 5)
    (e.Return ∷ e.Call 6 ∷ e.Release 6 ∷ e.End 6 ∷ e.Take 6 ∷ e.Mode 6 ∷ e.If 6 7 ∷ e.Jump 6 ∷ e.Future 6 7 ∷ []) ≡
    Shown.Step 1 2 3 4 5 0 0 0
    ∷ Shown.Step 1 2 3 4 5 1 6 0
    ∷ Shown.Step 1 2 3 4 5 2 6 0
    ∷ Shown.Step 1 2 3 4 5 3 6 0
    ∷ Shown.Step 1 2 3 4 5 4 6 0
    ∷ Shown.Step 1 2 3 4 5 5 6 0
    ∷ Shown.Step 1 2 3 4 5 6 6 7
    ∷ Shown.Step 1 2 3 4 5 7 6 0
    ∷ Shown.Step 1 2 3 4 5 8 6 7
    ∷ []
step_row-operands = refl

-- ---- the run of one job, from 0 to 6 us: it runs from 1 to 3, and its frame is sent at 4

-- o := o + 1, with a worst case of 2 us
abbrev inc : TaskTable
inc = record {
  name = codes "inc";
  worst = 2;
  inputs = [];
  outputs = record { kind = Int; name = codes "o"; initial = pos 10 } ∷ [];
  locals = [];
  body = record { instrs = instr.Load (Cell 0) ∷ instr.Const (pos 1) ∷ instr.Bin Add ∷ instr.Store 0 ∷ [] };
}

-- at 0 the job is released, and at 6 it ends
abbrev blocks : List Block
blocks =
    record { phase = 3; code = e.Mode 1 ∷ e.Release 0 ∷ e.Future 6 1 ∷ e.Return ∷ [] }
    ∷ record { phase = 1; code = e.End 0 ∷ e.Return ∷ [] }
    ∷ []

-- module 7, whose task 0 is invoked in mode 1 as invocation 3
abbrev sender : Hosted
sender = record {
  number = record { 0 = 7 };
  name = codes "P";
  sensors = [];
  actuators = [];
  tasks = inc ∷ [];
  modes = codes "off" ∷ codes "on" ∷ [];
  calls = record { task = 0; args = [] } ∷ [];
  releases = record { mode = 1; invocation = 3; call = 0 } ∷ [];
  guards = [];
  drivers = [];
  windows =
      record { bus = false; mode = 1; invocation = 3; offset = 1; length = 3 }
      ∷ record { bus = true; mode = 1; invocation = 3; offset = 4; length = 2 }
      ∷ [];
  blocks = blocks;
  entry = 0;
}

-- a node without modules
abbrev empty : List ℕ → Image
empty name = record { node = name; declared = 0; hosted = []; stubs = [] }

-- two such nodes, and the module on the third
abbrev sending : Bundle
sending = record {
  images = empty (codes "n1") ∷ empty (codes "n2")
      ∷ record { node = codes "n3"; declared = 4; hosted = sender ∷ []; stubs = [] }
      ∷ [];
}

-- no sensor shows anything
abbrev nothing : ℕ → Sensed
nothing x m k = pos 0

-- the job takes its worst case
abbrev worst : Times
worst m t k = 2

-- the log beside the rows, instant by instant
logs_job : logged_rows (machine_run sending 6 nothing worst no_loss) ≡
    Shown.Step 0 2 7 0 0 5 1 0
    ∷ Shown.Mode 0 2 7 1
    ∷ Shown.Step 0 2 7 0 1 2 0 0
    ∷ Shown.Step 0 2 7 0 2 8 6 1
    ∷ Shown.Step 0 2 7 0 3 0 0 0
    ∷ Shown.Ran 3 2 7 0 1
    ∷ Shown.Send 4 2 7 1 3 (0 ∷ 7 ∷ 0 ∷ 1 ∷ 0 ∷ 3 ∷ 1 ∷ 0 ∷ 0 ∷ 0 ∷ 11 ∷ [])
    ∷ Shown.Step 6 2 7 1 0 3 0 0
    ∷ Shown.Port 6 2 7 0 0 (pos 11)
    ∷ Shown.Step 6 2 7 1 1 0 0 0
    ∷ []
unfolding turn instant next_instant run_to int_wrap
logs_job = refl
