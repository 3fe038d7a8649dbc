-- The schedule and the bundle of a plain program.
use Rattle.std.specs.Prelude.{◌≡◌, pos, false, List, [], ◌∷◌, codes}
use Rattle.tdl_base.specs.declared.kinds.Kind.TheVariants.{Int}
use Rattle.tdl_base.specs.declared.numbers.Place.TheVariants.{Sensor, Cell}
use Rattle.tdl_base.specs.declared.arithmetic.BinOp.TheVariants.{Add}
use Rattle.tdl_stack.specs.declared.instr.Instr.TheVariants as instr
use Rattle.tdl_stack.specs.declared.instr.Code.{Code}
use Rattle.tdl_ecode.specs.declared.instr.EInstr.TheVariants as e
use Rattle.tdl_ecode.specs.declared.instr.Block.{Block}
use Rattle.tdl_image.specs.declared.bundle.Bundle.{Bundle}
use Rattle.tdl_image.specs.declared.hosted.Hosted.{Hosted}
use Rattle.tdl_image.specs.declared.hosted.TaskTable.{TaskTable}
use Rattle.tdl_deploy.specs.declared.schedule.Schedule.{Schedule}
use Rattle.tdl_deploy.specs.declared.schedule.Window.{Window}
use Rattle.tdl_deploy.specs.declared.schedule.Resource.TheVariants.{Cpu}
use Rattle.tdl_plain.specs.declared.form.Form.{Form}
use Rattle.tdl_plain.specs.PlainProgram.{period_us}
use Rattle.tdl_plain.specs.PlainSource.{IsPlainForm}

-- the window of the task: from the start of each cycle, for its worst case
abbrev pub plain_window : Form → Window
plain_window f = record {
  resource = Cpu;
  «module» = record { 0 = 0 };
  mode = record { 0 = 0 };
  invocation = 1;
  offset = 0;
  length = f.worst;
}

-- the task has the processor in that window
abbrev pub plain_schedule : Form → Schedule
plain_schedule f = record { windows = plain_window f ∷ [] }

-- the sum of the cells, into the output
abbrev pub add_code : Code
add_code = record { instrs = instr.Load (Cell 1) ∷ instr.Load (Cell 0) ∷ instr.Bin Add ∷ instr.Store 1 ∷ [] }

-- the sensor's number
abbrev pub sensor_code : Code
sensor_code = record { instrs = instr.Load (Sensor 0) ∷ [] }

-- the five blocks: the first, the release, the termination, the update and the end of the cycle
abbrev pub plain_blocks : Form → List Block
plain_blocks f =
    record { phase = 3; code = e.Mode 0 ∷ e.Future 0 1 ∷ e.Return ∷ [] }
    ∷ record { phase = 4; code = e.Release 0 ∷ e.Future (period_us f) 2 ∷ e.Return ∷ [] }
    ∷ record { phase = 1; code = e.End 0 ∷ e.Future 0 3 ∷ e.Return ∷ [] }
    ∷ record { phase = 2; code = e.Future 0 4 ∷ e.Return ∷ [] }
    ∷ record { phase = 3; code = e.Mode 0 ∷ e.Future 0 1 ∷ e.Return ∷ [] }
    ∷ []

-- the table of the task
abbrev pub plain_table : Form → TaskTable
plain_table f = record {
  name = f.task;
  worst = f.worst;
  inputs = Int ∷ [];
  outputs = record { kind = Int; name = f.output; initial = pos f.initial } ∷ [];
  locals = [];
  body = add_code;
}

-- the module
abbrev pub plain_hosted : Form → Hosted
plain_hosted f = record {
  number = record { 0 = 0 };
  name = f.module;
  sensors = record { kind = Int; name = f.sensor } ∷ [];
  actuators = [];
  tasks = plain_table f ∷ [];
  modes = f.mode ∷ [];
  calls = record { task = 0; args = sensor_code ∷ [] } ∷ [];
  releases = record { mode = 0; invocation = 1; call = 0 } ∷ [];
  guards = [];
  drivers = [];
  windows = record { bus = false; mode = 0; invocation = 1; offset = 0; length = f.worst } ∷ [];
  blocks = plain_blocks f;
  entry = 0;
}

-- the bundle of a plain program
abbrev pub plain_bundle : Form → Bundle
plain_bundle f = record {
  images = record { node = codes "n1"; declared = 11; hosted = plain_hosted f ∷ []; stubs = [] } ∷ [];
}

-- the bundle is that of a plain program
pub record IsPlainBundle (b : Bundle) : Type 0 where
  pub form : Form
  pub lawful : IsPlainForm form
  pub is : b ≡ plain_bundle form
