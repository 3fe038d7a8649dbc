-- Tables, counted out: the guards, drivers and blocks of a module with guarded activities, and the stub of another.
use Rattle.std.proofs.Common.{◌≡◌, ℕ, pos, true, false, List, [], ◌∷◌, Some, None, codes, refl}
use Rattle.tdl_base.specs.declared.kinds.Kind.TheVariants.{Int}
use Rattle.tdl_base.specs.declared.numbers.Place.TheVariants.{Sensor, Port}
use Rattle.tdl_body.specs.declared.tree.Expr.{Expr}
use Rattle.tdl_body.specs.declared.tree.Expr.TheVariants as expr
use Rattle.tdl_mode.specs.declared.program.Program.{Program}
use Rattle.tdl_mode.specs.declared.program.Module.{Module}
use Rattle.tdl_mode.specs.declared.program.Task.{Task}
use Rattle.tdl_mode.specs.declared.program.Mode.{Mode}
use Rattle.tdl_mode.specs.declared.program.Invocation.{Invocation}
use Rattle.tdl_mode.specs.declared.program.Update.{Update}
use Rattle.tdl_mode.specs.declared.program.Switch.{Switch}
use Rattle.tdl_mode.specs.declared.program.PortDef.{PortDef}
use Rattle.tdl_deploy.specs.declared.placement.Placement.{Placement}
use Rattle.tdl_deploy.specs.declared.schedule.Schedule.{Schedule}
use Rattle.tdl_deploy.specs.declared.schedule.Resource.{Resource}
use Rattle.tdl_deploy.specs.declared.schedule.Resource.TheVariants.{Cpu, Bus}
use Rattle.tdl_deploy.specs.declared.schedule.Window.{Window}
use Rattle.tdl_ecode.specs.declared.instr.EInstr.TheVariants as e
use Rattle.tdl_image.specs.declared.bundle.Initial.{Initial}
use Rattle.tdl_gen.specs.Blocks.{blocks_of}
use Rattle.tdl_gen.specs.Tables.{coded, hosted_of, stubs_on}

-- a port of whole numbers
abbrev int_port : List ℕ → PortDef
int_port name = record { kind = Int; name = name; initial = pos 0 }

-- a task with one output, and a worst case of 1 us
abbrev task_named : List ℕ → Task
task_named name = record {
  name = name;
  public = true;
  worst = record { 0 = 1 };
  inputs = [];
  outputs = int_port (codes "o") ∷ [];
  locals = [];
  body = record { stmts = [] };
}

-- ---- P, with a task that is not public and one that is

-- task t from 0 us to an end
abbrev call_until : (act task end : ℕ) → Invocation
call_until act task end = record {
  act = act;
  task = record { 0 = task };
  s = record { 0 = 0 };
  e = record { 0 = end };
  guard = None;
  args = [];
}

-- module P, with a mode of 10 us
abbrev p_module : Module
p_module = record {
  name = codes "P";
  imports = [];
  constants = [];
  sensors = [];
  actuators = [];
  tasks = record (task_named (codes "hidden")) { public = false } ∷ task_named (codes "shared") ∷ [];
  modes = record {
    name = codes "main";
    period = record { 0 = 10 };
    invocations = call_until 0 0 5 ∷ call_until 1 1 10 ∷ [];
    updates = [];
    switches = [];
  } ∷ [];
  start = record { 0 = 0 };
}

-- ---- C, which imports P: activities 0, 1 and 3 are guarded, by its sensors 0, 1 and 2

-- sensor k
abbrev senses : ℕ → Expr
senses k = expr.Load (Sensor k)

-- P.shared.o
abbrev imported : Expr
imported = expr.Load (Port (record { «module» = record { 0 = 0 }; task = record { 0 = 1 }; output = 0 }))

-- actuator 1 takes P.shared.o at 10 us
abbrev guarded_update : Update
guarded_update = record { act = 1; actuator = 1; at = record { 0 = 10 }; value = imported; guard = Some (senses 1) }

-- actuator 0 takes sensor 0 at 5 us
abbrev plain_update : Update
plain_update = record { act = 2; actuator = 0; at = record { 0 = 5 }; value = senses 0; guard = None }

-- to mode 1 at 10 us
abbrev guarded_switch : Switch
guarded_switch = record { act = 3; at = record { 0 = 10 }; target = record { 0 = 1 }; guard = Some (senses 2) }

-- a mode of 10 us with these
abbrev busy : Mode
busy = record {
  name = codes "busy";
  period = record { 0 = 10 };
  invocations = record (call_until 0 0 10) { guard = Some (senses 0) } ∷ [];
  updates = guarded_update ∷ plain_update ∷ [];
  switches = guarded_switch ∷ [];
}

-- a mode of 10 us in which nothing is done
abbrev rest : Mode
rest = record { name = codes "rest"; period = record { 0 = 10 }; invocations = []; updates = []; switches = [] }

-- module C
abbrev c_module : Module
c_module = record {
  name = codes "C";
  imports = record { 0 = 0 } ∷ [];
  constants = [];
  sensors = int_port (codes "s") ∷ int_port (codes "t") ∷ int_port (codes "u") ∷ [];
  actuators = int_port (codes "v") ∷ int_port (codes "w") ∷ [];
  tasks = task_named (codes "own") ∷ [];
  modes = busy ∷ rest ∷ [];
  start = record { 0 = 0 };
}

-- ---- both of them, on two nodes

-- P and C
abbrev both : Program
both = record { modules = p_module ∷ c_module ∷ [] }

-- P on the one node, C on the other
abbrev apart : Placement
apart = record {
  nodes = record { name = codes "n1"; modules = record { 0 = 0 } ∷ [] }
      ∷ record { name = codes "n2"; modules = record { 0 = 1 } ∷ [] }
      ∷ [];
  bus = Some (record { overhead = 2; per_byte = 0 });
}

-- a window of an invocation of mode 0
abbrev window : Resource → (owner invocation offset length : ℕ) → Window
window resource owner invocation offset length = record {
  resource = resource;
  «module» = record { 0 = owner };
  mode = record { 0 = 0 };
  invocation = invocation;
  offset = offset;
  length = length;
}

-- each task has its microsecond, and the frame of P.shared takes the bus from 6 to 8 us
abbrev reserved : Schedule
reserved = record { windows = window Cpu 0 1 0 1 ∷ window Cpu 0 2 1 1 ∷ window Bus 0 2 6 2 ∷ window Cpu 1 1 0 1 ∷ [] }

-- ---- their tables

-- a guard for each guarded activity, in the order of the activities
guards-c : (hosted_of reserved 1 c_module).guards ≡ coded (senses 0) ∷ coded (senses 1) ∷ coded (senses 2) ∷ []
guards-c = refl

-- a driver for each update activity
drivers-c : (hosted_of reserved 1 c_module).drivers ≡
    record { actuator = 1; value = coded imported } ∷ record { actuator = 0; value = coded (senses 0) } ∷ []
drivers-c = refl

-- the blocks: of the start, of `busy` at 0, 5 and 10 us, and of `rest` at 0 and 10 us
blocks_of-c : blocks_of c_module ≡
    record { phase = 3; code = e.Mode 0 ∷ e.Future 0 1 ∷ e.Return ∷ [] }
    ∷ record { phase = 4; code = e.If 0 2 ∷ e.Release 0 ∷ e.Future 5 2 ∷ e.Return ∷ [] }
    ∷ record { phase = 1; code = e.Future 0 3 ∷ e.Return ∷ [] }
    ∷ record { phase = 2; code = e.Call 1 ∷ e.Future 0 4 ∷ e.Return ∷ [] }
    ∷ record { phase = 3; code = e.Future 0 5 ∷ e.Return ∷ [] }
    ∷ record { phase = 4; code = e.Future 5 6 ∷ e.Return ∷ [] }
    ∷ record { phase = 1; code = e.End 0 ∷ e.Future 0 7 ∷ e.Return ∷ [] }
    ∷ record { phase = 2; code = e.If 1 2 ∷ e.Call 0 ∷ e.Future 0 8 ∷ e.Return ∷ [] }
    ∷ record {
      phase = 3;
      code = e.If 2 4 ∷ e.Mode 1 ∷ e.Future 0 9 ∷ e.Return ∷ e.Mode 0 ∷ e.Future 0 1 ∷ e.Return ∷ [];
    }
    ∷ record { phase = 4; code = e.Future 10 10 ∷ e.Return ∷ [] }
    ∷ record { phase = 1; code = e.Future 0 11 ∷ e.Return ∷ [] }
    ∷ record { phase = 2; code = e.Future 0 12 ∷ e.Return ∷ [] }
    ∷ record { phase = 3; code = e.Mode 1 ∷ e.Future 0 9 ∷ e.Return ∷ [] }
    ∷ []
blocks_of-c = refl

-- the output o, as a table has it
abbrev int_output : Initial
int_output = record { kind = Int; name = codes "o"; initial = pos 0 }

-- the node of C has the stub of P: of its public task alone, whose frame arrives 2 us before the invocation's end
stubs_on-importer : stubs_on both apart reserved 1 ≡
    record {
      number = record { 0 = 0 };
      name = codes "P";
      tasks = record { number = 1; name = codes "shared"; outputs = int_output ∷ [] } ∷ [];
      entries = record { mode = 0; invocation = 2; task = 1; delta = 2; block = 0 } ∷ [];
      blocks = record { phase = 1; code = e.Take 0 ∷ e.Return ∷ [] } ∷ [];
    }
    ∷ []
stubs_on-importer = refl

-- the node of P, which imports nothing, has no stub
stubs_on-exporter : stubs_on both apart reserved 0 ≡ []
stubs_on-exporter = refl
