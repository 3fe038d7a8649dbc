-- A program of three modules on two nodes: with guards, guarded switches, remote outputs and a job that is preempted.
use Rattle.std.specs.Prelude.{ℕ, ℤ, pos, Bool, true, false, List, [], ◌∷◌, Option, Some, None, codes}
use Rattle.tdl_base.specs.declared.kinds.Kind.TheVariants.{Int}
use Rattle.tdl_base.specs.declared.numbers.Place.TheVariants.{Sensor, Port, Cell}
use Rattle.tdl_base.specs.declared.numbers.PortKey.{PortKey}
use Rattle.tdl_base.specs.declared.arithmetic.BinOp.TheVariants.{Add, Greater}
use Rattle.tdl_body.specs.declared.tree.Expr.{Expr}
use Rattle.tdl_body.specs.declared.tree.Expr.TheVariants as expr
use Rattle.tdl_body.specs.declared.tree.Stmt.TheVariants as stmt
use Rattle.tdl_mode.specs.declared.program.Program.{Program}
use Rattle.tdl_mode.specs.declared.program.Module.{Module}
use Rattle.tdl_mode.specs.declared.program.Task.{Task}
use Rattle.tdl_mode.specs.declared.program.Mode.{Mode}
use Rattle.tdl_mode.specs.declared.program.Invocation.{Invocation}
use Rattle.tdl_mode.specs.declared.program.Update.{Update}
use Rattle.tdl_mode.specs.declared.program.Switch.{Switch}
use Rattle.tdl_mode.specs.declared.program.PortDef.{PortDef}
use Rattle.tdl_base.specs.Sensed.{Course}
use Rattle.tdl_mode.specs.States.{ModuleState, State}
use Rattle.tdl_trace.specs.Shown.{Shown}
use Rattle.tdl_deploy.specs.declared.placement.Placement.{Placement}
use Rattle.tdl_deploy.specs.declared.schedule.Schedule.{Schedule}
use Rattle.tdl_deploy.specs.declared.schedule.Window.{Window}
use Rattle.tdl_deploy.specs.declared.schedule.Resource.{Resource}
use Rattle.tdl_deploy.specs.declared.schedule.Resource.TheVariants.{Cpu, Bus}

-- ---- parts of its modules

-- a port of kind int
abbrev pub int_port : List ℕ → ℤ → PortDef
int_port name initial = record { kind = Int; name = name; initial = initial }

-- the output, cell 1, plus the input, cell 0
abbrev pub cell_sum : Expr
cell_sum = expr.Bin Add (expr.Load (Cell 1)) (expr.Load (Cell 0))

-- a task that adds its input to its output
abbrev pub adding : List ℕ → Bool → ℕ → ℤ → Task
adding name public worst initial = record {
  name = name;
  public = public;
  worst = record { 0 = worst };
  inputs = int_port (codes "a") (pos 0) ∷ [];
  outputs = int_port (codes "o") initial ∷ [];
  locals = [];
  body = record { stmts = stmt.Assign 1 cell_sum ∷ [] };
}

-- the output of the only task of a module
abbrev pub output_of : ℕ → PortKey
output_of k = record { «module» = record { 0 = k }; task = record { 0 = 0 }; output = 0 }

-- the invocation of the only task over the whole period
abbrev pub over_period : ℕ → Option Expr → Expr → Invocation
over_period period guard argument = record {
  act = 0;
  task = record { 0 = 0 };
  s = record { 0 = 0 };
  e = record { 0 = period };
  guard = guard;
  args = argument ∷ [];
}

-- the output of module k is above 0
abbrev pub is_positive : ℕ → Expr
is_positive k = expr.Bin Greater (expr.Load (Port (output_of k))) (expr.Const (pos 0))

-- ---- its modules

-- the meter counts what it senses
abbrev pub count_task : Task
count_task = adding (codes "count") true 4 (pos 10)

-- the switch at the end of a period, where the count is above 0
abbrev pub switch_at_end : ℕ → ℕ → Switch
switch_at_end period target = record {
  act = 1;
  at = record { 0 = period };
  target = record { 0 = target };
  guard = Some (is_positive 0);
}

-- it counts every 10 us
abbrev pub quick_mode : Mode
quick_mode = record {
  name = codes "quick";
  period = record { 0 = 10 };
  invocations = over_period 10 None (expr.Load (Sensor 0)) ∷ [];
  updates = [];
  switches = switch_at_end 10 1 ∷ [];
}

-- it counts every 20 us, where the sensor shows more than 0
abbrev pub slow_mode : Mode
slow_mode = record {
  name = codes "slow";
  period = record { 0 = 20 };
  invocations =
      over_period 20 (Some (expr.Bin Greater (expr.Load (Sensor 0)) (expr.Const (pos 0)))) (expr.Load (Sensor 0)) ∷ [];
  updates = [];
  switches = switch_at_end 20 0 ∷ [];
}

-- module 0
abbrev pub meter : Module
meter = record {
  name = codes "Meter";
  imports = [];
  constants = [];
  sensors = int_port (codes "s") (pos 0) ∷ [];
  actuators = [];
  tasks = count_task ∷ [];
  modes = quick_mode ∷ slow_mode ∷ [];
  start = record { 0 = 0 };
}

-- the panel adds up the counts
abbrev pub gather_task : Task
gather_task = adding (codes "gather") true 3 (pos 0)

-- the actuator shows the count, where it is above 0
abbrev pub show_count : Update
show_count = record {
  act = 1;
  actuator = 0;
  at = record { 0 = 10 };
  value = expr.Load (Port (output_of 0));
  guard = Some (is_positive 0);
}

-- every 10 us
abbrev pub gathering_mode : Mode
gathering_mode = record {
  name = codes "main";
  period = record { 0 = 10 };
  invocations = over_period 10 None (expr.Load (Port (output_of 0))) ∷ [];
  updates = show_count ∷ [];
  switches = [];
}

-- module 1
abbrev pub panel : Module
panel = record {
  name = codes "Panel";
  imports = record { 0 = 0 } ∷ [];
  constants = [];
  sensors = [];
  actuators = int_port (codes "v") (pos 0) ∷ [];
  tasks = gather_task ∷ [];
  modes = gathering_mode ∷ [];
  start = record { 0 = 0 };
}

-- the watch adds up what the panel gathered
abbrev pub check_task : Task
check_task = adding (codes "check") false 1 (pos 0)

-- every 15 us, where that is below 5
abbrev pub checking_mode : Mode
checking_mode = record {
  name = codes "main";
  period = record { 0 = 15 };
  invocations =
      over_period 15 (Some (expr.Bin Greater (expr.Const (pos 5)) (expr.Load (Port (output_of 1)))))
      (expr.Load (Port (output_of 1))) ∷ [];
  updates = [];
  switches = [];
}

-- module 2
abbrev pub watch : Module
watch = record {
  name = codes "Watch";
  imports = record { 0 = 1 } ∷ [];
  constants = [];
  sensors = [];
  actuators = [];
  tasks = check_task ∷ [];
  modes = checking_mode ∷ [];
  start = record { 0 = 0 };
}

-- the three modules
abbrev pub three_modules : Program
three_modules = record { modules = meter ∷ panel ∷ watch ∷ [] }

-- ---- where and when it runs

-- the meter and the watch on one node, the panel on the other; a frame takes 1 us
abbrev pub on_nodes : Placement
on_nodes = record {
  nodes =
      record { name = codes "n1"; modules = record { 0 = 0 } ∷ record { 0 = 2 } ∷ [] }
      ∷ record { name = codes "n2"; modules = record { 0 = 1 } ∷ [] }
      ∷ [];
  bus = Some (record { overhead = 1; per_byte = 0 });
}

-- a window of the only invocation of mode k of module m
abbrev pub call_window : Resource → (m k offset length : ℕ) → Window
call_window resource m k offset length = record {
  resource = resource;
  «module» = record { 0 = m };
  mode = record { 0 = k };
  invocation = 1;
  offset = offset;
  length = length;
}

-- the watch checks between the two windows of each count
abbrev pub turns_taken : Schedule
turns_taken = record {
  windows =
      call_window Cpu 0 0 0 2 ∷ call_window Cpu 0 0 3 2 ∷ call_window Bus 0 0 6 1
      ∷ call_window Cpu 0 1 0 2 ∷ call_window Cpu 0 1 3 2 ∷ call_window Bus 0 1 16 1
      ∷ call_window Cpu 1 0 0 3 ∷ call_window Bus 1 0 4 1
      ∷ call_window Cpu 2 0 2 1
      ∷ [];
}

-- ---- its first instants

-- all sensors show 1 at all instants
abbrev pub always_one : Course
always_one x m i = pos 1

-- a module with one active job, in a mode whose cycle began at `base`
abbrev pub module_now : Module → Task → (mode base : ℕ) → (output input : ℤ) → List ℤ → ModuleState
module_now m task mode base output input actuators = record {
  definition = m;
  mode = mode;
  base = base;
  tasks = record {
    definition = task;
    outputs = output ∷ [];
    active = Some (record { mode = mode; invocation = 1; inputs = input ∷ [] });
  } ∷ [];
  actuators = actuators;
}

-- the state from 0 us to 9 us: all three jobs are active
abbrev pub first_state : State
first_state =
    module_now meter count_task 0 0 (pos 10) (pos 1) []
    ∷ module_now panel gather_task 0 0 (pos 0) (pos 10) (pos 0 ∷ [])
    ∷ module_now watch check_task 0 0 (pos 0) (pos 0) []
    ∷ []

-- the state at 10 us: the meter is slow, and the panel's actuator shows its count
abbrev pub second_state : State
second_state =
    module_now meter count_task 1 10 (pos 11) (pos 1) []
    ∷ module_now panel gather_task 0 10 (pos 10) (pos 11) (pos 11 ∷ [])
    ∷ module_now watch check_task 0 0 (pos 0) (pos 0) []
    ∷ []

-- the rows at 0 us
abbrev pub first_shown : List Shown
first_shown = Shown.Mode 0 0 0 0 ∷ Shown.Mode 0 0 2 0 ∷ Shown.Mode 0 1 1 0 ∷ []

-- the rows at 10 us: both nodes show both outputs, the meter's node its new mode, and the panel's node the actuator
abbrev pub second_shown : List Shown
second_shown =
    Shown.Port 10 0 0 0 0 (pos 11)
    ∷ Shown.Port 10 0 1 0 0 (pos 10)
    ∷ Shown.Mode 10 0 0 1
    ∷ Shown.Port 10 1 0 0 0 (pos 11)
    ∷ Shown.Port 10 1 1 0 0 (pos 10)
    ∷ Shown.Act 10 1 1 0 (pos 11)
    ∷ []
