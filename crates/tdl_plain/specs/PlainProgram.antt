-- The program that a plain source says.
use Rattle.std.specs.Prelude.{ℕ, pos, ◌*◌, true, List, [], ◌∷◌, None}
use Rattle.tdl_base.specs.declared.kinds.Kind.TheVariants.{Int}
use Rattle.tdl_base.specs.declared.numbers.Place.TheVariants.{Sensor, Cell}
use Rattle.tdl_base.specs.declared.arithmetic.BinOp.TheVariants.{Add}
use Rattle.tdl_body.specs.declared.tree.Expr.TheVariants as expr
use Rattle.tdl_body.specs.declared.tree.Stmt.TheVariants as stmt
use Rattle.tdl_body.specs.declared.tree.Body.{Body}
use Rattle.tdl_mode.specs.declared.program.Program.{Program}
use Rattle.tdl_mode.specs.declared.program.Module.{Module}
use Rattle.tdl_mode.specs.declared.program.Task.{Task}
use Rattle.tdl_mode.specs.declared.program.Mode.{Mode}
use Rattle.tdl_mode.specs.declared.program.Invocation.{Invocation}
use Rattle.tdl_mode.specs.declared.program.PortDef.{PortDef}
use Rattle.tdl_plain.specs.declared.form.Form.{Form}

-- a port of the kind int
abbrev pub int_port : List ℕ → ℕ → PortDef
int_port name initial = record { kind = Int; name = name; initial = pos initial }

-- the output becomes the output plus the input; the input is cell 0, the output cell 1
abbrev pub add_input : Body
add_input = record { stmts = stmt.Assign 1 (expr.Bin Add (expr.Load (Cell 1)) (expr.Load (Cell 0))) ∷ [] }

-- the one task
abbrev pub plain_task : Form → Task
plain_task f = record {
  name = f.task;
  public = true;
  worst = record { 0 = f.worst };
  inputs = int_port f.input 0 ∷ [];
  outputs = int_port f.output f.initial ∷ [];
  locals = [];
  body = add_input;
}

-- the period in microseconds
abbrev pub period_us : Form → ℕ
period_us f = f.period * 1000

-- the task with the sensor as its argument, over the whole period
abbrev pub plain_invocation : Form → Invocation
plain_invocation f = record {
  act = 0;
  task = record { 0 = 0 };
  s = record { 0 = 0 };
  e = record { 0 = period_us f };
  guard = None;
  args = expr.Load (Sensor 0) ∷ [];
}

-- the one mode
abbrev pub plain_mode : Form → Mode
plain_mode f = record {
  name = f.mode;
  period = record { 0 = period_us f };
  invocations = plain_invocation f ∷ [];
  updates = [];
  switches = [];
}

-- the one module
abbrev pub plain_module : Form → Module
plain_module f = record {
  name = f.module;
  imports = [];
  constants = [];
  sensors = int_port f.sensor 0 ∷ [];
  actuators = [];
  tasks = plain_task f ∷ [];
  modes = plain_mode f ∷ [];
  start = record { 0 = 0 };
}

-- the program that a plain source says
abbrev pub program_of : Form → Program
program_of f = record { modules = plain_module f ∷ [] }
