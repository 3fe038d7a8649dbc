-- Small programs and the bundles that they are compiled to, counted out.
use Rattle.std.proofs.Common.{◌≡◌, ℕ, ℤ, pos, true, false, List, [], ◌∷◌, ◌++◌, None, codes, refl, ap, ◌∙◌}
use Rattle.tdl_base.specs.declared.kinds.Kind.TheVariants.{Int}
use Rattle.tdl_base.specs.declared.numbers.Place.TheVariants.{Sensor, Cell}
use Rattle.tdl_base.specs.declared.arithmetic.BinOp.TheVariants.{Add}
use Rattle.tdl_body.specs.declared.tree.Expr.{Expr}
use Rattle.tdl_body.specs.declared.tree.Expr.TheVariants as expr
use Rattle.tdl_body.specs.declared.tree.Stmt.TheVariants as stmt
use Rattle.tdl_mode.specs.declared.program.Program.{Program}
use Rattle.tdl_mode.specs.declared.program.Module.{Module}
use Rattle.tdl_mode.specs.declared.program.Task.{Task}
use Rattle.tdl_mode.specs.declared.program.Mode.{Mode}
use Rattle.tdl_mode.specs.declared.program.Invocation.{Invocation}
use Rattle.tdl_mode.specs.declared.program.PortDef.{PortDef}
use Rattle.tdl_deploy.specs.declared.placement.Placement.{Placement}
use Rattle.tdl_deploy.specs.declared.schedule.Schedule.{Schedule}
use Rattle.tdl_deploy.specs.declared.schedule.Resource.TheVariants.{Cpu}
use Rattle.tdl_deploy.specs.Named.{one_node}
use Rattle.tdl_stack.specs.declared.instr.Instr.TheVariants as instr
use Rattle.tdl_stack.specs.declared.instr.Code.{Code}
use Rattle.tdl_ecode.specs.declared.instr.EInstr.TheVariants as e
use Rattle.tdl_ecode.specs.declared.instr.Block.{Block}
use Rattle.tdl_image.specs.declared.bundle.Bundle.{Bundle}
use Rattle.tdl_lower.specs.Templates.{expr_code, body_code}
use Rattle.tdl_lower.proofs.Equations.{expr_code-load, expr_code-bin, body_code-stmts, stmt_code-assign}
use Rattle.tdl_gen.specs.Counts.{declared_of}
use Rattle.tdl_gen.specs.Realises.{bundle_of}

-- a port of whole numbers
abbrev int_port : List ℕ → ℤ → PortDef
int_port name initial = record { kind = Int; name = name; initial = initial }

-- a + o
abbrev sum_cells : Expr
sum_cells = expr.Bin Add (expr.Load (Cell 1)) (expr.Load (Cell 0))

-- o := o + a
abbrev inc : Task
inc = record {
  name = codes "inc";
  public = true;
  worst = record { 0 = 200 };
  inputs = int_port (codes "a") (pos 0) ∷ [];
  outputs = int_port (codes "o") (pos 10) ∷ [];
  locals = [];
  body = record { stmts = stmt.Assign 1 sum_cells ∷ [] };
}

-- inc is called with the sensor, from 0 to 5000 us
abbrev call_inc : Invocation
call_inc = record {
  act = 0;
  task = record { 0 = 0 };
  s = record { 0 = 0 };
  e = record { 0 = 5000 };
  guard = None;
  args = expr.Load (Sensor 0) ∷ [];
}

-- a mode of 5000 us with this call alone
abbrev main : Mode
main = record {
  name = codes "main";
  period = record { 0 = 5000 };
  invocations = call_inc ∷ [];
  updates = [];
  switches = [];
}

-- module P
abbrev p_module : Module
p_module = record {
  name = codes "P";
  imports = [];
  constants = [];
  sensors = int_port (codes "s") (pos 0) ∷ [];
  actuators = [];
  tasks = inc ∷ [];
  modes = main ∷ [];
  start = record { 0 = 0 };
}

-- module P alone
abbrev counting : Program
counting = record { modules = p_module ∷ [] }

-- its task in the first 200 us of each cycle
abbrev first_fit : Schedule
first_fit = record {
  windows = record {
    resource = Cpu;
    «module» = record { 0 = 0 };
    mode = record { 0 = 0 };
    invocation = 1;
    offset = 0;
    length = 200;
  } ∷ [];
}

-- the code of inc
abbrev adds : Code
adds = record { instrs = instr.Load (Cell 1) ∷ instr.Load (Cell 0) ∷ instr.Bin Add ∷ instr.Store 1 ∷ [] }

-- the code of its argument
abbrev reads_sensor : Code
reads_sensor = record { instrs = instr.Load (Sensor 0) ∷ [] }

-- the blocks of P
abbrev blocks : List Block
blocks =
    record { phase = 3; code = e.Mode 0 ∷ e.Future 0 1 ∷ e.Return ∷ [] }
    ∷ record { phase = 4; code = e.Release 0 ∷ e.Future 5000 2 ∷ e.Return ∷ [] }
    ∷ record { phase = 1; code = e.End 0 ∷ e.Future 0 3 ∷ e.Return ∷ [] }
    ∷ record { phase = 2; code = e.Future 0 4 ∷ e.Return ∷ [] }
    ∷ record { phase = 3; code = e.Mode 0 ∷ e.Future 0 1 ∷ e.Return ∷ [] }
    ∷ []

-- the bundle whose spelling has 217 bytes
abbrev counting_bundle : Bundle
counting_bundle = record {
  images = record {
    node = codes "n1";
    declared = 11;
    stubs = [];
    hosted = record {
      number = record { 0 = 0 };
      name = codes "P";
      sensors = record { kind = Int; name = codes "s" } ∷ [];
      actuators = [];
      tasks = record {
        name = codes "inc";
        worst = 200;
        inputs = Int ∷ [];
        outputs =
            record { kind = Int; name = codes "o"; initial = pos 10 } ∷ [];
        locals = [];
        body = adds;
      } ∷ [];
      modes = codes "main" ∷ [];
      calls = record { task = 0; args = reads_sensor ∷ [] } ∷ [];
      releases = record { mode = 0; invocation = 1; call = 0 } ∷ [];
      guards = [];
      drivers = [];
      windows = record { bus = false; mode = 0; invocation = 1; offset = 0; length = 200 } ∷ [];
      blocks = blocks;
      entry = 0;
    } ∷ [];
  } ∷ [];
}

-- the code of the body
pub body_adds : body_code (record { stmts = stmt.Assign 1 sum_cells ∷ [] }) ≡ adds.instrs
body_adds =
    body_code-stmts (stmt.Assign 1 sum_cells ∷ [])
    ∙ ap (λ t. t ++ []) (stmt_code-assign 1 sum_cells ∙ ap (λ t. t ++ instr.Store 1 ∷ [])
    (expr_code-bin Add (expr.Load (Cell 1)) (expr.Load (Cell 0))
    ∙ ap (λ t. t ++ expr_code (expr.Load (Cell 0)) ++ instr.Bin Add ∷ []) (expr_code-load (Cell 1))
    ∙ ap (λ t. instr.Load (Cell 1) ∷ [] ++ t ++ instr.Bin Add ∷ []) (expr_code-load (Cell 0))))

-- the compiler's bundle of P
is_counting : bundle_of counting (one_node counting) first_fit ≡ counting_bundle
unfolding bundle_of
is_counting = rw (body_adds, expr_code-load) refl

-- ---- two nodes

-- module Q imports P and does nothing
abbrev q_module : Module
q_module = record {
  name = codes "Q";
  imports = record { 0 = 0 } ∷ [];
  constants = [];
  sensors = [];
  actuators = [];
  tasks = [];
  modes = record main { invocations = [] } ∷ [];
  start = record { 0 = 0 };
}

-- P on the one node, Q on the other
abbrev apart : Placement
apart = record {
  nodes = record { name = codes "n1"; modules = record { 0 = 0 } ∷ [] }
      ∷ record { name = codes "n2"; modules = record { 0 = 1 } ∷ [] }
      ∷ [];
  bus = None;
}

-- the other node runs at most nine instructions of Q, and two for the frame of P
counts_stub : declared_of (record { modules = p_module ∷ q_module ∷ [] }) apart first_fit 1 ≡ 11
counts_stub = refl
