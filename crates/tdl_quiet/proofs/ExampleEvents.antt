-- The calls of a module through one cycle, and the events and rows of two modules, counted out.
use Rattle.std.proofs.Common.{◌≡◌, ℕ, pos, List, [], ◌∷◌, true, false, None, codes, refl}
use Rattle.tdl_base.specs.declared.kinds.Kind.TheVariants.{Int}
use Rattle.tdl_body.specs.declared.tree.Expr.TheVariants as expr
use Rattle.tdl_mode.specs.declared.program.Module.{Module}
use Rattle.tdl_mode.specs.declared.program.Task.{Task}
use Rattle.tdl_mode.specs.declared.program.Mode.{Mode}
use Rattle.tdl_mode.specs.declared.program.Invocation.{Invocation}
use Rattle.tdl_mode.specs.declared.program.Update.{Update}
use Rattle.tdl_mode.specs.declared.program.Switch.{Switch}
use Rattle.tdl_mode.specs.declared.program.PortDef.{PortDef}
use Rattle.tdl_mode.specs.States.{ModuleState}
use Rattle.tdl_deploy.specs.declared.placement.PlacedNode.{PlacedNode}
use Rattle.tdl_quiet.specs.Events.{is_called, next_of, next_event}
use Rattle.tdl_quiet.specs.Room.{rows_bound}

-- ---- two modules

-- a port of kind int
abbrev int_port : PortDef
int_port = record { kind = Int; name = codes "p"; initial = pos 0 }

-- a task with two outputs
abbrev work : Task
work = record {
  name = codes "work";
  public = false;
  worst = record { 0 = 1 };
  inputs = [];
  outputs = int_port ∷ int_port ∷ [];
  locals = [];
  body = record { stmts = [] };
}

-- it is invoked from 2 us to 7 us
abbrev call_work : Invocation
call_work = record {
  act = 0;
  task = record { 0 = 0 };
  s = record { 0 = 2 };
  e = record { 0 = 7 };
  guard = None;
  args = [];
}

-- the actuator is updated at 4 us
abbrev sets_actuator : Update
sets_actuator = record { act = 1; actuator = 0; at = record { 0 = 4 }; value = expr.Const (pos 1); guard = None }

-- at 8 us there is a switch
abbrev to_other : Switch
to_other = record { act = 2; at = record { 0 = 8 }; target = record { 0 = 1 }; guard = None }

-- a mode of 10 us with these
abbrev main : Mode
main = record {
  name = codes "main";
  period = record { 0 = 10 };
  invocations = call_work ∷ [];
  updates = sets_actuator ∷ [];
  switches = to_other ∷ [];
}

-- a mode of 3 us in which nothing is done
abbrev other : Mode
other = record { name = codes "other"; period = record { 0 = 3 }; invocations = []; updates = []; switches = [] }

-- the module with both
abbrev worker : Module
worker = record {
  name = codes "W";
  imports = [];
  constants = [];
  sensors = [];
  actuators = int_port ∷ [];
  tasks = work ∷ [];
  modes = main ∷ other ∷ [];
  start = record { 0 = 0 };
}

-- the module in a mode, in the cycle that began at `base`
abbrev in_mode : (mode base : ℕ) → ModuleState
in_mode mode base = record { definition = worker; mode = mode; base = base; tasks = []; actuators = [] }

-- ---- its calls, in the cycle from 20 us on

-- after the begin the invocation starts
next_of-start : next_of (in_mode 0 20) 20 ≡ 22
next_of-start = refl

-- the update is not passed over
next_of-update : next_of (in_mode 0 20) 22 ≡ 24
next_of-update = refl

-- then the invocation ends
next_of-end : next_of (in_mode 0 20) 24 ≡ 27
next_of-end = refl

-- the switch is a call, also where it is not taken
next_of-switch : next_of (in_mode 0 20) 27 ≡ 28
next_of-switch = refl

-- so is the end of the period
next_of-period : next_of (in_mode 0 20) 28 ≡ 30
next_of-period = refl

-- a mode in which nothing is done is called at its period's end alone
next_of-nothing : next_of (in_mode 1 20) 20 ≡ 23
next_of-nothing = refl

-- the module is called at the update
is_called-update : is_called 24 (in_mode 0 20) ≡ true
is_called-update = refl

-- and not after it
is_called-after : is_called 25 (in_mode 0 20) ≡ false
is_called-after = refl

-- ---- the events of two modules

-- the first is called at 28 us, the second at 29 us
next_event-first : next_event (in_mode 0 20 ∷ in_mode 1 26 ∷ []) 27 ≡ 28
next_event-first = refl

-- the first is called at 30 us, the second at 29 us
next_event-second : next_event (in_mode 0 20 ∷ in_mode 1 26 ∷ []) 28 ≡ 29
next_event-second = refl

-- ---- the rows of an instant

-- a node without modules
abbrev node : List ℕ → PlacedNode
node name = record { name = name; modules = [] }

-- three nodes, two modules, and four rows of each: two outputs, an actuator and a mode
rows_bound-two : rows_bound (record { modules = worker ∷ worker ∷ [] })
    (record { nodes = node (codes "a") ∷ node (codes "b") ∷ node (codes "c") ∷ []; bus = None }) ≡ 24
rows_bound-two = refl
