-- The program of the two small sources, written out; what their expressions and bodies say has examples of its own.
use Rattle.std.proofs.Common.{◌≡◌, pos, List, [], ◌∷◌, Some, None, true, false, codes, refl}
use Rattle.std.specs.Int.{int_wrap}
use Rattle.tdl_base.specs.declared.kinds.Kind.TheVariants.{Boolean, Byte, Int, Long}
use Rattle.tdl_mode.specs.declared.program.Program.{Program}
use Rattle.tdl_mode.specs.declared.program.Module.{Module}
use Rattle.tdl_mode.specs.declared.program.Task.{Task}
use Rattle.tdl_mode.specs.declared.program.Mode.{Mode}
use Rattle.tdl_program.specs.Bodies.{body_of}
use Rattle.tdl_program.specs.Expressions.{expression_of}
use Rattle.tdl_program.specs.Programs.{program_of}
use Rattle.tdl_program.specs.Examples.{sources, far_scope, near_scope, mix_ports, mix_body, level, on, own_output}

-- the module of far
abbrev far_module : Module
far_module = record {
  name = codes "far";
  imports = [];
  constants = record { public = true; kind = Int; name = codes "top"; value = pos 7 } ∷ [];
  sensors = [];
  actuators = [];
  tasks = record {
    name = codes "feed";
    public = true;
    worst = record { 0 = 2 };
    inputs = [];
    outputs = record { kind = Int; name = codes "o"; initial = pos 5 } ∷ [];
    locals = [];
    body = record { stmts = [] };
  } ∷ [];
  modes = record {
    name = codes "only";
    period = record { 0 = 8 };
    invocations = record {
      act = 0;
      task = record { 0 = 0 };
      s = record { 0 = 0 };
      e = record { 0 = 8 };
      guard = None;
      args = [];
    } ∷ [];
    updates = [];
    switches = [];
  } ∷ [];
  start = record { 0 = 0 };
}

-- the task of near: its inputs, its outputs and its local, each in order of the source
abbrev mix : Task
mix = record {
  name = codes "mix";
  public = false;
  worst = record { 0 = 3 };
  inputs = record { kind = Int; name = codes "a"; initial = pos 0 } ∷
      record { kind = Boolean; name = codes "b"; initial = pos 0 } ∷ [];
  outputs = record { kind = Long; name = codes "o"; initial = pos 4 } ∷
      record { kind = Int; name = codes "p"; initial = pos 0 } ∷ [];
  locals = record { kind = Int; name = codes "l"; initial = pos 0 } ∷ [];
  body = body_of near_scope mix_ports mix_body;
}

-- its mode `work`: the second of three slots, both ends of two slots, the end of the period
abbrev work : Mode
work = record {
  name = codes "work";
  period = record { 0 = 12 };
  invocations = record {
    act = 0;
    task = record { 0 = 0 };
    s = record { 0 = 4 };
    e = record { 0 = 8 };
    guard = None;
    args = expression_of near_scope level ∷ expression_of near_scope on ∷ [];
  } ∷ [];
  updates = record {
    act = 1;
    actuator = 0;
    at = record { 0 = 6 };
    value = expression_of near_scope own_output;
    guard = Some (expression_of near_scope on);
  } ∷ record {
    act = 1;
    actuator = 0;
    at = record { 0 = 12 };
    value = expression_of near_scope own_output;
    guard = Some (expression_of near_scope on);
  } ∷ [];
  switches = record {
    act = 2;
    at = record { 0 = 12 };
    target = record { 0 = 0 };
    guard = Some (expression_of near_scope on);
  } ∷ [];
}

-- the module of near; 300 is 44 as a byte
abbrev near_module : Module
near_module = record {
  name = codes "near";
  imports = record { 0 = 0 } ∷ [];
  constants = record { public = false; kind = Long; name = codes "gain"; value = pos 9 } ∷ [];
  sensors = record { kind = Int; name = codes "level"; initial = pos 0 } ∷
      record { kind = Boolean; name = codes "on"; initial = pos 0 } ∷ [];
  actuators = record { kind = Byte; name = codes "valve"; initial = pos 44 } ∷ [];
  tasks = mix ∷ [];
  modes = record { name = codes "rest"; period = record { 0 = 10 }; invocations = []; updates = []; switches = [] } ∷
      work ∷ [];
  start = record { 0 = 1 };
}

-- the sources say these modules
both : program_of sources ≡ record { modules = far_module ∷ near_module ∷ [] }
unfolding int_wrap
both = refl
