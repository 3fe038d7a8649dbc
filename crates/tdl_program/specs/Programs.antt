-- The program that a set of sources says.
use Rattle.std.specs.Prelude.{pos, Bool, false, List, [], ◌∷◌, map, option_map, unwrap_or}
use Rattle.tdl_base.specs.declared.numbers.ModuleId.{ModuleId}
use Rattle.tdl_base.specs.declared.numbers.ModeId.{ModeId}
use Rattle.tdl_mode.specs.declared.program.Program.{Program}
use Rattle.tdl_mode.specs.declared.program.Module.{Module}
use Rattle.tdl_mode.specs.declared.program.Constant.{Constant}
use Rattle.tdl_mode.specs.declared.program.PortDef.{PortDef}
use Rattle.tdl_mode.specs.declared.program.Task.{Task}
use Rattle.tdl_mode.specs.declared.program.Mode.{Mode}
use Rattle.tdl_tree.specs.declared.declarations.Decl.{Decl}
use Rattle.tdl_tree.specs.declared.declarations.Decl.TheVariants as decl
use Rattle.tdl_tree.specs.declared.declarations.PortDecl.{PortDecl}
use Rattle.tdl_tree.specs.declared.declarations.Sort.TheVariants as sort
use Rattle.tdl_tree.specs.declared.declarations.Tree.{Tree}
use Rattle.tdl_tree.specs.declared.names.Id.{Id}
use Rattle.tdl_rules.specs.Lists.{each, first_place}
use Rattle.tdl_rules.specs.Naming.{Scope, exporter}
use Rattle.tdl_rules.specs.Parts.{modules}
use Rattle.tdl_rules.specs.Times.{time_us}
use Rattle.tdl_program.specs.Literals.{literal_of, initial_number}
use Rattle.tdl_program.specs.Ordinals.{ordinal, is_mode, ports_of}
use Rattle.tdl_program.specs.Bodies.{body_of}
use Rattle.tdl_program.specs.Activities.{invocations_of, updates_of, switches_of}

-- ---- declarations

-- a constant
abbrev pub constants_in : Decl → List Constant
constants_in (decl.Const public kind name value) =
    (record { public = public; kind = kind; name = name.text; value = literal_of kind value }) ∷ []
constants_in _ = []

-- a sensor, which begins with 0
abbrev pub sensors_in : Decl → List PortDef
sensors_in (decl.Sensor kind name) = (record { kind = kind; name = name.text; initial = pos 0 }) ∷ []
sensors_in _ = []

-- an actuator, which begins with its literal
abbrev pub actuators_in : Decl → List PortDef
actuators_in (decl.Actuator kind name initial) =
    (record { kind = kind; name = name.text; initial = initial_number kind initial }) ∷ []
actuators_in _ = []

-- a port of a task; only an output may have a literal
abbrev pub port_of : PortDecl → PortDef
port_of port = record { kind = port.kind; name = port.name.text; initial = initial_number port.kind port.initial }

-- a task
abbrev pub tasks_in : Scope → Decl → List Task
tasks_in scope (decl.Task public name worst ports body) = (record {
  name = name.text;
  public = public;
  worst = record { 0 = time_us worst };
  inputs = map port_of (ports_of sort.Input ports);
  outputs = map port_of (ports_of sort.Output ports);
  locals = map port_of (ports_of sort.Local ports);
  body = body_of scope ports body;
}) ∷ []
tasks_in scope _ = []

-- a mode
abbrev pub modes_in : Scope → Decl → List Mode
modes_in scope (decl.Mode start name period acts) = (record {
  name = name.text;
  period = record { 0 = time_us period };
  invocations = invocations_of scope (time_us period) acts;
  updates = updates_of scope (time_us period) acts;
  switches = switches_of scope (time_us period) acts;
}) ∷ []
modes_in scope _ = []

-- ---- modules

-- the number of the module that an import names; 0 where it names none
abbrev pub import_of : Scope → Id → ModuleId
import_of scope id = record { 0 = unwrap_or (option_map (λ source. source.0) (exporter scope id.text)) 0 }

-- a declaration of a start mode
abbrev pub is_start : Decl → Bool
is_start (decl.Mode start name period acts) = start
is_start _ = false

-- the number of the first start mode among the modes; 0 where there is none
abbrev pub start_of : List Decl → ModeId
start_of decls = record { 0 = unwrap_or (option_map (ordinal is_mode decls) (first_place is_start decls)) 0 }

-- the module of a source
abbrev pub module_of : Scope → Module
module_of scope = record {
  name = scope.tree.name.text;
  imports = map (import_of scope) scope.tree.imports;
  constants = each constants_in scope.tree.decls;
  sensors = each sensors_in scope.tree.decls;
  actuators = each actuators_in scope.tree.decls;
  tasks = each (tasks_in scope) scope.tree.decls;
  modes = each (modes_in scope) scope.tree.decls;
  start = start_of scope.tree.decls;
}

-- the program of a set of sources
abbrev pub program_of : List Tree → Program
program_of sources = record { modules = map module_of (modules sources) }
