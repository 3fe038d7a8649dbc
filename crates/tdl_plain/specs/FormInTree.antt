-- The form in a tree: each name and number that stands where a tree of the plain shape has it; no text, or 0, elsewhere.
use Rattle.std.specs.Prelude.{ℕ, List, [], Option, Some, None, slice_get}
use Rattle.tdl_tree.specs.declared.declarations.Decl.{Decl}
use Rattle.tdl_tree.specs.declared.declarations.Decl.TheVariants as decls
use Rattle.tdl_tree.specs.declared.declarations.PortDecl.{PortDecl}
use Rattle.tdl_tree.specs.declared.declarations.Tree.{Tree}
use Rattle.tdl_tree.specs.declared.names.Lit.{Lit}
use Rattle.tdl_tree.specs.declared.names.LitValue.{LitValue}
use Rattle.tdl_tree.specs.declared.names.LitValue.TheVariants as lit
use Rattle.tdl_plain.specs.declared.form.Form.{Form}

-- a sensor's name
abbrev pub sensor_name : Option Decl → List ℕ
sensor_name (Some (decls.Sensor kind name)) = name.text
sensor_name other = []

-- a task's name
abbrev pub task_name : Option Decl → List ℕ
task_name (Some (decls.Task public name worst ports body)) = name.text
task_name other = []

-- a task's worst case
abbrev pub task_worst : Option Decl → ℕ
task_worst (Some (decls.Task public name worst ports body)) = worst.number.value
task_worst other = 0

-- a task's ports
abbrev pub task_ports : Option Decl → List PortDecl
task_ports (Some (decls.Task public name worst ports body)) = ports
task_ports other = []

-- a port's name
abbrev pub port_name : Option PortDecl → List ℕ
port_name (Some port) = port.name.text
port_name None = []

-- the number of a literal
abbrev pub value_number : LitValue → ℕ
value_number (lit.Number minus number) = number.value
value_number other = 0

abbrev pub literal_number : Option Lit → ℕ
literal_number (Some literal) = value_number literal.value
literal_number None = 0

-- a port's initial number
abbrev pub port_initial : Option PortDecl → ℕ
port_initial (Some port) = literal_number port.initial
port_initial None = 0

-- a mode's name
abbrev pub mode_name : Option Decl → List ℕ
mode_name (Some (decls.Mode start name period acts)) = name.text
mode_name other = []

-- a mode's period
abbrev pub mode_period : Option Decl → ℕ
mode_period (Some (decls.Mode start name period acts)) = period.number.value
mode_period other = 0

-- the form in a tree
abbrev pub form_in : Tree → Form
form_in tree = record {
  «module» = tree.name.text;
  sensor = sensor_name (slice_get tree.decls 0);
  task = task_name (slice_get tree.decls 1);
  worst = task_worst (slice_get tree.decls 1);
  input = port_name (slice_get (task_ports (slice_get tree.decls 1)) 0);
  output = port_name (slice_get (task_ports (slice_get tree.decls 1)) 1);
  initial = port_initial (slice_get (task_ports (slice_get tree.decls 1)) 1);
  mode = mode_name (slice_get tree.decls 2);
  period = mode_period (slice_get tree.decls 2);
}
