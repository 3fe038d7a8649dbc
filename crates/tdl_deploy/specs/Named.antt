-- The names of a program and its placement.
use Rattle.std.specs.Prelude.{ℕ, suc, List, [], ◌∷◌, map, None, codes, if◌then◌else◌}
use Rattle.tdl_base.specs.Lists.{numbered}
use Rattle.tdl_mode.specs.declared.program.Program.{Program}
use Rattle.tdl_mode.specs.declared.program.Module.{Module}
use Rattle.tdl_mode.specs.declared.program.Task.{Task}
use Rattle.tdl_mode.specs.declared.program.PortDef.{PortDef}
use Rattle.tdl_trace.specs.declared.names.Names.{Names}
use Rattle.tdl_trace.specs.declared.names.ModuleNames.{ModuleNames}
use Rattle.tdl_trace.specs.declared.names.TaskNames.{TaskNames}
use Rattle.tdl_trace.specs.declared.names.Named.{Named}
use Rattle.tdl_deploy.specs.declared.placement.Placement.{Placement}
use Rattle.tdl_deploy.specs.declared.placement.PlacedNode.{PlacedNode}
use Rattle.tdl_mode.specs.Imports.{is_among}

-- all modules on the one node `n1`, and no bus
abbrev pub one_node : Program → Placement
one_node program = record {
  nodes = record { name = codes "n1"; modules = numbered 0 (λ m d. record { 0 = m }) program.modules } ∷ [];
  bus = None;
}

-- the kind and the name of a port
abbrev pub named : PortDef → Named
named p = record { kind = p.kind; name = p.name }

-- the names of a task and its outputs
abbrev pub task_names : Task → TaskNames
task_names t = record { name = t.name; worst = t.worst; outputs = map named t.outputs }

-- the first node from number k on that hosts module m, and k past the last
abbrev pub host_from : ℕ → ℕ → List PlacedNode → ℕ
host_from m k [] = k
host_from m k (n ∷ ns) = if is_among m n.modules then k else host_from m (suc k) ns

-- the names of module m and its parts, and the node that hosts it
abbrev pub module_names : Placement → ℕ → Module → ModuleNames
module_names placement m d = record {
  number = record { 0 = m };
  node = record { 0 = host_from m 0 placement.nodes };
  name = d.name;
  sensors = map named d.sensors;
  actuators = map named d.actuators;
  tasks = map task_names d.tasks;
  modes = map (λ mode. mode.name) d.modes;
}

-- the names of the nodes and of all modules with their parts, in order
abbrev pub names_of : Program → Placement → Names
names_of program placement = record {
  nodes = map (λ n. n.name) placement.nodes;
  modules = numbered 0 (module_names placement) program.modules;
}
