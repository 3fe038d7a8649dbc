-- The run of a bundle under a scenario, and what is printed of it.
use Rattle.std.specs.Prelude.{ℕ, Bool, nat_lt, List, [], ◌∷◌, map, option_map, option_and_then, unwrap_or, slice_get, find, ◌==◌}
use Rattle.std.specs.List.{flat_map}
use Rattle.tdl_base.specs.Lists.{joined, numbered, inserted}
use Rattle.tdl_trace.specs.declared.names.Names.{Names}
use Rattle.tdl_trace.specs.declared.names.ModuleNames.{ModuleNames}
use Rattle.tdl_trace.specs.declared.names.TaskNames.{TaskNames}
use Rattle.tdl_trace.specs.declared.names.Named.{Named}
use Rattle.tdl_trace.specs.Lines.{text_of}
use Rattle.tdl_scen.specs.declared.entries.Scenario.{Scenario}
use Rattle.tdl_scen.specs.Scenario.{course_of, time_of}
use Rattle.tdl_image.specs.declared.bundle.Bundle.{Bundle}
use Rattle.tdl_image.specs.declared.bundle.Image.{Image}
use Rattle.tdl_image.specs.declared.bundle.KindName.{KindName}
use Rattle.tdl_image.specs.declared.bundle.Initial.{Initial}
use Rattle.tdl_image.specs.declared.hosted.Hosted.{Hosted}
use Rattle.tdl_image.specs.declared.hosted.TaskTable.{TaskTable}
use Rattle.tdl_verify.specs.States.{Times}
use Rattle.tdl_verify.specs.Runs.{Run, machine_run, no_loss, plain_rows}

-- the kind and the name of a sensor
abbrev pub sensor_named : KindName → Named
sensor_named s = record { kind = s.kind; name = s.name }

-- the kind and the name of an actuator or an output
abbrev pub port_named : Initial → Named
port_named p = record { kind = p.kind; name = p.name }

-- the names of a task and its outputs
abbrev pub table_names : TaskTable → TaskNames
table_names t = record { name = t.name; worst = record { 0 = t.worst }; outputs = map port_named t.outputs }

-- the names of a module and its parts, and the node that hosts it
abbrev pub hosted_names : ℕ → Hosted → ModuleNames
hosted_names node h = record {
  number = h.number;
  node = record { 0 = node };
  name = h.name;
  sensors = map sensor_named h.sensors;
  actuators = map port_named h.actuators;
  tasks = map table_names h.tasks;
  modes = h.modes;
}

-- a module's names come before those of a module of a greater number
abbrev pub is_named_before : ModuleNames → ModuleNames → Bool
is_named_before n k = nat_lt n.number.0 k.number.0

-- the modules' names in ascending number
abbrev pub names_sorted : List ModuleNames → List ModuleNames
names_sorted [] = []
names_sorted (n ∷ ns) = inserted is_named_before n (names_sorted ns)

-- the names of the nodes, and of all hosted modules with their parts
abbrev pub bundle_names : Bundle → Names
bundle_names b = record {
  nodes = map (λ i. i.node) b.images;
  modules = names_sorted (joined (numbered 0 (λ k (i : Image). map (hosted_names k) i.hosted) b.images));
}

-- the worst case of task t of module m; 0 where there is no such task
abbrev pub worst_in : Bundle → ℕ → ℕ → ℕ
worst_in b m t =
    unwrap_or (option_map (λ (k : TaskTable). k.worst)
    (option_and_then (λ (h : Hosted). slice_get h.tasks t)
    (find (λ (h : Hosted). h.number.0 == m) (flat_map (λ (i : Image). i.hosted) b.images)))) 0

-- how long the jobs take: as the scenario lists it, otherwise their worst cases
abbrev pub times_in : Bundle → Scenario → Times
times_in b s m t k = time_of s.times (worst_in b m t) m t k

-- the run of a bundle under a scenario, up to its horizon
abbrev pub bundle_run : Bundle → Scenario → Run
bundle_run b s = machine_run b s.horizon.0 (course_of s.senses) (times_in b s) no_loss

-- the lines of the run, without the log; at a trap the trap's line last
abbrev pub bundle_text : Bundle → Scenario → List ℕ
bundle_text b s = text_of (bundle_names b) (plain_rows (bundle_run b s))
