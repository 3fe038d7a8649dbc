-- The state of a node: its hosted modules and stubs, each with its tables beside its state.
use Rattle.std.specs.Prelude.{ℕ, ℤ, pos, Bool, nat_le, List, [], ◌∷◌, map, Option, Some, None, option_map, unwrap_or, slice_get, slice_index_or, find, if◌then◌else◌, ◌==◌, flat_map}
use Rattle.tdl_base.specs.Lists.{inserted}
use Rattle.tdl_base.specs.Sensed.{Sensed}
use Rattle.tdl_base.specs.declared.numbers.PortKey.{PortKey}
use Rattle.tdl_stack.specs.declared.instr.Code.{Code}
use Rattle.tdl_stack.specs.Running.{Outer, code_value}
use Rattle.tdl_image.specs.declared.bundle.Image.{Image}
use Rattle.tdl_image.specs.declared.bundle.Initial.{Initial}
use Rattle.tdl_image.specs.declared.hosted.Hosted.{Hosted}
use Rattle.tdl_image.specs.declared.hosted.TaskTable.{TaskTable}
use Rattle.tdl_image.specs.declared.stub.Stub.{Stub}
use Rattle.tdl_image.specs.declared.stub.StubTask.{StubTask}
use Rattle.tdl_image.specs.declared.stub.Receive.{Receive}

-- the slot of a task: no job, a job that has so many microseconds left, or one that is done
pub data Slot : Type 0 where
  Idle : Slot
  Ready : (mode invocation left : ℕ) (cells : List ℤ) → Slot
  Done : (mode invocation : ℕ) (outputs : List ℤ) → Slot

-- a task of a hosted module: its committed outputs, its slot, and how many jobs were released
pub record TaskNow : Type 0 where
  pub outputs : List ℤ
  pub slot : Slot
  pub released : ℕ

-- an instant and the block that runs then
pub record Trigger : Type 0 where
  pub at : ℕ
  pub block : ℕ

-- a hosted module: its mode or none, where its cycle began, its trigger or none, its tasks and actuators
pub record HostNow : Type 0 where
  pub mode : Option ℕ
  pub base : ℕ
  pub trigger : Option Trigger
  pub tasks : List TaskNow
  pub actuators : List ℤ

-- a receive entry: the outputs of its last frame, and the instant at which its block runs or none
pub record EntryNow : Type 0 where
  pub copy : List ℤ
  pub due : Option ℕ

-- a stub: the outputs of its tasks, and its entries
pub record StubNow : Type 0 where
  pub outputs : List (List ℤ)
  pub entries : List EntryNow

-- a hosted module or a stub, its tables beside its state
pub data Part : Type 0 where
  Host : Hosted → HostNow → Part
  Outside : Stub → StubNow → Part

-- a stretch in which one job runs in one window: whose, the window's end, and where it began
pub record Stretch : Type 0 where
  pub owner : ℕ
  pub task : ℕ
  pub mode : ℕ
  pub invocation : ℕ
  pub window_end : ℕ
  pub from : ℕ

-- a node: the greatest number of instructions at one instant, its parts in ascending number, and the open stretch
pub record NodeNow : Type 0 where
  pub declared : ℕ
  pub parts : List Part
  pub running : Option Stretch

-- how long the k-th job of a task of a module takes, from 1
abbrev pub Times : Type 0
Times = ℕ → ℕ → ℕ → ℕ

-- the number of a module or stub
abbrev pub part_number : Part → ℕ
part_number (Part.Host h s) = h.number.0
part_number (Part.Outside t s) = t.number.0

-- the outputs of task t of a stub
abbrev pub stub_outputs : ℕ → List StubTask → List (List ℤ) → List ℤ
stub_outputs t (task ∷ tasks) (outputs ∷ more) = if task.number == t then outputs else stub_outputs t tasks more
stub_outputs t tasks outputs = []

-- the outputs of task t of a part
abbrev pub part_outputs : Part → ℕ → List ℤ
part_outputs (Part.Host h s) t = unwrap_or (option_map (λ u. u.outputs) (slice_get s.tasks t)) []
part_outputs (Part.Outside p s) t = stub_outputs t p.tasks s.outputs

-- the outputs that the parts of a node hold
abbrev pub outputs_on : List Part → PortKey → ℤ
outputs_on parts key =
    slice_index_or
    (unwrap_or (option_map (λ p. part_outputs p key.task.0) (find (λ p. part_number p == key.module.0) parts)) [])
    key.output (pos 0)

-- what the code of module m reads on a node
abbrev pub outer_on : List Part → Sensed → ℕ → Outer
outer_on parts sensed m = record { sensor = sensed m; port = outputs_on parts }

-- the number of a code of module m
abbrev pub value_on : List Part → Sensed → ℕ → Code → ℤ
value_on parts sensed m code = code_value (outer_on parts sensed m) code.instrs

-- the initial numbers of ports
abbrev pub initial_values : List Initial → List ℤ
initial_values ports = map (λ p. p.initial) ports

-- a task before its first job
abbrev pub task_first : TaskTable → TaskNow
task_first t = record { outputs = initial_values t.outputs; slot = Slot.Idle; released = 0 }

-- a hosted module before instant 0: no mode, and a trigger at 0 for its entry block
abbrev pub host_first : Hosted → Part
host_first h = Part.Host h (record {
  mode = None;
  base = 0;
  trigger = Some (record { at = 0; block = h.entry });
  tasks = map task_first h.tasks;
  actuators = initial_values h.actuators;
})

-- the initial outputs of task t of a stub
abbrev pub stub_initials : Stub → ℕ → List ℤ
stub_initials s t =
    unwrap_or (option_map (λ (k : StubTask). initial_values k.outputs) (find (λ k. k.number == t) s.tasks)) []

-- a stub before instant 0: its entries hold the initial outputs of their tasks
abbrev pub stub_first : Stub → Part
stub_first s = Part.Outside s (record {
  outputs = map (λ (t : StubTask). initial_values t.outputs) s.tasks;
  entries = map (λ (e : Receive). record { copy = stub_initials s e.task; due = None }) s.entries;
})

-- one part comes before another of the same number or a greater one
abbrev pub is_part_before : Part → Part → Bool
is_part_before p q = nat_le (part_number p) (part_number q)

-- parts one after the other, each in its place among the others
abbrev pub placed_all : List Part → List Part → List Part
placed_all [] qs = qs
placed_all (p ∷ ps) qs = inserted is_part_before p (placed_all ps qs)

-- a node before instant 0
abbrev pub node_first : Image → NodeNow
node_first image = record {
  declared = image.declared;
  parts = placed_all (map host_first image.hosted) (map stub_first image.stubs);
  running = None;
}

-- the parts of all nodes
unfoldable pub all_parts : List NodeNow → List Part
all_parts nodes = flat_map (λ (n : NodeNow). n.parts) nodes
