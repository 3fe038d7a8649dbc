-- The images of a program: its tables on each node.
use Rattle.std.specs.Prelude.{ℕ, ◌+◌, ◌-◌, Bool, not, ◌==◌, ◌&&◌, ◌||◌, nat_lt, List, [], ◌∷◌, map, filter, find, Option, option_map, option_and_then, unwrap_or, slice_get, if◌then◌else◌}
use Rattle.std.specs.Option.{option_or}
use Rattle.tdl_base.specs.Lists.{joined, numbered, inserted}
use Rattle.tdl_body.specs.declared.tree.Expr.{Expr}
use Rattle.tdl_mode.specs.declared.program.Program.{Program}
use Rattle.tdl_mode.specs.declared.program.Module.{Module}
use Rattle.tdl_mode.specs.declared.program.Mode.{Mode}
use Rattle.tdl_mode.specs.declared.program.Invocation.{Invocation}
use Rattle.tdl_mode.specs.declared.program.Task.{Task}
use Rattle.tdl_mode.specs.declared.program.PortDef.{PortDef}
use Rattle.tdl_deploy.specs.declared.placement.Placement.{Placement}
use Rattle.tdl_deploy.specs.declared.schedule.Schedule.{Schedule}
use Rattle.tdl_deploy.specs.declared.schedule.Window.{Window}
use Rattle.tdl_deploy.specs.Placed.{hosts, imports, is_remote}
use Rattle.tdl_deploy.specs.Passes.{is_bus}
use Rattle.tdl_stack.specs.declared.instr.Code.{Code}
use Rattle.tdl_ecode.specs.declared.instr.EInstr.TheVariants as e
use Rattle.tdl_ecode.specs.declared.instr.Block.{Block}
use Rattle.tdl_image.specs.declared.bundle.KindName.{KindName}
use Rattle.tdl_image.specs.declared.bundle.Initial.{Initial}
use Rattle.tdl_image.specs.declared.hosted.Hosted.{Hosted}
use Rattle.tdl_image.specs.declared.hosted.TaskTable.{TaskTable}
use Rattle.tdl_image.specs.declared.hosted.CallEntry.{CallEntry}
use Rattle.tdl_image.specs.declared.hosted.ReleaseEntry.{ReleaseEntry}
use Rattle.tdl_image.specs.declared.hosted.Driver.{Driver}
use Rattle.tdl_image.specs.declared.hosted.ImageWindow.{ImageWindow}
use Rattle.tdl_image.specs.declared.stub.Stub.{Stub}
use Rattle.tdl_image.specs.declared.stub.StubTask.{StubTask}
use Rattle.tdl_image.specs.declared.stub.Receive.{Receive}
use Rattle.tdl_verify.specs.Turns.{no_code}
use Rattle.tdl_lower.specs.Templates.{expr_code, body_code}
use Rattle.tdl_gen.specs.BlockNames.{InMode, BlockName, block_number, call_names, driver_names, guard_names, release_names, number_in}
use Rattle.tdl_gen.specs.Blocks.{blocks_of}

-- the code of an expression
abbrev pub coded : Expr → Code
coded expr = record { instrs = expr_code expr }

-- the kinds and names of ports
abbrev pub kind_names : List PortDef → List KindName
kind_names ports = map (λ p. record { kind = p.kind; name = p.name }) ports

-- the kinds, names and initial numbers of ports
abbrev pub initials : List PortDef → List Initial
initials ports = map (λ p. record { kind = p.kind; name = p.name; initial = p.initial }) ports

-- the table of a task
abbrev pub task_table : Task → TaskTable
task_table t = record {
  name = t.name;
  worst = t.worst.0;
  inputs = map (λ p. p.kind) t.inputs;
  outputs = initials t.outputs;
  locals = map (λ p. p.kind) t.locals;
  body = record { instrs = body_code t.body };
}

-- the mode k of a module
abbrev pub mode_at : Module → ℕ → Option Mode
mode_at m k = slice_get m.modes k

-- what is made of the first item of a mode that passes, where there is one
abbrev pub in_mode : {A B : Type 0} → Module → ℕ → (Mode → List A) → (A → Bool) → (A → B) → Option B
in_mode m k items passes make = option_and_then (λ mode. option_map make (find passes (items mode))) (mode_at m k)

-- the call of a task activity; an empty one where there is no such activity
abbrev pub call_of : Module → InMode → CallEntry
call_of m name =
    unwrap_or (in_mode m name.mode (λ mode. mode.invocations) (λ i. i.act == name.number)
    (λ i. record { task = i.task.0; args = map coded i.args }))
    (record { task = 0; args = [] })

-- the driver of an update activity; an empty one where there is no such activity
abbrev pub driver_of : Module → InMode → Driver
driver_of m name =
    unwrap_or (in_mode m name.mode (λ mode. mode.updates) (λ u. u.act == name.number)
    (λ u. record { actuator = u.actuator; value = coded u.value }))
    (record { actuator = 0; value = no_code })

-- the guard of an activity of a mode, as its first entry has it
abbrev pub guard_in : Mode → ℕ → Option Expr
guard_in mode a =
    option_or (option_and_then (λ i. i.guard) (find (λ i. i.act == a) mode.invocations))
    (option_or (option_and_then (λ u. u.guard) (find (λ u. u.act == a) mode.updates))
    (option_and_then (λ s. s.guard) (find (λ s. s.act == a) mode.switches)))

-- the code of the guard of an activity; no code where there is none
abbrev pub guard_of : Module → InMode → Code
guard_of m name =
    unwrap_or (option_map coded (option_and_then (λ mode. guard_in mode name.number) (mode_at m name.mode))) no_code

-- the activity of an invocation; 0 where there is no such invocation
abbrev pub act_of : Module → InMode → ℕ
act_of m name =
    unwrap_or (option_map (λ i. i.act)
    (option_and_then (λ mode. slice_get mode.invocations (name.number - 1)) (mode_at m name.mode))) 0

-- the release of an invocation, with the call of its activity
abbrev pub release_of : Module → InMode → ReleaseEntry
release_of m name = record {
  mode = name.mode;
  invocation = name.number;
  call = number_in (call_names m) name.mode (act_of m name);
}

-- a window of the schedule as one of an image
abbrev pub image_window : Window → ImageWindow
image_window w = record {
  bus = is_bus w.resource;
  mode = w.mode.0;
  invocation = w.invocation;
  offset = w.offset;
  length = w.length;
}

-- one window comes before another: by mode, invocation, resource and offset
abbrev pub is_before : ImageWindow → ImageWindow → Bool
is_before v w =
    nat_lt v.mode w.mode || (v.mode == w.mode && (nat_lt v.invocation w.invocation || (v.invocation == w.invocation
    && ((not v.bus && w.bus) || ((v.bus && w.bus || not v.bus && not w.bus) && nat_lt v.offset w.offset)))))

-- windows, each in its place among those that are in order
abbrev pub ordered_from : List ImageWindow → List ImageWindow → List ImageWindow
ordered_from ordered [] = ordered
ordered_from ordered (w ∷ ws) = ordered_from (inserted is_before w ordered) ws

-- the windows of module m, in order
abbrev pub windows_of : Schedule → ℕ → List ImageWindow
windows_of schedule m = ordered_from [] (map image_window (filter (λ w. w.module.0 == m) schedule.windows))

-- module m where it is hosted
abbrev pub hosted_of : Schedule → ℕ → Module → Hosted
hosted_of schedule k m = record {
  number = record { 0 = k };
  name = m.name;
  sensors = kind_names m.sensors;
  actuators = initials m.actuators;
  tasks = map task_table m.tasks;
  modes = map (λ mode. mode.name) m.modes;
  calls = map (call_of m) (call_names m);
  releases = map (release_of m) (release_names m);
  guards = map (guard_of m) (guard_names m);
  drivers = map (driver_of m) (driver_names m);
  windows = windows_of schedule k;
  blocks = blocks_of m;
  entry = block_number m BlockName.Boot;
}

-- the public tasks of a module, with their numbers
abbrev pub stub_tasks : Module → List StubTask
stub_tasks m =
    joined (numbered 0 (λ t task.
    if task.public then record { number = t; name = task.name; outputs = initials task.outputs } ∷ [] else []) m.tasks)

-- where the bus window of an invocation ends, in its cycle
abbrev pub bus_end : Schedule → ℕ → ℕ → ℕ → ℕ
bus_end schedule m k n =
    unwrap_or (option_map (λ w. w.offset + w.length)
    (find (λ w. is_bus w.resource && (w.module.0 == m && (w.mode.0 == k && w.invocation == n))) schedule.windows)) 0

-- how long after the end of its bus window the outputs of an invocation are due
abbrev pub delta_of : Schedule → ℕ → ℕ → ℕ → Invocation → ℕ
delta_of schedule m k n i = i.e.0 - bus_end schedule m k n

-- the invocations of a task in a mode, with what follows their frames' arrival; the blocks are numbered later
abbrev pub receives_in : Schedule → ℕ → ℕ → ℕ → Mode → List Receive
receives_in schedule m t k mode =
    joined (numbered 1 (λ n i. if i.task.0 == t
    then record { mode = k; invocation = n; task = t; delta = delta_of schedule m k n i; block = 0 } ∷ []
    else []) mode.invocations)

-- an entry for each remote invocation, by task, mode and number, each with its own block
abbrev pub receives : Program → Placement → Schedule → ℕ → Module → List Receive
receives program placement schedule k m =
    numbered 0 (λ r (e : Receive). record e { block = r })
    (joined (numbered 0 (λ t task.
    if is_remote program placement k task then joined (numbered 0 (receives_in schedule k t) m.modes) else []) m.tasks))

-- the block of entry r
abbrev pub take_block : ℕ → Block
take_block r = record { phase = 1; code = e.Take r ∷ e.Return ∷ [] }

-- the stub of module m
abbrev pub stub_of : Program → Placement → Schedule → ℕ → Module → Stub
stub_of program placement schedule k m = record {
  number = record { 0 = k };
  name = m.name;
  tasks = stub_tasks m;
  entries = receives program placement schedule k m;
  blocks = map (λ (e : Receive). take_block e.block) (receives program placement schedule k m);
}

-- the modules that a node hosts, in order of their numbers
abbrev pub hosted_on : Program → Placement → Schedule → ℕ → List Hosted
hosted_on program placement schedule node =
    joined (numbered 0 (λ k m.
    if hosts placement node k then hosted_of schedule k m ∷ [] else []) program.modules)

-- the stubs of a node: of the modules that its own import and that it does not host
abbrev pub stubs_on : Program → Placement → Schedule → ℕ → List Stub
stubs_on program placement schedule node =
    joined (numbered 0 (λ k m.
    if not (hosts placement node k) && imports program placement node k
    then stub_of program placement schedule k m ∷ [] else []) program.modules)
