-- A well-formed program: of the rules of programs those that its runs depend on, as facts by place.
use Rattle.std.specs.Prelude.{◌≡◌, ◌⊎◌, ℕ, ◌+◌, ◌≤◌, ◌<◌, true, false, ◌==◌, List, [], ◌∷◌, length, Option, Some, None, slice_get}
use Rattle.tdl_base.specs.declared.numbers.Place.{Place}
use Rattle.tdl_base.specs.declared.numbers.Place.TheVariants.{Sensor, Port, Cell}
use Rattle.tdl_base.specs.declared.numbers.PortKey.{PortKey}
use Rattle.tdl_body.specs.declared.tree.Expr.{Expr}
use Rattle.tdl_body.specs.Places.{places_of}
use Rattle.tdl_mode.specs.declared.program.Program.{Program}
use Rattle.tdl_mode.specs.declared.program.Module.{Module}
use Rattle.tdl_mode.specs.declared.program.Mode.{Mode}
use Rattle.tdl_mode.specs.declared.program.Task.{Task}
use Rattle.tdl_mode.specs.declared.program.Invocation.{Invocation}
use Rattle.tdl_mode.specs.declared.program.Update.{Update}
use Rattle.tdl_mode.specs.declared.program.Switch.{Switch}
use Rattle.tdl_mode.specs.States.{invocation_of}
use Rattle.tdl_mode.specs.Imports.{is_among}

-- ---- what expressions read

-- an output that module k may read: of a task of its own, or of a public task of a module that it imports
pub record ReadsPort (program : Program) (k : ℕ) (m : Module) (key : PortKey) : Type 0 where
  pub exporter : Module
  pub task : Task
  pub there : slice_get program.modules key.module.0 ≡ Some exporter
  pub at : slice_get exporter.tasks key.task.0 ≡ Some task
  pub output : key.output < length task.outputs
  pub allowed : (key.module.0 ≡ k) ⊎ ((is_among key.module.0 m.imports ≡ true) × (task.public ≡ true))

-- what a guard, an argument or an update of module k may read: its sensors and such outputs, and no cell
abbrev pub MayRead : Program → ℕ → Module → Place → Type 0
MayRead program k m (Sensor n) = n < length m.sensors
MayRead program k m (Port key) = ReadsPort program k m key
MayRead program k m (Cell n) = ⊥

-- module k may read each of these places
abbrev pub AllRead : Program → ℕ → Module → List Place → Type 0
AllRead program k m [] = Unit {0}
AllRead program k m (a ∷ more) = MayRead program k m a × AllRead program k m more

-- module k may read what the expression reads
abbrev pub Readable : Program → ℕ → Module → Expr → Type 0
Readable program k m e = AllRead program k m (places_of e)

-- the same of a guard, where there is one
abbrev pub GuardReadable : Program → ℕ → Module → Option Expr → Type 0
GuardReadable program k m None = Unit {0}
GuardReadable program k m (Some e) = Readable program k m e

-- the same of each of some arguments
abbrev pub AllReadable : Program → ℕ → Module → List Expr → Type 0
AllReadable program k m [] = Unit {0}
AllReadable program k m (e ∷ es) = Readable program k m e × AllReadable program k m es

-- ---- what a mode does

-- an invocation of a mode of module k: its logical execution time lies in the period and holds its task's worst case
pub record WellInvocation (program : Program) (k : ℕ) (m : Module) (mode : Mode) (i : Invocation) : Type 0 where
  pub lasts : i.s.0 < i.e.0
  pub ends : i.e.0 ≤ mode.period.0
  pub definition : Task
  pub task : slice_get m.tasks i.task.0 ≡ Some definition
  pub inputs : length i.args ≡ length definition.inputs
  pub fits : i.s.0 + definition.worst.0 ≤ i.e.0
  pub guard : GuardReadable program k m i.guard
  pub args : AllReadable program k m i.args

-- an update of a mode of module k, at an offset above 0
pub record WellUpdate (program : Program) (k : ℕ) (m : Module) (mode : Mode) (u : Update) : Type 0 where
  pub above : 0 < u.at.0
  pub within : u.at.0 ≤ mode.period.0
  pub actuator : u.actuator < length m.actuators
  pub guard : GuardReadable program k m u.guard
  pub value : Readable program k m u.value

-- a switch of mode n of module k, at an offset above 0, to another mode
pub record WellSwitch (program : Program) (k : ℕ) (m : Module) (n : ℕ) (mode : Mode) (w : Switch) : Type 0 where
  pub above : 0 < w.at.0
  pub within : w.at.0 ≤ mode.period.0
  pub target : w.target.0 < length m.modes
  pub other : (w.target.0 == n) ≡ false
  pub guard : GuardReadable program k m w.guard

-- mode n of module k
pub record WellMode (program : Program) (k : ℕ) (m : Module) (n : ℕ) (mode : Mode) : Type 0 where
  pub lasts : 0 < mode.period.0
  pub invocations : (q : ℕ) (i : Invocation) → invocation_of mode.invocations q ≡ Some i →
      WellInvocation program k m mode i
  pub updates : (q : ℕ) (u : Update) → slice_get mode.updates q ≡ Some u → WellUpdate program k m mode u
  pub switches : (q : ℕ) (w : Switch) → slice_get mode.switches q ≡ Some w → WellSwitch program k m n mode w
  -- two invocations of one task do not overlap
  pub apart : (q r : ℕ) (i j : Invocation) →
      invocation_of mode.invocations q ≡ Some i → invocation_of mode.invocations r ≡ Some j →
      i.task.0 ≡ j.task.0 → i.s.0 < j.e.0 → j.s.0 < i.e.0 → q ≡ r
  -- an actuator is updated at most once at an offset
  pub once : (q r : ℕ) (u v : Update) → slice_get mode.updates q ≡ Some u → slice_get mode.updates r ≡ Some v →
      u.actuator ≡ v.actuator → u.at.0 ≡ v.at.0 → q ≡ r
  -- no invocation is open across the offset of a switch
  pub closed : (q r : ℕ) (w : Switch) (i : Invocation) →
      slice_get mode.switches q ≡ Some w → invocation_of mode.invocations r ≡ Some i →
      i.s.0 < w.at.0 → w.at.0 < i.e.0 → ⊥
  -- entries of one activity differ in their times alone
  pub calls : (q r : ℕ) (i j : Invocation) →
      slice_get mode.invocations q ≡ Some i → slice_get mode.invocations r ≡ Some j →
      i.act ≡ j.act → (i.task.0 ≡ j.task.0) × (i.args ≡ j.args) × (i.guard ≡ j.guard)
  pub drivers : (q r : ℕ) (u v : Update) → slice_get mode.updates q ≡ Some u → slice_get mode.updates r ≡ Some v →
      u.act ≡ v.act → (u.actuator ≡ v.actuator) × (u.value ≡ v.value) × (u.guard ≡ v.guard)
  pub turns : (q r : ℕ) (w v : Switch) → slice_get mode.switches q ≡ Some w → slice_get mode.switches r ≡ Some v →
      w.act ≡ v.act → (w.target.0 ≡ v.target.0) × (w.guard ≡ v.guard)
  -- and are of one sort
  pub call_or_driver : (q r : ℕ) (i : Invocation) (u : Update) →
      slice_get mode.invocations q ≡ Some i → slice_get mode.updates r ≡ Some u → i.act ≡ u.act → ⊥
  pub call_or_turn : (q r : ℕ) (i : Invocation) (w : Switch) →
      slice_get mode.invocations q ≡ Some i → slice_get mode.switches r ≡ Some w → i.act ≡ w.act → ⊥
  pub driver_or_turn : (q r : ℕ) (u : Update) (w : Switch) →
      slice_get mode.updates q ≡ Some u → slice_get mode.switches r ≡ Some w → u.act ≡ w.act → ⊥

-- ---- a module, and all of them

-- module k: its start mode is there, each job takes time, and what it imports has a lower number
pub record WellModule (program : Program) (k : ℕ) (m : Module) : Type 0 where
  pub start : m.start.0 < length m.modes
  pub modes : (n : ℕ) (mode : Mode) → slice_get m.modes n ≡ Some mode → WellMode program k m n mode
  pub worsts : (t : ℕ) (task : Task) → slice_get m.tasks t ≡ Some task → 0 < task.worst.0
  pub imports : (i : ℕ) → is_among i m.imports ≡ true → i < k

-- a well-formed program; what the rules say of names, sorts of expressions, bodies, numbers in their kinds, repeated
-- imports, upper limits and the order of entries is no part of it, since the laws hold without
pub record WellFormed (program : Program) : Type 0 where
  pub modules : (k : ℕ) (m : Module) → slice_get program.modules k ≡ Some m → WellModule program k m
