-- What the laws of the logical instant say.
use Rattle.std.specs.Prelude.{◌≡◌, ◌⊎◌, ℕ, ◌+◌, ℤ, false, true, ◌==◌, map, Some, option_map, unwrap_or, slice_get}
use Rattle.tdl_base.specs.Lists.{numbered}
use Rattle.tdl_base.specs.Numbers.{narrowed}
use Rattle.tdl_base.specs.declared.kinds.Kind.{Kind}
use Rattle.tdl_base.specs.declared.kinds.Kind.TheVariants.{Long}
use Rattle.tdl_base.specs.declared.numbers.PortKey.{PortKey}
use Rattle.tdl_body.specs.Values.{Look, value_of, holds}
use Rattle.tdl_mode.specs.declared.program.Program.{Program}
use Rattle.tdl_mode.specs.declared.program.Module.{Module}
use Rattle.tdl_mode.specs.declared.program.Mode.{Mode}
use Rattle.tdl_mode.specs.declared.program.Invocation.{Invocation}
use Rattle.tdl_mode.specs.declared.program.Update.{Update}
use Rattle.tdl_mode.specs.declared.program.Switch.{Switch}
use Rattle.tdl_mode.specs.Offsets.{is_offset}
use Rattle.tdl_base.specs.Sensed.{Sensed}
use Rattle.tdl_mode.specs.States.{Job, TaskState, ModuleState, State, present, invocation_of, outputs_in, kinds_of}
use Rattle.tdl_mode.specs.Phases.{phase_one, narrowed_args}
use Rattle.tdl_mode.specs.Instants.{logical, alone}
use Rattle.tdl_mode.specs.WellFormed.{ReadsPort}

-- the outputs of other modules, by key, as a module sees them
abbrev pub Outputs : Type 0
Outputs = PortKey → ℤ

-- the instant of all modules is that of each alone, which sees the outputs of all tasks after their terminations
abbrev pub IsModuleByModule : ℕ → Sensed → State → Type 0
IsModuleByModule x sensed state =
    logical x sensed state ≡ numbered 0 (λ k m. alone k x sensed (outputs_in (map (phase_one x) state)) m) state

-- x is at no offset of the mode that the module is in
pub record AtNoOffset (x : ℕ) (m : ModuleState) : Type 0 where
  pub mode : Mode
  pub now : present m ≡ Some mode
  pub offset : ℕ
  pub at : x ≡ m.base + offset
  pub none : is_offset mode offset ≡ false

-- two views have one number for each output of another module that module k may read
abbrev pub AgreeOnRead : Program → ℕ → Module → Outputs → Outputs → Type 0
AgreeOnRead program k m seen seen' =
    (key : PortKey) → ReadsPort program k m key → (key.module.0 == k) ≡ false → seen key ≡ seen' key

-- ---- cycles

-- a switch of the mode stands at x, in the cycle that began at `base`
pub record SwitchAt (base x : ℕ) (mode : Mode) : Type 0 where
  pub place : ℕ
  pub switch : Switch
  pub there : slice_get mode.switches place ≡ Some switch
  pub at : base + switch.at.0 ≡ x

-- a cycle of the module may end at x: its period is over, or a switch stands there
pub record MayEnd (x : ℕ) (m : ModuleState) : Type 0 where
  pub mode : Mode
  pub now : present m ≡ Some mode
  pub ends : (m.base + mode.period.0 ≡ x) ⊎ SwitchAt m.base x mode

-- the module stays in its cycle, or its cycle ends and the next, of some mode, begins at x
abbrev pub StaysOrTurns : ℕ → ModuleState → ModuleState → Type 0
StaysOrTurns x m after = ((after.mode ≡ m.mode) × (after.base ≡ m.base)) ⊎ ((after.base ≡ x) × MayEnd x m)

-- ---- activities

-- the job's invocation ends at x
pub record EndsAt (x : ℕ) (m : ModuleState) (job : Job) : Type 0 where
  pub mode : Mode
  pub now : present m ≡ Some mode
  pub own : job.mode ≡ m.mode
  pub invocation : Invocation
  pub there : invocation_of mode.invocations job.invocation ≡ Some invocation
  pub at : m.base + invocation.e.0 ≡ x

-- the kind of actuator a
abbrev kind_of_actuator : ModuleState → ℕ → Kind
kind_of_actuator m a = unwrap_or (option_map (λ p. p.kind) (slice_get m.definition.actuators a)) Long

-- an update of actuator a stands at x, its guard holds, and v is its number
pub record UpdatesTo (x : ℕ) (m : ModuleState) (look : Look) (a : ℕ) (v : ℤ) : Type 0 where
  pub mode : Mode
  pub now : present m ≡ Some mode
  pub place : ℕ
  pub update : Update
  pub there : slice_get mode.updates place ≡ Some update
  pub actuator : update.actuator ≡ a
  pub at : m.base + update.at.0 ≡ x
  pub guard : holds update.guard look ≡ true
  pub value : v ≡ narrowed (kind_of_actuator m a) (value_of update.value look)

-- a switch to mode k stands at x, and its guard holds
pub record SwitchesTo (x : ℕ) (m : ModuleState) (look : Look) (k : ℕ) : Type 0 where
  pub mode : Mode
  pub now : present m ≡ Some mode
  pub place : ℕ
  pub switch : Switch
  pub there : slice_get mode.switches place ≡ Some switch
  pub target : switch.target.0 ≡ k
  pub at : m.base + switch.at.0 ≡ x
  pub guard : holds switch.guard look ≡ true

-- task t with a new job, whose invocation starts at x and whose guard holds
pub record ReleasedAs (x : ℕ) (m : ModuleState) (look : Look) (t : ℕ) (before after : TaskState) : Type 0 where
  pub job : Job
  pub active : after ≡ record before { active = Some job }
  pub mode : Mode
  pub now : present m ≡ Some mode
  pub own : job.mode ≡ m.mode
  pub invocation : Invocation
  pub there : invocation_of mode.invocations job.invocation ≡ Some invocation
  pub task : invocation.task.0 ≡ t
  pub at : m.base + invocation.s.0 ≡ x
  pub guard : holds invocation.guard look ≡ true
  pub inputs : job.inputs ≡ narrowed_args (kinds_of before.definition.inputs) invocation.args look

-- task t after the releases at x: as it was, or with the job of an invocation that starts
abbrev pub KeptOrReleased : ℕ → ModuleState → Look → ℕ → TaskState → TaskState → Type 0
KeptOrReleased x m look t before after = (after ≡ before) ⊎ ReleasedAs x m look t before after
