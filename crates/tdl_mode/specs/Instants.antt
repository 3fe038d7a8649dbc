-- The instants of a run: all modules at one instant, one module alone, and the states from instant to instant.
use Rattle.std.specs.Prelude.{ℕ, zero, suc, ℤ, map, None}
use Rattle.tdl_base.specs.Lists.{numbered}
use Rattle.tdl_base.specs.declared.numbers.PortKey.{PortKey}
use Rattle.tdl_body.specs.Values.{Look}
use Rattle.tdl_mode.specs.declared.program.Program.{Program}
use Rattle.tdl_mode.specs.declared.program.Module.{Module}
use Rattle.tdl_mode.specs.declared.program.Task.{Task}
use Rattle.tdl_base.specs.Sensed.{Sensed, Course}
use Rattle.tdl_mode.specs.States.{TaskState, ModuleState, State, initials_of, outputs_in, look_of}
use Rattle.tdl_mode.specs.Phases.{phase_one, phase_two, phase_three, phase_four}

-- what each module may read in a state
abbrev pub look_in : State → Sensed → ℕ → ModuleState → Look
look_in state sensed k m = look_of k m.tasks sensed (outputs_in state)

-- one phase of all modules, each over what it may read in the state before the phase
abbrev pub for_all : (Look → ModuleState → ModuleState) → Sensed → State → State
for_all phase sensed state = numbered 0 (λ k m. phase (look_in state sensed k m) m) state

-- an instant above 0: the four phases, each of all modules before the next begins
unfoldable pub logical : ℕ → Sensed → State → State
logical x sensed state =
    for_all (phase_four x) sensed
    (for_all (phase_three x) sensed
    (for_all (phase_two x) sensed (map (phase_one x) state)))

-- the four phases of module k alone, where `seen` gives the outputs of the modules that it imports
unfoldable pub alone : ℕ → ℕ → Sensed → (PortKey → ℤ) → ModuleState → ModuleState
alone k x sensed seen m = phase_four x look (phase_three x look (phase_two x look (phase_one x m)))
  where
    look : Look
    look = look_of k (phase_one x m).tasks sensed seen

-- a task before its first job
abbrev pub begun_task : Task → TaskState
begun_task t = record { definition = t; outputs = initials_of t.outputs; active = None }

-- a module in its start mode, with its initial outputs and actuators
abbrev pub entered : Module → ModuleState
entered m = record {
  definition = m;
  mode = m.start.0;
  base = 0;
  tasks = map begun_task m.tasks;
  actuators = initials_of m.actuators;
}

-- instant 0: every module enters its start mode, and releases follow
unfoldable pub begun : Program → Sensed → State
begun program sensed = for_all (phase_four 0) sensed (map entered program.modules)

-- the state after instant x
unfoldable pub state_at : Program → Course → ℕ → State
state_at program course zero = begun program (course 0)
state_at program course (suc x) = logical (suc x) (course (suc x)) (state_at program course x)
