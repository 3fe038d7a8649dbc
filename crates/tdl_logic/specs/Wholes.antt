-- All modules of a program between instants, from what stands for them.
use Rattle.std.specs.Prelude.{◌≡◌, ◌≤◌, ◌^◌, ℕ, List, [], ◌∷◌, length, Some, slice_get}
use Rattle.tdl_mode.specs.declared.program.Module.{Module}
use Rattle.tdl_mode.specs.States.{TaskState, ModuleState, State, initials_of}
use Rattle.tdl_logic.specs.declared.module_now.ModuleNow.{ModuleNow}
use Rattle.tdl_logic.specs.Releases.{HasArgumentsOf}

-- a module in its start mode, with its initial actuators
abbrev pub entered_now : Module → ModuleNow
entered_now m =
    record { cycle = record { mode = m.start; base = record { 0 = 0 } }; actuators = initials_of m.actuators }

-- a module with its cycle, its actuators and its tasks
abbrev pub standing : Module → ModuleNow → List TaskState → ModuleState
standing m now tasks = record {
  definition = m;
  mode = now.cycle.mode.0;
  base = now.cycle.base.0;
  tasks = tasks;
  actuators = now.actuators;
}

-- all modules, as far as each has a cycle and tasks
abbrev pub all_standing : List Module → List ModuleNow → List (List TaskState) → State
all_standing [] nows all = []
all_standing (m ∷ ms) [] all = []
all_standing (m ∷ ms) (now ∷ nows) [] = []
all_standing (m ∷ ms) (now ∷ nows) (tasks ∷ all) = standing m now tasks ∷ all_standing ms nows all

-- each module has a cycle and tasks
pub record IsWhole (modules : List Module) (nows : List ModuleNow) (all : List (List TaskState)) : Type 0 where
  pub cycles : length nows ≡ length modules
  pub tasks : length all ≡ length modules
  pub few : length modules ≤ 2 ^ 16

-- each invocation of a module's present mode has the arguments of its task, and no more than n
abbrev pub AllHaveArguments : List Module → List ModuleNow → List (List TaskState) → ℕ → Type 0
AllHaveArguments ms nows all n = (k : ℕ) (m : Module) (now : ModuleNow) → slice_get ms k ≡ Some m →
    slice_get nows k ≡ Some now → HasArgumentsOf (standing m now []) k n all
