-- What is known of the programs and windows that tests make.
use Rattle.std.specs.Prelude.{◌≡◌, ◌≤◌, [], ◌∷◌, Some, slice_get}
use Rattle.tdl_mode.specs.declared.program.Program.{Program}
use Rattle.tdl_mode.specs.declared.program.Module.{Module}
use Rattle.tdl_mode.specs.declared.program.Mode.{Mode}
use Rattle.tdl_mode.specs.declared.program.Task.{Task}
use Rattle.tdl_mode.specs.declared.program.Invocation.{Invocation}
use Rattle.tdl_mode.specs.States.{invocation_of}
use Rattle.tdl_deploy.specs.declared.schedule.Window.{Window}
use Rattle.tdl_deploy.specs.Passes.{Invoked}
use Rattle.tdl_window.specs.Granted.{IsSmall, AreSmall}

-- a mode invokes the first task of its module, and nothing else
pub record InvokesFirst (mode : Mode) : Type 0 where
  pub invocation : Invocation
  pub alone : mode.invocations ≡ invocation ∷ []
  pub task : invocation.task.0 ≡ 0

-- a module has an invocation with its task in its first mode
pub record HasCall (m : Module) : Type 0 where
  pub mode : Mode
  pub invocation : Invocation
  pub task : Task
  pub mode_at : slice_get m.modes 0 ≡ Some mode
  pub invocation_at : invocation_of mode.invocations 1 ≡ Some invocation
  pub task_at : slice_get m.tasks invocation.task.0 ≡ Some task
  pub small : IsSmall m

-- the first two modules of a program have one each
pub record HasTwo (program : Program) : Type 0 where
  pub first : Invoked program 0 0 1
  pub second : Invoked program 1 0 1
  pub small : AreSmall program

-- a window is of one of these
pub record IsOfTwo (w : Window) : Type 0 where
  pub owner : w.«module».0 ≤ 1
  pub mode : w.mode.0 ≡ 0
  pub number : w.invocation ≡ 1
