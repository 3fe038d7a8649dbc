-- What bodies read and set, and that bodies and expressions are bounded.
use Rattle.std.specs.Prelude.{◌≡◌, ℕ, ◌+◌, ◌≤◌, All, IfSome, Some, length, slice_get}
use Rattle.tdl_body.specs.Bounds.{IsBounded, IsBoundedExpr, targets_of}
use Rattle.tdl_body.specs.CellUse.{UsesCells}
use Rattle.tdl_mode.specs.declared.program.Program.{Program}
use Rattle.tdl_mode.specs.declared.program.Module.{Module}
use Rattle.tdl_mode.specs.declared.program.Task.{Task}
use Rattle.tdl_mode.specs.declared.program.Mode.{Mode}
use Rattle.tdl_mode.specs.declared.program.Invocation.{Invocation}
use Rattle.tdl_mode.specs.declared.program.Update.{Update}
use Rattle.tdl_mode.specs.declared.program.Switch.{Switch}

-- the body of a task reads and sets its own cells alone, sets no input, and is bounded
pub record TaskBody (task : Task) : Type 0 where
  pub cells : UsesCells (length task.inputs + length task.outputs + length task.locals) task.body
  pub targets : All (λ cell. length task.inputs ≤ cell) (targets_of task.body)
  pub bounds : IsBounded task.body

-- what a mode evaluates is bounded
pub record ModeBounds (mode : Mode) : Type 0 where
  pub invocations : (q : ℕ) (i : Invocation) → slice_get mode.invocations q ≡ Some i →
      IfSome i.guard IsBoundedExpr × All IsBoundedExpr i.args
  pub updates : (q : ℕ) (u : Update) → slice_get mode.updates q ≡ Some u →
      IfSome u.guard IsBoundedExpr × IsBoundedExpr u.value
  pub switches : (q : ℕ) (w : Switch) → slice_get mode.switches q ≡ Some w → IfSome w.guard IsBoundedExpr

-- each task and each mode of a module
pub record ModuleBodies (m : Module) : Type 0 where
  pub tasks : (n : ℕ) (task : Task) → slice_get m.tasks n ≡ Some task → TaskBody task
  pub modes : (n : ℕ) (mode : Mode) → slice_get m.modes n ≡ Some mode → ModeBounds mode

-- each module of a program
pub record KeepsBodies (program : Program) : Type 0 where
  pub modules : (k : ℕ) (m : Module) → slice_get program.modules k ≡ Some m → ModuleBodies m
