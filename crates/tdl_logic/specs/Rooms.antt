-- Room for the inputs of each task.
use Rattle.std.specs.Prelude.{◌≤◌, ℕ, length}
use Rattle.std.specs.List.{All}
use Rattle.tdl_mode.specs.declared.program.Module.{Module}
use Rattle.tdl_mode.specs.declared.program.Task.{Task}

-- a task has at most n inputs
abbrev pub HasInputs : ℕ → Task → Type 0
HasInputs n task = length task.inputs ≤ n

-- so has each task of a module
abbrev pub HasInputsOf : ℕ → Module → Type 0
HasInputsOf n m = All (HasInputs n) m.tasks
