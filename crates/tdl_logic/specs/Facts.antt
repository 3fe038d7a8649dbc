-- What stands between instants fits the program.
use Rattle.std.specs.Prelude.{◌≡◌, ℕ, List, map, Option, None}
use Rattle.std.specs.List.{All}
use Rattle.tdl_mode.specs.declared.program.Program.{Program}
use Rattle.tdl_mode.specs.States.{TaskState}
use Rattle.tdl_mode.specs.Instants.{entered}
use Rattle.tdl_mode.specs.WellFormed.{WellFormed}
use Rattle.tdl_logic.specs.declared.module_now.ModuleNow.{ModuleNow}
use Rattle.tdl_logic.specs.Releases.{definitions_of}
use Rattle.tdl_logic.specs.Rooms.{HasInputsOf}
use Rattle.tdl_logic.specs.Wholes.{all_standing, IsWhole}

-- each module of a well-formed program has a cycle and its own tasks, whose inputs are at most n; before the first
-- instant all modules are entered
pub record IsReady (program : Program) (nows : List ModuleNow) (all : List (List TaskState)) (n : ℕ)
    (reached : Option ℕ) : Type 0 where
  pub well : WellFormed program
  pub whole : IsWhole program.modules nows all
  pub own : definitions_of all ≡ map (λ m. m.tasks) program.modules
  pub room : All (HasInputsOf n) program.modules
  pub first : reached ≡ None → all_standing program.modules nows all ≡ map entered program.modules
