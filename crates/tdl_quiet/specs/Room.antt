-- How many rows an instant can have.
use Rattle.std.specs.Prelude.{ℕ, ◌+◌, ◌*◌, List, [], ◌∷◌, length}
use Rattle.tdl_mode.specs.declared.program.Program.{Program}
use Rattle.tdl_mode.specs.declared.program.Module.{Module}
use Rattle.tdl_deploy.specs.declared.placement.Placement.{Placement}

-- the sizes of all items together
abbrev pub total : {A : Type 0} → (A → ℕ) → List A → ℕ
total size [] = 0
total size (x ∷ xs) = size x + total size xs

-- what a module can show at one instant: each output and each actuator once, and its mode
abbrev pub shown_of : Module → ℕ
shown_of m = total (λ t. length t.outputs) m.tasks + length m.actuators + 1

-- no instant has more rows: no node shows more than what all modules can show
abbrev pub rows_bound : Program → Placement → ℕ
rows_bound program placement = length placement.nodes * total shown_of program.modules
