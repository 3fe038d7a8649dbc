-- What a node sees of the tasks and modes of another, which tasks are remote, and what their frames take, counted out.
use Rattle.std.proofs.Common.{◌≡◌, ℕ, pos, true, false, List, [], ◌∷◌, Some, None, codes, refl}
use Rattle.tdl_mode.specs.declared.program.Task.{Task}
use Rattle.tdl_mode.specs.declared.program.Mode.{Mode}
use Rattle.tdl_mode.specs.States.{State}
use Rattle.tdl_trace.specs.Shown.{Shown}
use Rattle.tdl_deploy.specs.declared.placement.Placement.{Placement}
use Rattle.tdl_deploy.specs.Named.{one_node}
use Rattle.tdl_deploy.specs.Placed.{sees, is_remote, duration_of}
use Rattle.tdl_deploy.specs.Rows.{mode_rows}
use Rattle.tdl_deploy.proofs.ExampleCounter.{inc, counting, counter_state}
use Rattle.tdl_deploy.proofs.ExampleModuleRows.{reader, pair, two_nodes}

-- ---- P on n1; C, which imports P, on n2

-- a public task of P
abbrev shared : Task
shared = inc (pos 10)

-- the same task, not public
abbrev hidden : Task
hidden = record (inc (pos 10)) { public = false }

-- the two nodes on a bus on which a frame takes 3 us, and 2 us more for each byte
abbrev on_bus : Placement
on_bus = record two_nodes { bus = Some (record { overhead = 3; per_byte = 2 }) }

-- ---- what a node sees

-- its own tasks, public or not
sees-own : sees pair two_nodes 0 0 hidden ≡ true
sees-own = refl

-- a public task of a module that its own module imports
sees-imported : sees pair two_nodes 1 0 shared ≡ true
sees-imported = refl

-- and no other task of that module
sees-hidden : sees pair two_nodes 1 0 hidden ≡ false
sees-hidden = refl

-- nor a task of a module that its own does not import
sees-importer : sees pair two_nodes 0 1 shared ≡ false
sees-importer = refl

-- ---- which tasks are remote

-- a public task whose module is imported on another node
is_remote-imported : is_remote pair two_nodes 0 shared ≡ true
is_remote-imported = refl

-- a task that is not public is not remote
is_remote-hidden : is_remote pair two_nodes 0 hidden ≡ false
is_remote-hidden = refl

-- nor one that is imported on its own node alone
is_remote-one_node : is_remote pair (one_node pair) 0 shared ≡ false
is_remote-one_node = refl

-- nor one of a module that no other imports
is_remote-importer : is_remote pair two_nodes 1 shared ≡ false
is_remote-importer = refl

-- ---- what a frame takes

-- 7 bytes and 4 for an `int`, at 2 us each, and 3 us
duration_of-int : duration_of on_bus shared ≡ 25
duration_of-int = refl

-- ---- where a mode is shown

-- two modes of P
abbrev modes : List Mode
modes = counting (codes "main") 2 None [] ∷ counting (codes "fast") 1 None [] ∷ []

-- P in a mode, and C
abbrev pair_in : ℕ → State
pair_in mode =
    counter_state (pos 10) modes mode 0 (pos 11) None
    ∷ record { definition = reader; mode = 0; base = 0; tasks = []; actuators = pos 0 ∷ [] }
    ∷ []

-- the node of P shows that P has entered another mode
mode_rows-own : mode_rows two_nodes 0 2 (pair_in 0) (pair_in 1) ≡ Shown.Mode 2 0 0 1 ∷ []
mode_rows-own = refl

-- the other node does not
mode_rows-other : mode_rows two_nodes 1 2 (pair_in 0) (pair_in 1) ≡ []
mode_rows-other = refl
