-- The rows that each node shows of the one logical execution.
use Rattle.std.specs.Prelude.{ℕ, zero, suc, ℤ, ◌==◌, List, [], ◌∷◌, ◌++◌, map, option_map, if◌then◌else◌}
use Rattle.std.specs.Option.{option_to_list}
use Rattle.tdl_base.specs.Lists.{joined, numbered}
use Rattle.tdl_body.specs.Values.{Look}
use Rattle.tdl_mode.specs.declared.program.Program.{Program}
use Rattle.tdl_base.specs.Sensed.{Sensed, Course}
use Rattle.tdl_mode.specs.States.{TaskState, ModuleState, State}
use Rattle.tdl_mode.specs.Phases.{has_ended, task_after, phase_one, update_value}
use Rattle.tdl_mode.specs.Instants.{look_in, logical, state_at}
use Rattle.tdl_trace.specs.Shown.{Shown}
use Rattle.tdl_deploy.specs.declared.placement.Placement.{Placement}
use Rattle.tdl_deploy.specs.Placed.{hosts, sees}

-- ---- phase 1: outputs of tasks that ended

-- a row for each output of task t of module m
abbrev pub committed_outputs : ℕ → ℕ → ℕ → ℕ → TaskState → List Shown
committed_outputs x node m t u = numbered 0 (λ o v. Shown.Port x node m t o v) u.outputs

-- the rows of task t of module m, where it ended at x and the node sees it
abbrev pub task_port_rows : Program → Placement → ℕ → ℕ → ℕ → ModuleState → ℕ → TaskState → List Shown
task_port_rows program placement node x m s t u =
    if has_ended s x u then (if sees program placement node m u.definition
    then committed_outputs x node m t (task_after s x u) else []) else []

-- the rows of all tasks of module m, by task and output
abbrev pub module_port_rows : Program → Placement → ℕ → ℕ → ℕ → ModuleState → List Shown
module_port_rows program placement node x m s =
    joined (numbered 0 (task_port_rows program placement node x m s) s.tasks)

-- the rows of all modules, by module, task and output
abbrev pub port_rows : Program → Placement → ℕ → ℕ → State → List Shown
port_rows program placement node x state = joined (numbered 0 (module_port_rows program placement node x) state)

-- ---- phase 2: actuators that were updated

-- the row of actuator a of module m, where it was updated at x
abbrev pub actuator_row : ℕ → ℕ → ℕ → ModuleState → Look → ℕ → ℤ → List Shown
actuator_row x node m s look a old = option_to_list (option_map (λ v. Shown.Act x node m a v) (update_value s x look a))

-- the rows of all actuators of module m, by actuator
abbrev pub module_act_rows : ℕ → ℕ → ℕ → ModuleState → Look → List Shown
module_act_rows x node m s look = joined (numbered 0 (actuator_row x node m s look) s.actuators)

-- the rows of all modules of the node, by module and actuator; `state` is that after phase 1
abbrev pub act_rows : Placement → ℕ → ℕ → Sensed → State → List Shown
act_rows placement node x sensed state =
    joined (numbered 0 of_module state)
  where
    of_module : ℕ → ModuleState → List Shown
    of_module m s = if hosts placement node m then module_act_rows x node m s (look_in state sensed m s) else []

-- ---- phase 3: modes that changed

-- the row of module m, where its mode changed
abbrev pub module_mode_rows : ℕ → ℕ → ℕ → ModuleState → ModuleState → List Shown
module_mode_rows x node m old new = if old.mode == new.mode then [] else Shown.Mode x node m new.mode ∷ []

-- the rows of the modules of the node from number m on, in order
abbrev pub mode_rows_from : Placement → ℕ → ℕ → ℕ → State → State → List Shown
mode_rows_from placement node x m (old ∷ olds) (new ∷ news) =
    (if hosts placement node m then module_mode_rows x node m old new else [])
    ++ mode_rows_from placement node x (suc m) olds news
mode_rows_from placement node x m olds news = []

-- the rows of all modules of the node, by module
abbrev pub mode_rows : Placement → ℕ → ℕ → State → State → List Shown
mode_rows placement node x before after = mode_rows_from placement node x 0 before after

-- ---- the rows of an instant, and of a run

-- what a node sees of instant x, above 0, from the state before it
abbrev pub node_rows : Program → Placement → ℕ → Sensed → State → ℕ → List Shown
node_rows program placement x sensed state node =
    port_rows program placement node x state
    ++ act_rows placement node x sensed (map (phase_one x) state)
    ++ mode_rows placement node x state (logical x sensed state)

-- at instant 0 a node shows the mode of each of its modules
abbrev pub first_rows : Placement → State → ℕ → List Shown
first_rows placement state node =
    joined (numbered 0 (λ m s. if hosts placement node m then Shown.Mode 0 node m s.mode ∷ [] else []) state)

-- the rows of one instant, node after node
abbrev pub for_nodes : (ℕ → List Shown) → Placement → List Shown
for_nodes rows placement = joined (numbered 0 (λ node n. rows node) placement.nodes)

-- the rows of instant x
unfoldable pub rows_at : Program → Placement → Course → ℕ → List Shown
rows_at program placement course zero = for_nodes (first_rows placement (state_at program course 0)) placement
rows_at program placement course (suc x) =
    for_nodes (node_rows program placement (suc x) (course (suc x)) (state_at program course x)) placement

-- the rows of all instants up to x and with it: there is one logical execution, and each node shows what it sees of it
unfoldable pub logical_rows : Program → Placement → Course → ℕ → List Shown
logical_rows program placement course zero = rows_at program placement course 0
logical_rows program placement course (suc x) =
    logical_rows program placement course x ++ rows_at program placement course (suc x)
