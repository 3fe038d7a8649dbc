-- How many rows an instant has.
use Rattle.std.proofs.Common.{◌≡◌, ℕ, zero, suc, ◌+◌, ◌*◌, ◌≤◌, List, [], ◌∷◌, ◌++◌, map, length, Bool, true, false, ◌==◌, Option, Some, None, arith}
use Rattle.std.specs.Prelude.{option_map, if◌then◌else◌}
use Rattle.std.specs.Option.{option_to_list}
use Rattle.std.proofs.lemmas.List.{length-append}
use Rattle.tdl_base.specs.Lists.{Zip}
use Rattle.tdl_base.specs.Sensed.{Sensed, Course}
use Rattle.tdl_body.specs.Values.{Look}
use Rattle.tdl_mode.specs.declared.program.Program.{Program}
use Rattle.tdl_mode.specs.declared.program.Module.{Module}
use Rattle.tdl_mode.specs.declared.program.Task.{Task}
use Rattle.tdl_mode.specs.States.{TaskState, ModuleState, State}
use Rattle.tdl_mode.specs.Phases.{has_ended, task_after, phase_one, update_value}
use Rattle.tdl_mode.specs.Instants.{look_in, logical, state_at}
use Rattle.tdl_trace.specs.Shown.{Shown}
use Rattle.tdl_deploy.specs.declared.placement.Placement.{Placement}
use Rattle.tdl_deploy.specs.Placed.{hosts, sees}
use Rattle.tdl_deploy.specs.Rows.{committed_outputs, task_port_rows, module_port_rows, port_rows, actuator_row, module_act_rows, act_rows, module_mode_rows, mode_rows_from, mode_rows, node_rows, first_rows, rows_at}
use Rattle.tdl_mode.proofs.StateLength.{length-numbered}
use Rattle.tdl_quiet.specs.Room.{total, shown_of, rows_bound}
use Rattle.tdl_quiet.proofs.Totals.{joined-each, joined-within, total-three, zip-length, zip-map}
use Rattle.tdl_quiet.proofs.Sizes.{TaskSized, Sized, task_after-sized, phase_one-sized, state_at-sized}

-- a part of a list is no longer than the list
if-within : {A : Type 0} (b : Bool) (xs : List A) (n : ℕ) → length xs ≤ n → length (if b then xs else []) ≤ n
if-within true xs n le = le
if-within false xs n le = omega arith

-- what a node sees of the outputs of all modules
port_rows-within : (program : Program) (placement : Placement) (node x : ℕ) (state : State) (ds : List Module) →
    Zip Sized state ds →
    length (port_rows program placement node x state) ≤ total (λ d. total (λ t. length t.outputs) d.tasks) ds
port_rows-within program placement node x state ds z =
    joined-within Sized (module_port_rows program placement node x) (λ d. total (λ t. length t.outputs) d.tasks)
    (λ k m d s. joined-within TaskSized (task_port_rows program placement node x k m) (λ t. length t.outputs)
    (λ i u t us. task_rows k i m u t us) 0 m.tasks d.tasks s.tasks) 0 state ds z
  where
    task_rows : (k i : ℕ) (m : ModuleState) (u : TaskState) (t : Task) → TaskSized u t →
        length (task_port_rows program placement node x k m i u) ≤ length t.outputs
    task_rows k i m u t us =
        let e = length-numbered (λ o v. Shown.Port x node k i o v) 0 (task_after m x u).outputs in
        let le = (task_after-sized m x u t us).outputs in
        if-within (has_ended m x u) _ (length t.outputs)
        (if-within (sees program placement node k u.definition) (committed_outputs x node k i (task_after m x u))
        (length t.outputs) (omega (arith, e, le)))

-- what it shows of the actuators
act_rows-within : (placement : Placement) (node x : ℕ) (sensed : Sensed) (state : State) (ds : List Module) →
    Zip Sized state ds → length (act_rows placement node x sensed state) ≤ total (λ d. length d.actuators) ds
act_rows-within placement node x sensed state ds z =
    joined-within Sized (λ k m. if hosts placement node k then rows_of k m else []) (λ d. length d.actuators)
    (λ k m d s. if-within (hosts placement node k) (rows_of k m) (length d.actuators) (each k m d s)) 0 state ds z
  where
    rows_of : ℕ → ModuleState → List Shown
    rows_of k m = module_act_rows x node k m (look_in state sensed k m)

    one : (o : Option Shown) → length (option_to_list o) ≤ 1
    one None = omega arith
    one (Some row) = omega arith

    each : (k : ℕ) (m : ModuleState) (d : Module) → Sized m d → length (rows_of k m) ≤ length d.actuators
    each k m d s =
        let look : Look = look_in state sensed k m in
        let all : length (module_act_rows x node k m look) ≤ length m.actuators * 1 =
        joined-each (actuator_row x node k m look) 1 0 m.actuators
        (λ a old. one (option_map (λ v. Shown.Act x node k a v) (update_value m x look a))) in
        let same = s.actuators in omega (arith, all, same)

-- what it shows of the modes
mode_rows-within : (placement : Placement) (node x k : ℕ) (olds news : State) →
    length (mode_rows_from placement node x k olds news) ≤ length olds
mode_rows-within placement node x k [] news = omega arith
mode_rows-within placement node x k (old ∷ olds) [] = omega arith
mode_rows-within placement node x k (old ∷ olds) (new ∷ news) =
    let first = if-within (hosts placement node k) (module_mode_rows x node k old new) 1 (one (old.mode == new.mode)) in
    let rest = mode_rows-within placement node x (suc k) olds news in
    let sum = length-append (if hosts placement node k then module_mode_rows x node k old new else [])
    (mode_rows_from placement node x (suc k) olds news) in
    omega (arith, first, rest, sum)
  where
    one : (b : Bool) → length (if b then [] else Shown.Mode x node k new.mode ∷ []) ≤ 1
    one true = omega arith
    one false = omega arith

-- ---- an instant

-- what a node shows of an instant above 0
node_rows-within : (program : Program) (placement : Placement) (x : ℕ) (sensed : Sensed) (state : State)
    (node : ℕ) → Zip Sized state program.modules →
    length (node_rows program placement x sensed state node) ≤ total shown_of program.modules
node_rows-within program placement x sensed state node z =
    let ds : List Module = program.modules in
    let ports : List Shown = port_rows program placement node x state in
    let acts : List Shown = act_rows placement node x sensed (map (phase_one x) state) in
    let modes : List Shown = mode_rows placement node x state (logical x sensed state) in
    let p = port_rows-within program placement node x state ds z in
    let a = act_rows-within placement node x sensed (map (phase_one x) state) ds
    (zip-map Sized (phase_one x) (phase_one-sized x) state ds z) in
    let m = mode_rows-within placement node x 0 state (logical x sensed state) in
    let n = zip-length Sized state ds z in
    let all = total-three (λ (d : Module). total (λ (t : Task). length t.outputs) d.tasks)
    (λ (d : Module). length d.actuators) ds in
    let front = length-append ports acts in
    let whole = length-append (ports ++ acts) modes in
    sum _ _ _ _ _ _ _ _ _ _ p a m n all front whole
  where
    sum : (p a m s o u n all both whole : ℕ) → p ≤ o → a ≤ u → m ≤ s → s ≡ n → all ≡ o + u + n →
        both ≡ p + a → whole ≡ both + m → whole ≤ all
    sum p a m s o u n all both whole h i j k l f b = omega (arith, h, i, j, k, l, f, b)

-- what it shows of instant 0
first_rows-within : (program : Program) (placement : Placement) (state : State) (node : ℕ) →
    Zip Sized state program.modules →
    length (first_rows placement state node) ≤ total shown_of program.modules
first_rows-within program placement state node z =
    joined-within Sized (λ m s. if hosts placement node m then Shown.Mode 0 node m s.mode ∷ [] else []) shown_of
    (λ k m d s. if-within (hosts placement node k) (Shown.Mode 0 node k m.mode ∷ []) (shown_of d) (omega arith))
    0 state program.modules z

-- no instant of a run has more rows than the bound
pub rows_at-within : (program : Program) (placement : Placement) (course : Course) (x : ℕ) →
    length (rows_at program placement course x) ≤ rows_bound program placement
unfolding rows_at
rows_at-within program placement course zero =
    joined-each (λ node n. first_rows placement (state_at program course 0) node) (total shown_of program.modules) 0
    placement.nodes
    (λ node n. first_rows-within program placement (state_at program course 0) node (state_at-sized program course 0))
rows_at-within program placement course (suc x) =
    joined-each
    (λ node n. node_rows program placement (suc x) (course (suc x)) (state_at program course x) node)
    (total shown_of program.modules) 0 placement.nodes
    (λ node n. node_rows-within program placement (suc x) (course (suc x)) (state_at program course x) node
    (state_at-sized program course x))
