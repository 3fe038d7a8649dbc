-- A module that adds what its sensor shows to its output, what its task does, and how its rows follow from its states.
use Rattle.std.proofs.Common.{◌≡◌, ℕ, suc, ℤ, pos, ◌+ℤ◌, int_lt, true, List, [], ◌∷◌, ◌++◌, take, drop, Option, codes, ap, ◌∙◌}
use Rattle.tdl_base.specs.declared.kinds.Kind.TheVariants.{Int}
use Rattle.tdl_base.specs.declared.numbers.Place.TheVariants.{Sensor, Cell}
use Rattle.tdl_base.specs.declared.arithmetic.BinOp.TheVariants.{Add, Greater}
use Rattle.tdl_base.specs.Numbers.{narrowed, wrapped, truth}
use Rattle.tdl_body.specs.declared.tree.Expr.{Expr}
use Rattle.tdl_body.specs.declared.tree.Expr.TheVariants as expr
use Rattle.tdl_body.specs.declared.tree.Stmt.TheVariants as stmt
use Rattle.tdl_body.specs.Values.{Look, value_of}
use Rattle.tdl_base.specs.Cells.{Cells, stored}
use Rattle.tdl_body.specs.Effects.{effect_of, look_of_cells}
use Rattle.tdl_body.proofs.Equations.{value_of-const, value_of-load, value_of-bin, effect_of-stmts, effect_of_stmt-assign}
use Rattle.tdl_mode.specs.declared.program.Program.{Program}
use Rattle.tdl_mode.specs.declared.program.Module.{Module}
use Rattle.tdl_mode.specs.declared.program.Task.{Task}
use Rattle.tdl_mode.specs.declared.program.Mode.{Mode}
use Rattle.tdl_mode.specs.declared.program.Invocation.{Invocation}
use Rattle.tdl_mode.specs.declared.program.Switch.{Switch}
use Rattle.tdl_mode.specs.declared.program.PortDef.{PortDef}
use Rattle.tdl_base.specs.Sensed.{Course}
use Rattle.tdl_mode.specs.States.{Job, ModuleState, State, result_of}
use Rattle.tdl_mode.specs.Instants.{logical, state_at}
use Rattle.tdl_trace.specs.Shown.{Shown}
use Rattle.tdl_deploy.specs.declared.placement.Placement.{Placement}
use Rattle.tdl_deploy.specs.Rows.{first_rows, node_rows, for_nodes, rows_at, logical_rows}

-- ---- the programs

-- a port of kind int
abbrev pub int_port : List ℕ → ℤ → PortDef
int_port name initial = record { kind = Int; name = name; initial = initial }

-- the output, cell 1, plus the input, cell 0
abbrev sum_cells : Expr
sum_cells = expr.Bin Add (expr.Load (Cell 1)) (expr.Load (Cell 0))

-- a task that adds its input to its output
abbrev pub inc : ℤ → Task
inc initial = record {
  name = codes "inc";
  public = true;
  worst = record { 0 = 1 };
  inputs = int_port (codes "a") (pos 0) ∷ [];
  outputs = int_port (codes "o") initial ∷ [];
  locals = [];
  body = record { stmts = stmt.Assign 1 sum_cells ∷ [] };
}

-- inc(s) over the whole period, with the sensor as its argument
abbrev call_inc : ℕ → Option Expr → Invocation
call_inc period guard = record {
  act = 0;
  task = record { 0 = 0 };
  s = record { 0 = 0 };
  e = record { 0 = period };
  guard = guard;
  args = expr.Load (Sensor 0) ∷ [];
}

-- a mode of the counter
abbrev pub counting : List ℕ → ℕ → Option Expr → List Switch → Mode
counting name period guard switches = record {
  name = name;
  period = record { 0 = period };
  invocations = call_inc period guard ∷ [];
  updates = [];
  switches = switches;
}

-- a module with a sensor s, whose task adds what is sensed to its output in each period
abbrev pub counter : ℤ → List Mode → Module
counter initial modes = record {
  name = codes "P";
  imports = [];
  constants = [];
  sensors = int_port (codes "s") (pos 0) ∷ [];
  actuators = [];
  tasks = inc initial ∷ [];
  modes = modes;
  start = record { 0 = 0 };
}

-- the counter in a mode whose cycle began at `base`
abbrev pub counter_state : ℤ → List Mode → ℕ → ℕ → ℤ → Option Job → ModuleState
counter_state initial modes mode base output active = record {
  definition = counter initial modes;
  mode = mode;
  base = base;
  tasks = record { definition = inc initial; outputs = output ∷ []; active = active } ∷ [];
  actuators = [];
}

-- the job of a mode's only invocation
abbrev pub job : ℕ → ℤ → Job
job mode input = record { mode = mode; invocation = 1; inputs = input ∷ [] }

-- all sensors show 1 at all instants
abbrev pub all_one : Course
all_one x m i = pos 1

-- ---- what the task does

-- the sum of the two cells
value_of-sum : (look : Look) → value_of sum_cells look ≡ wrapped (look.cell 1 +ℤ look.cell 0)
value_of-sum look =
    value_of-bin Add (expr.Load (Cell 1)) (expr.Load (Cell 0)) look
    ∙ ap (λ (v : ℤ). wrapped (v +ℤ value_of (expr.Load (Cell 0)) look)) (value_of-load (Cell 1) look)
    ∙ ap (λ (v : ℤ). wrapped (look.cell 1 +ℤ v)) (value_of-load (Cell 0) look)

-- the body sets cell 1 to that sum
done-inc : (cells : Cells) → effect_of (record { stmts = stmt.Assign 1 sum_cells ∷ [] }) cells ≡
    stored 1 (wrapped ((look_of_cells cells).cell 1 +ℤ (look_of_cells cells).cell 0)) cells
done-inc cells =
    effect_of-stmts (stmt.Assign 1 sum_cells ∷ []) cells
    ∙ effect_of_stmt-assign 1 sum_cells cells
    ∙ ap (λ (v : ℤ). stored 1 v cells) (value_of-sum (look_of_cells cells))

-- the outputs after a job
pub result_of-inc : (initial o a : ℤ) → result_of (inc initial) (a ∷ []) (o ∷ []) ≡ narrowed Int (wrapped (o +ℤ a)) ∷ []
unfolding result_of
result_of-inc initial o a =
    ap (λ (c : Cells). take 1 (drop 1 c.values)) (done-inc (record { kinds = Int ∷ Int ∷ []; values = a ∷ o ∷ [] }))

-- ---- a guard

-- s > 1
abbrev pub over_one : Expr
over_one = expr.Bin Greater (expr.Load (Sensor 0)) (expr.Const (pos 1))

-- the number of the guard
pub value_of-over_one : (look : Look) → value_of over_one look ≡ wrapped (truth (int_lt (pos 1) (look.sensor 0)))
value_of-over_one look =
    value_of-bin Greater (expr.Load (Sensor 0)) (expr.Const (pos 1)) look
    ∙ ap (λ (v : ℤ). wrapped (truth (int_lt v (value_of (expr.Load (Sensor 0)) look)))) (value_of-const (pos 1) look)
    ∙ ap (λ (v : ℤ). wrapped (truth (int_lt (pos 1) v))) (value_of-load (Sensor 0) look)

-- ---- states and rows, instant by instant

-- the state after the next instant
pub next_state : (program : Program) (course : Course) (x : ℕ) (s t : State) →
    state_at program course x ≡ s → logical (suc x) (course (suc x)) s ≡ t → state_at program course (suc x) ≡ t
unfolding state_at
next_state program course x s t e h = ap (logical (suc x) (course (suc x))) e ∙ h

-- the rows of instant 0
pub first_instant : (program : Program) (n : Placement) (course : Course) (s : State) (rows : List Shown) →
    state_at program course 0 ≡ s →
    for_nodes (first_rows n s) n ≡ rows → logical_rows program n course 0 ≡ rows
unfolding logical_rows rows_at
first_instant program n course s rows e h = ap (λ (t : State). for_nodes (first_rows n t) n) e ∙ h

-- the rows up to the next instant
pub next_instant : (program : Program) (n : Placement) (course : Course) (x : ℕ) (s : State) (rows more : List Shown) →
    logical_rows program n course x ≡ rows → state_at program course x ≡ s →
    for_nodes (node_rows program n (suc x) (course (suc x)) s) n ≡ more →
    logical_rows program n course (suc x) ≡ rows ++ more
unfolding logical_rows rows_at
next_instant program n course x s rows more r e h =
    ap (λ (l : List Shown). l ++ rows_at program n course (suc x)) r
    ∙ ap (λ (t : State). rows ++ for_nodes (node_rows program n (suc x) (course (suc x)) t) n) e
    ∙ ap (λ (l : List Shown). rows ++ l) h
