-- The rows of two modules, on one node and on two: the one updates an actuator from an output of the other.
use Rattle.std.proofs.Common.{◌≡◌, ℕ, ℤ, pos, List, [], ◌∷◌, ◌++◌, Some, None, codes, refl}
use Rattle.std.specs.Int.{int_wrap}
use Rattle.tdl_base.specs.declared.numbers.Place.TheVariants.{Port}
use Rattle.tdl_base.specs.declared.numbers.PortKey.{PortKey}
use Rattle.tdl_body.specs.declared.tree.Expr.TheVariants as expr
use Rattle.tdl_body.proofs.Equations.{value_of-load}
use Rattle.tdl_mode.specs.declared.program.Program.{Program}
use Rattle.tdl_mode.specs.declared.program.Module.{Module}
use Rattle.tdl_mode.specs.declared.program.Mode.{Mode}
use Rattle.tdl_mode.specs.declared.program.Update.{Update}
use Rattle.tdl_mode.specs.States.{State}
use Rattle.tdl_mode.specs.Instants.{logical, begun, state_at}
use Rattle.tdl_trace.specs.Shown.{Shown}
use Rattle.tdl_deploy.specs.declared.placement.Placement.{Placement}
use Rattle.tdl_deploy.specs.Named.{one_node}
use Rattle.tdl_deploy.specs.Rows.{first_rows, node_rows, for_nodes, logical_rows}
use Rattle.tdl_deploy.proofs.ExampleCounter.{int_port, counter, counter_state, job, all_one, result_of-inc, next_state, first_instant, next_instant}
use Rattle.tdl_deploy.proofs.ExampleCounterRows.{plain_modes}

-- ---- two modules: C updates its actuator v from the output of P

-- P.inc.o
abbrev pub counted : PortKey
counted = record { «module» = record { 0 = 0 }; task = record { 0 = 0 }; output = 0 }

-- v := P.inc.o at 2 us
abbrev pub take_over : Update
take_over = record { act = 0; actuator = 0; at = record { 0 = 2 }; value = expr.Load (Port counted); guard = None }

-- the mode of C, with a period of 2 us
abbrev pub reading : Mode
reading =
    record { name = codes "main"; period = record { 0 = 2 }; invocations = []; updates = take_over ∷ []; switches = [] }

-- C, which imports P
abbrev pub reader : Module
reader = record {
  name = codes "C";
  imports = record { 0 = 0 } ∷ [];
  constants = [];
  sensors = [];
  actuators = int_port (codes "v") (pos 0) ∷ [];
  tasks = [];
  modes = reading ∷ [];
  start = record { 0 = 0 };
}

-- P and C
abbrev pub pair : Program
pair = record { modules = counter (pos 10) plain_modes ∷ reader ∷ [] }

-- their state where both cycles began at `base`; the sensor shows 1
abbrev pair_at : ℕ → ℤ → ℤ → State
pair_at base output actuator =
    counter_state (pos 10) plain_modes 0 base output (Some (job 0 (pos 1)))
    ∷ record { definition = reader; mode = 0; base = base; tasks = []; actuators = actuator ∷ [] }
    ∷ []

-- instant 0: the task of P is invoked
pair_at-0 : state_at pair all_one 0 ≡ pair_at 0 (pos 10) (pos 0)
unfolding state_at begun int_wrap
pair_at-0 = rw value_of-load refl

-- within the first period nothing happens
pair_rests-1 : logical 1 (all_one 1) (pair_at 0 (pos 10) (pos 0)) ≡ pair_at 0 (pos 10) (pos 0)
unfolding logical
pair_rests-1 = refl

-- the update reads the output that was committed at the same instant
pair_turns-2 : logical 2 (all_one 2) (pair_at 0 (pos 10) (pos 0)) ≡ pair_at 2 (pos 11) (pos 11)
unfolding logical int_wrap
pair_turns-2 = simp (result_of-inc, value_of-load)

-- the state after instant 1
pair_at-1 : state_at pair all_one 1 ≡ pair_at 0 (pos 10) (pos 0)
pair_at-1 = next_state pair all_one 0 _ _ pair_at-0 pair_rests-1

-- the rows that both nodes together show up to 2 us, wherever the modules are placed
pair_rows-2 : (n : Placement) (first turned : List Shown) →
    for_nodes (first_rows n (pair_at 0 (pos 10) (pos 0))) n ≡ first →
    for_nodes (node_rows pair n 1 (all_one 1) (pair_at 0 (pos 10) (pos 0))) n ≡ [] →
    for_nodes (node_rows pair n 2 (all_one 2) (pair_at 0 (pos 10) (pos 0))) n ≡ turned →
    logical_rows pair n all_one 2 ≡ first ++ [] ++ turned
pair_rows-2 n first turned e g h =
    next_instant pair n all_one 1 _ _ turned
    (next_instant pair n all_one 0 _ _ [] (first_instant pair n all_one _ first pair_at-0 e) pair_at-0 g)
    pair_at-1 h

-- on one node the output that both see has one row, and the update follows it
reads_on_one_node : logical_rows pair (one_node pair) all_one 2 ≡
    Shown.Mode 0 0 0 0 ∷ Shown.Mode 0 0 1 0
    ∷ Shown.Port 2 0 0 0 0 (pos 11) ∷ Shown.Act 2 0 1 0 (pos 11) ∷ []
unfolding int_wrap
reads_on_one_node =
    pair_rows-2 (one_node pair) _ _ refl (rw pair_rests-1 refl)
    (rw (pair_turns-2, result_of-inc, value_of-load, result_of-inc) refl)

-- P on n1 and C on n2
abbrev pub two_nodes : Placement
two_nodes = record {
  nodes =
      record { name = codes "n1"; modules = record { 0 = 0 } ∷ [] }
      ∷ record { name = codes "n2"; modules = record { 0 = 1 } ∷ [] }
      ∷ [];
  bus = None;
}

-- on two nodes the node of C shows the output too
reads_on_two_nodes : logical_rows pair two_nodes all_one 2 ≡
    Shown.Mode 0 0 0 0 ∷ Shown.Mode 0 1 1 0
    ∷ Shown.Port 2 0 0 0 0 (pos 11) ∷ Shown.Port 2 1 0 0 0 (pos 11) ∷ Shown.Act 2 1 1 0 (pos 11) ∷ []
unfolding int_wrap
reads_on_two_nodes =
    pair_rows-2 two_nodes _ _ refl (rw pair_rests-1 refl)
    (rw (pair_turns-2, result_of-inc, value_of-load, result_of-inc) refl)
