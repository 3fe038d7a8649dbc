-- One module through the four phases of an instant, counted out: its job ends, and its guards hold where `s` is not 0.
use Rattle.std.proofs.Common.{◌≡◌, ℕ, ℤ, pos, List, [], ◌∷◌, Option, Some, None, true, codes, refl}
use Rattle.std.specs.Int.{int_wrap}
use Rattle.tdl_base.specs.declared.kinds.Kind.TheVariants.{Int}
use Rattle.tdl_base.specs.declared.numbers.Place.TheVariants.{Sensor, Cell}
use Rattle.tdl_base.specs.declared.arithmetic.BinOp.TheVariants.{Add}
use Rattle.tdl_body.specs.declared.tree.Expr.{Expr}
use Rattle.tdl_body.specs.declared.tree.Expr.TheVariants as expr
use Rattle.tdl_body.specs.declared.tree.Stmt.TheVariants as stmt
use Rattle.tdl_body.specs.Values.{Look}
use Rattle.tdl_body.proofs.Equations.{value_of-load, value_of-bin, effect_of-stmts, effect_of_stmt-assign}
use Rattle.tdl_mode.specs.declared.program.Module.{Module}
use Rattle.tdl_mode.specs.declared.program.Task.{Task}
use Rattle.tdl_mode.specs.declared.program.Mode.{Mode}
use Rattle.tdl_mode.specs.declared.program.Invocation.{Invocation}
use Rattle.tdl_mode.specs.declared.program.Update.{Update}
use Rattle.tdl_mode.specs.declared.program.Switch.{Switch}
use Rattle.tdl_mode.specs.declared.program.PortDef.{PortDef}
use Rattle.tdl_mode.specs.States.{Job, ModuleState, result_of}
use Rattle.tdl_mode.specs.Phases.{phase_one, phase_two, phase_three, phase_four}

-- ---- the module

-- a port of kind int that begins with 0
abbrev int_port : List ℕ → PortDef
int_port name = record { kind = Int; name = name; initial = pos 0 }

-- cell k and cell n together
abbrev sum_of : ℕ → ℕ → Expr
sum_of k n = expr.Bin Add (expr.Load (Cell k)) (expr.Load (Cell n))

-- a task with the input a, the output o and the local l: l := l + a; o := o + l;
abbrev inc : Task
inc = record {
  name = codes "inc";
  public = true;
  worst = record { 0 = 1 };
  inputs = int_port (codes "a") ∷ [];
  outputs = int_port (codes "o") ∷ [];
  locals = int_port (codes "l") ∷ [];
  body = record { stmts = stmt.Assign 2 (sum_of 2 0) ∷ stmt.Assign 1 (sum_of 1 2) ∷ [] };
}

-- the sensor s, as an expression
abbrev senses : Expr
senses = expr.Load (Sensor 0)

-- in the whole period inc(s), guarded by s
abbrev call_inc : Invocation
call_inc = record {
  act = 0;
  task = record { 0 = 0 };
  s = record { 0 = 0 };
  e = record { 0 = 10 };
  guard = Some senses;
  args = senses ∷ [];
}

-- at 10 us v := s, guarded by s
abbrev sets_actuator : Update
sets_actuator = record { act = 1; actuator = 0; at = record { 0 = 10 }; value = senses; guard = Some senses }

-- at 10 us to mode 1, guarded by s
abbrev to_other : Switch
to_other = record { act = 2; at = record { 0 = 10 }; target = record { 0 = 1 }; guard = Some senses }

-- a mode of 10 us with these
abbrev main : Mode
main = record {
  name = codes "main";
  period = record { 0 = 10 };
  invocations = call_inc ∷ [];
  updates = sets_actuator ∷ [];
  switches = to_other ∷ [];
}

-- the module; its second mode has an invocation over the same time
abbrev counter : Module
counter = record {
  name = codes "P";
  imports = [];
  constants = [];
  sensors = int_port (codes "s") ∷ [];
  actuators = int_port (codes "v") ∷ [];
  tasks = inc ∷ [];
  modes = main ∷ record main { name = codes "other"; updates = []; switches = [] } ∷ [];
  start = record { 0 = 0 };
}

-- the job of the invocation in a mode, with the input 5
abbrev job : ℕ → Job
job mode = record { mode = mode; invocation = 1; inputs = pos 5 ∷ [] }

-- the module in a mode, in the cycle that began at `base`
abbrev in_mode : (mode base : ℕ) (output actuator : ℤ) → Option Job → ModuleState
in_mode mode base output actuator active = record {
  definition = counter;
  mode = mode;
  base = base;
  tasks = record { definition = inc; outputs = output ∷ []; active = active } ∷ [];
  actuators = actuator ∷ [];
}

-- what the module reads where its sensor shows v
abbrev showing : ℤ → Look
showing v = record { cell = λ _. pos 0; sensor = λ _. v; port = λ _. pos 0 }

-- ---- the job's result

-- a local is 0 when the body begins: 7 and 5 are 12
result_of-inc : result_of inc (pos 5 ∷ []) (pos 7 ∷ []) ≡ pos 12 ∷ []
unfolding result_of int_wrap
result_of-inc = simp (effect_of-stmts, effect_of_stmt-assign, value_of-bin, value_of-load)

-- ---- termination

-- at the end of its invocation the job is done, and its result is the task's output
phase_one-end : phase_one 30 (in_mode 0 20 (pos 7) (pos 3) (Some (job 0))) ≡ in_mode 0 20 (pos 12) (pos 3) None
phase_one-end = rw result_of-inc refl

-- before it the job goes on
phase_one-before : phase_one 29 (in_mode 0 20 (pos 7) (pos 3) (Some (job 0))) ≡
    in_mode 0 20 (pos 7) (pos 3) (Some (job 0))
phase_one-before = refl

-- a job of another mode does not end there
phase_one-other : phase_one 30 (in_mode 0 20 (pos 7) (pos 3) (Some (job 1))) ≡
    in_mode 0 20 (pos 7) (pos 3) (Some (job 1))
phase_one-other = refl

-- ---- update

-- the actuator takes the number
phase_two-taken : phase_two 30 (showing (pos 4)) (in_mode 0 20 (pos 12) (pos 3) None) ≡
    in_mode 0 20 (pos 12) (pos 4) None
unfolding int_wrap
phase_two-taken = simp value_of-load

-- where the guard is 0 it keeps its own
phase_two-kept : phase_two 30 (showing (pos 0)) (in_mode 0 20 (pos 12) (pos 3) None) ≡
    in_mode 0 20 (pos 12) (pos 3) None
unfolding int_wrap
phase_two-kept = simp value_of-load

-- ---- mode switch

-- the other mode begins
phase_three-taken : phase_three 30 (showing (pos 4)) (in_mode 0 20 (pos 12) (pos 3) None) ≡
    in_mode 1 30 (pos 12) (pos 3) None
unfolding int_wrap
phase_three-taken = simp value_of-load

-- where the guard is 0 the next period of the same mode begins
phase_three-over : phase_three 30 (showing (pos 0)) (in_mode 0 20 (pos 12) (pos 3) None) ≡
    in_mode 0 30 (pos 12) (pos 3) None
unfolding int_wrap
phase_three-over = simp value_of-load

-- ---- release

-- a job of the mode begins, with the sensor's number as its input
phase_four-released : phase_four 30 (showing (pos 5)) (in_mode 1 30 (pos 12) (pos 3) None) ≡
    in_mode 1 30 (pos 12) (pos 3) (Some (job 1))
unfolding int_wrap
phase_four-released = simp value_of-load

-- where the guard is 0 there is none
phase_four-none : phase_four 30 (showing (pos 0)) (in_mode 1 30 (pos 12) (pos 3) None) ≡
    in_mode 1 30 (pos 12) (pos 3) None
unfolding int_wrap
phase_four-none = simp value_of-load
