-- What the rows of a run show.
use Rattle.std.specs.Prelude.{ℕ, ℤ, List}
use Rattle.tdl_trace.specs.declared.row.Row.{Row}
use Rattle.tdl_trace.specs.declared.why.Why.{Why}
use Rattle.tdl_trace.specs.declared.row.Row.TheVariants as row

-- what one row shows, each at an instant in microseconds and on a node
pub data Shown : Type 0 where
  -- an output that was committed
  Port : (at node owner task output : ℕ) (value : ℤ) → Shown
  -- an actuator that was updated
  Act : (at node owner actuator : ℕ) (value : ℤ) → Shown
  -- a mode that was entered
  Mode : (at node owner mode : ℕ) → Shown
  -- a sensor that was sensed
  Sense : (at node owner sensor : ℕ) (value : ℤ) → Shown
  -- the run ends here
  Trap : (at node : ℕ) (why : Why) → Shown
  -- an instruction of a block that was run: its opcode and its operands
  Step : (at node owner block index op a b : ℕ) → Shown
  -- a frame that was sent, with its bytes
  Send : (at node owner mode invocation : ℕ) (frame : List ℕ) → Shown
  -- a job of a task ran in one window from an instant up to this one
  Ran : (at node owner task from : ℕ) → Shown

-- what a row of the program shows
abbrev pub shown_of : Row → Shown
shown_of (row.Port at node owner task output value) = Shown.Port at.0 node.0 owner.0 task.0 output value
shown_of (row.Act at node owner actuator value) = Shown.Act at.0 node.0 owner.0 actuator value
shown_of (row.Mode at node owner mode) = Shown.Mode at.0 node.0 owner.0 mode.0
