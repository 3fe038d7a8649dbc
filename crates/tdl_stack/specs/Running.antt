-- What stack code does.
use Rattle.std.specs.Prelude.{ℕ, zero, suc, List, [], ◌∷◌, length, take, drop, ℤ, pos, if◌then◌else◌, slice_index_or}
use Rattle.tdl_base.specs.declared.numbers.PortKey.{PortKey}
use Rattle.tdl_base.specs.declared.numbers.Place.{Place}
use Rattle.tdl_base.specs.declared.numbers.Place.TheVariants.{Sensor, Port, Cell}
use Rattle.tdl_base.specs.Numbers.{is_true, unary, binary}
use Rattle.tdl_base.specs.Cells.{Cells, stored, repeated}
use Rattle.tdl_stack.specs.declared.instr.Instr.{Instr}
use Rattle.tdl_stack.specs.declared.instr.Instr.TheVariants.{Const, Load, Store, Un, Bin, Jz, Jmp, Rep}

-- what a code may read beside its cells: the sensors of its module, and outputs
pub record Outer : Type 0 where
  pub sensor : ℕ → ℤ
  pub port : PortKey → ℤ

-- where a code stands: the numbers on the stack, the newest first, and the cells
pub record StackState : Type 0 where
  pub stack : List ℤ
  pub cells : Cells

-- the newest number; 0 where there is none
abbrev pub newest : List ℤ → ℤ
newest [] = pos 0
newest (v ∷ older) = v

-- the number that a pop gives
abbrev pub top : StackState → ℤ
top s = newest s.stack

-- what a pop leaves
abbrev pub popped : StackState → StackState
popped s = record s { stack = drop 1 s.stack }

-- what a push makes
abbrev pub pushed : ℤ → StackState → StackState
pushed v s = record s { stack = v ∷ s.stack }

-- the number at a place; 0 where there is no such cell
abbrev pub loaded : Outer → Place → Cells → ℤ
loaded outer (Sensor k) cells = outer.sensor k
loaded outer (Port key) cells = outer.port key
loaded outer (Cell k) cells = slice_index_or cells.values k (pos 0)

-- what the next `left` instructions do, but for the first `skip` of them
abbrev pub exec : Outer → List Instr → (left skip : ℕ) → StackState → StackState
exec outer code zero skip s = s
exec outer [] (suc left) skip s = s
exec outer (i ∷ code) (suc left) (suc skip) s = exec outer code left skip s
exec outer (Const v ∷ code) (suc left) zero s = exec outer code left 0 (pushed v s)
exec outer (Load place ∷ code) (suc left) zero s = exec outer code left 0 (pushed (loaded outer place s.cells) s)
exec outer (Store k ∷ code) (suc left) zero s =
    exec outer code left 0 (record (popped s) { cells = stored k (top s) s.cells })
exec outer (Un op ∷ code) (suc left) zero s = exec outer code left 0 (pushed (unary op (top s)) (popped s))
exec outer (Bin op ∷ code) (suc left) zero s =
    exec outer code left 0 (pushed (binary op (top (popped s)) (top s)) (popped (popped s)))
exec outer (Jz n ∷ code) (suc left) zero s = exec outer code left (if is_true (top s) then 0 else n) (popped s)
exec outer (Jmp n ∷ code) (suc left) zero s = exec outer code left n s
exec outer (Rep n k ∷ code) (suc left) zero s = exec outer code left k (repeated n (exec outer code k 0) s)

-- a code begins with nothing on the stack
abbrev pub at_first : Cells → StackState
at_first cells = record { stack = []; cells = cells }

-- what a whole code does
abbrev pub run : Outer → List Instr → Cells → StackState
run outer code cells = exec outer code (length code) 0 (at_first cells)

-- an expression has no cells
abbrev pub no_cells : Cells
no_cells = record { kinds = []; values = [] }

-- the number of an expression
abbrev pub code_value : Outer → List Instr → ℤ
code_value outer code = top (run outer code no_cells)

-- a body looks at its cells alone
abbrev pub no_outer : Outer
no_outer = record { sensor = λ k. pos 0; port = λ key. pos 0 }

-- the cells after a body
abbrev pub cells_after : List Instr → Cells → Cells
cells_after code cells = (run no_outer code cells).cells

-- the outputs after a body, of which there are `outputs` after the `inputs`
abbrev pub outputs_after : (inputs outputs : ℕ) → List Instr → Cells → List ℤ
outputs_after inputs outputs code cells = take outputs (drop inputs (cells_after code cells).values)
