-- What stack code does, one instruction at a time.
use Rattle.std.specs.Prelude.{ℤ, List, if◌then◌else◌}
use Rattle.tdl_base.specs.Cells.{Cells, stored}
use Rattle.tdl_base.specs.Numbers.{is_true, unary, binary}
use Rattle.tdl_stack.specs.declared.instr.Instr.{Instr}
use Rattle.tdl_stack.specs.declared.instr.Instr.TheVariants.{Const, Load, Store, Un, Bin, Jz, Jmp, Rep}
use Rattle.tdl_stack.specs.Running.{Outer, StackState, loaded, top, popped, pushed}
use Rattle.tdl_exec.specs.declared.step.Next.{Next}
use Rattle.tdl_exec.specs.declared.step.Next.TheVariants.{Skip, Repeat}

-- where a code stands with this stack and these cells
abbrev pub state_of : List ℤ → Cells → StackState
state_of stack cells = record { stack = stack; cells = cells }

-- what an instruction does by itself
abbrev pub stepped : Outer → Instr → StackState → StackState
stepped outer (Const v) s = pushed v s
stepped outer (Load place) s = pushed (loaded outer place s.cells) s
stepped outer (Store k) s = record (popped s) { cells = stored k (top s) s.cells }
stepped outer (Un op) s = pushed (unary op (top s)) (popped s)
stepped outer (Bin op) s = pushed (binary op (top (popped s)) (top s)) (popped (popped s))
stepped outer (Jz n) s = popped s
stepped outer (Jmp n) s = s
stepped outer (Rep n k) s = s

-- what is next after an instruction
abbrev pub next_of : Instr → StackState → Next
next_of (Const v) s = Skip 0
next_of (Load place) s = Skip 0
next_of (Store k) s = Skip 0
next_of (Un op) s = Skip 0
next_of (Bin op) s = Skip 0
next_of (Jz n) s = Skip (if is_true (top s) then 0 else n)
next_of (Jmp n) s = Skip n
next_of (Rep n k) s = Repeat n k
