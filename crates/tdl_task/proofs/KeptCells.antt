-- A code that is run changes no kind, and makes no cell.
use Rattle.std.proofs.Common.{◌≡◌, List, length}
use Rattle.tdl_base.specs.Cells.{Cells}
use Rattle.tdl_stack.specs.declared.instr.Instr.{Instr}
use Rattle.tdl_stack.specs.Running.{no_outer, at_first, run, cells_after}
use Rattle.tdl_stack.proofs.Kept.{Keeps, keeps}

-- the state after a code keeps what the one before it has
after-keeps : (code : List Instr) (cells : Cells) → Keeps (at_first cells) (run no_outer code cells)
after-keeps code cells = keeps no_outer code (length code) 0 (at_first cells)

pub after-kinds : (code : List Instr) (cells : Cells) → (cells_after code cells).kinds ≡ cells.kinds
after-kinds code cells = (after-keeps code cells).kinds

pub after-count : (code : List Instr) (cells : Cells) → length (cells_after code cells).values ≡ length cells.values
after-count code cells = (after-keeps code cells).count
