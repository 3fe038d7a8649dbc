-- Small codes, over an input `a` that is cell 0 and an output `o` that is cell 1.
use Rattle.std.specs.Prelude.{List, [], ◌∷◌, ℤ, pos}
use Rattle.tdl_base.specs.declared.kinds.Kind.TheVariants.{Int}
use Rattle.tdl_base.specs.declared.numbers.Place.TheVariants.{Sensor, Cell}
use Rattle.tdl_base.specs.declared.arithmetic.UnOp.TheVariants.{Neg}
use Rattle.tdl_base.specs.declared.arithmetic.BinOp.TheVariants.{Add, Greater}
use Rattle.tdl_stack.specs.declared.instr.Instr.{Instr}
use Rattle.tdl_stack.specs.declared.instr.Instr.TheVariants.{Const, Load, Store, Un, Bin, Jz, Jmp, Rep}
use Rattle.tdl_base.specs.Cells.{Cells}
use Rattle.tdl_stack.specs.Running.{Outer}

-- the cells with these numbers in `a` and `o`, of the kind `int`
abbrev pub two_cells : ℤ → ℤ → Cells
two_cells a o = record { kinds = Int ∷ Int ∷ []; values = a ∷ o ∷ [] }

-- if a > 0 { o := 1; } else { o := 2; }
abbrev pub choice_code : List Instr
choice_code =
    Load (Cell 0) ∷ Const (pos 0) ∷ Bin Greater ∷ Jz 3 ∷
    Const (pos 1) ∷ Store 1 ∷ Jmp 2 ∷
    Const (pos 2) ∷ Store 1 ∷ []

-- o := o + a;
abbrev pub sum_code : List Instr
sum_code = Load (Cell 1) ∷ Load (Cell 0) ∷ Bin Add ∷ Store 1 ∷ []

-- repeat 3 { o := o + a; }
abbrev pub repeat_code : List Instr
repeat_code = Rep 3 4 ∷ sum_code

-- -r, where `r` is sensor 0
abbrev pub minus_code : List Instr
minus_code = Load (Sensor 0) ∷ Un Neg ∷ []

-- the look where each sensor reads this number, and each output 0
abbrev pub sensing : ℤ → Outer
sensing v = record { sensor = λ k. v; port = λ key. pos 0 }
