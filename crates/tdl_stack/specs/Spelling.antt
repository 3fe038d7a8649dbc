-- How stack code is spelled in bytes.
use Rattle.std.specs.Prelude.{ℕ, List, [], ◌∷◌, ◌++◌, length}
use Rattle.std.specs.List.{flat_map}
use Rattle.tdl_base.specs.Bytes.{long, short, word, FitsShort, FitsWord, FitsLong}
use Rattle.tdl_base.specs.declared.arithmetic.UnOp.{UnOp}
use Rattle.tdl_base.specs.declared.arithmetic.UnOp.TheVariants.{Neg, Not}
use Rattle.tdl_base.specs.declared.arithmetic.BinOp.{BinOp}
use Rattle.tdl_base.specs.declared.arithmetic.BinOp.TheVariants.{Add, Sub, Mul, Div, Rem, Less, LessEq, Greater, GreaterEq, Equal, NotEqual, And, Or}
use Rattle.tdl_base.specs.declared.numbers.Place.TheVariants.{Sensor, Port, Cell}
use Rattle.tdl_stack.specs.declared.instr.Instr.{Instr}
use Rattle.tdl_stack.specs.declared.instr.Instr.TheVariants.{Const, Load, Store, Un, Bin, Jz, Jmp, Rep}

-- the byte of an operator with one operand
abbrev pub un_byte : UnOp → ℕ
un_byte Neg = 0
un_byte Not = 1

-- the byte of an operator with two operands
abbrev pub bin_byte : BinOp → ℕ
bin_byte Add = 0
bin_byte Sub = 1
bin_byte Mul = 2
bin_byte Div = 3
bin_byte Rem = 4
bin_byte Less = 5
bin_byte LessEq = 6
bin_byte Greater = 7
bin_byte GreaterEq = 8
bin_byte Equal = 9
bin_byte NotEqual = 10
bin_byte And = 11
bin_byte Or = 12

-- the spelling of an instruction: its byte, then its operands in their order
abbrev pub instr_bytes : Instr → List ℕ
instr_bytes (Const v) = 0 ∷ long v
instr_bytes (Load (Sensor k)) = 1 ∷ short k
instr_bytes (Load (Port key)) = 2 ∷ short key.module.0 ++ short key.task.0 ++ short key.output
instr_bytes (Load (Cell k)) = 3 ∷ short k
instr_bytes (Store k) = 4 ∷ short k
instr_bytes (Un op) = 5 ∷ un_byte op ∷ []
instr_bytes (Bin op) = 6 ∷ bin_byte op ∷ []
instr_bytes (Jz n) = 7 ∷ word n
instr_bytes (Jmp n) = 8 ∷ word n
instr_bytes (Rep n k) = 9 ∷ short n ++ word k

-- each operand fits the bytes that it is spelled in
abbrev pub IsInRange : Instr → Type 0
IsInRange (Const v) = FitsLong v
IsInRange (Load (Sensor k)) = FitsShort k
IsInRange (Load (Port key)) = FitsShort key.module.0 × FitsShort key.task.0 × FitsShort key.output
IsInRange (Load (Cell k)) = FitsShort k
IsInRange (Store k) = FitsShort k
IsInRange (Un op) = Unit {0}
IsInRange (Bin op) = Unit {0}
IsInRange (Jz n) = FitsWord n
IsInRange (Jmp n) = FitsWord n
IsInRange (Rep n k) = FitsShort n × FitsWord k

-- the spelling of a code: how many instructions it has, then these
abbrev pub code_bytes : List Instr → List ℕ
code_bytes code = word (length code) ++ flat_map instr_bytes code
