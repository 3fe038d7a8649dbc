-- The texts of stack code, as listings show them.
use Rattle.std.specs.Prelude.{◌≡◌, ℕ, List, [], ◌∷◌, ◌++◌, length, take, codes, decimal, flat_map}
use Rattle.std.specs.Fmt.{signed_decimal}
use Rattle.tdl_base.specs.declared.numbers.Place.TheVariants.{Sensor, Port, Cell}
use Rattle.tdl_stack.specs.declared.instr.Instr.{Instr}
use Rattle.tdl_stack.specs.declared.instr.Instr.TheVariants.{Const, Load, Store, Un, Bin, Jz, Jmp, Rep}
use Rattle.tdl_stack.specs.Spelling.{un_byte, bin_byte}

-- two numbers with a blank between them
abbrev pub two_numbers : ℕ → ℕ → List ℕ
two_numbers m n = decimal m ++ codes " " ++ decimal n

-- the text of an instruction: its name, then its operands
abbrev pub instr_text : Instr → List ℕ
instr_text (Const v) = codes "const " ++ signed_decimal v
instr_text (Load (Sensor k)) = codes "sensor " ++ decimal k
instr_text (Load (Port key)) = codes "port " ++ two_numbers key.module.0 key.task.0 ++ codes " " ++ decimal key.output
instr_text (Load (Cell k)) = codes "cell " ++ decimal k
instr_text (Store k) = codes "store " ++ decimal k
instr_text (Un op) = codes "un " ++ decimal (un_byte op)
instr_text (Bin op) = codes "bin " ++ decimal (bin_byte op)
instr_text (Jz n) = codes "jz " ++ decimal n
instr_text (Jmp n) = codes "jmp " ++ decimal n
instr_text (Rep times n) = codes "rep " ++ two_numbers times n

-- the texts of further instructions
abbrev pub further_text : List Instr → List ℕ
further_text code = flat_map (λ i. codes "; " ++ instr_text i) code

-- the text of a code: those of its instructions, joined
abbrev pub code_text : List Instr → List ℕ
code_text [] = codes "none"
code_text (i ∷ code) = instr_text i ++ further_text code

-- the bytes begin with those that were there before
pub record Extends (old new : List ℕ) : Type 0 where
  pub is : take (length old) new ≡ old
