-- How an instruction is spelled in bytes.
use Rattle.std.specs.Prelude.{◌≡◌, ◌≢◌, ℕ, List, [], ◌∷◌, ◌++◌, length, take}
use Rattle.tdl_base.specs.Bytes.{short, word, FitsShort, FitsWord}
use Rattle.tdl_ecode.specs.declared.instr.EInstr.{EInstr}
use Rattle.tdl_ecode.specs.declared.instr.EInstr.TheVariants.{Call, Release, End, Take, Mode, If, Jump, Future, Return}

-- the first byte of each instruction
abbrev pub opcode_of : EInstr → ℕ
opcode_of Return = 0
opcode_of (Call driver) = 1
opcode_of (Release entry) = 2
opcode_of (End task) = 3
opcode_of (Take entry) = 4
opcode_of (Mode mode) = 5
opcode_of (If guard index) = 6
opcode_of (Jump index) = 7
opcode_of (Future delay block) = 8

-- the bytes after it: the operands in their order
abbrev pub operand_bytes : EInstr → List ℕ
operand_bytes Return = []
operand_bytes (Call driver) = short driver
operand_bytes (Release entry) = short entry
operand_bytes (End task) = short task
operand_bytes (Take entry) = short entry
operand_bytes (Mode mode) = short mode
operand_bytes (If guard index) = short guard ++ word index
operand_bytes (Jump index) = word index
operand_bytes (Future delay block) = word delay ++ word block

-- the spelling of an instruction
abbrev pub einstr_bytes : EInstr → List ℕ
einstr_bytes i = opcode_of i ∷ operand_bytes i

-- each operand fits the bytes that it is spelled in
abbrev pub IsInRange : EInstr → Type 0
IsInRange Return = Unit {0}
IsInRange (Call driver) = FitsShort driver
IsInRange (Release entry) = FitsShort entry
IsInRange (End task) = FitsShort task
IsInRange (Take entry) = FitsShort entry
IsInRange (Mode mode) = FitsShort mode
IsInRange (If guard index) = FitsShort guard × FitsWord index
IsInRange (Jump index) = FitsWord index
IsInRange (Future delay block) = FitsWord delay × FitsWord block

-- the bytes begin with the spelling of the instruction
pub record BeginsWith (bytes : List ℕ) (i : EInstr) : Type 0 where
  pub fits : IsInRange i
  pub front : take (length (einstr_bytes i)) bytes ≡ einstr_bytes i

-- the bytes begin the spelling of an instruction, but end before it does
pub record IsUnfinished (bytes : List ℕ) : Type 0 where
  pub instr : EInstr
  pub fits : IsInRange instr
  pub more : List ℕ
  pub some : more ≢ []
  pub whole : bytes ++ more ≡ einstr_bytes instr

-- the first byte is the opcode of no instruction
abbrev pub HasNoOpcode : List ℕ → Type 0
HasNoOpcode [] = ⊥
HasNoOpcode (b ∷ bytes) = (i : EInstr) → opcode_of i ≢ b
