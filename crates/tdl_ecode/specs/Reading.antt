-- What bytes say when they are read as an instruction.
use Rattle.std.specs.Prelude.{ℕ, List, [], ◌∷◌, length, Option, Some, None, Result, Ok, Err, slice_get, unwrap_or}
use Rattle.std.specs.Int.{Width, w16, w32}
use Rattle.tdl_base.specs.Bytes.{number_at, pair_at}
use Rattle.tdl_ecode.specs.declared.instr.EInstr.{EInstr}
use Rattle.tdl_ecode.specs.declared.instr.EInstr.TheVariants.{Call, Release, End, Take, Mode, If, Jump, Future, Return}
use Rattle.tdl_ecode.specs.Spelling.{einstr_bytes}
use Rattle.tdl_ecode.specs.declared.fault.InstrFault.{InstrFault}
use Rattle.tdl_ecode.specs.declared.fault.InstrFault.TheVariants.{Short, Unknown}

-- what was read; `Short` where it was not there
abbrev pub or_short : {A : Type 0} → Option A → Result A InstrFault
or_short (Some a) = Ok a
or_short None = Err Short

-- an instruction made of what was read
abbrev pub made_of : {A : Type 0} → (A → EInstr) → Result A InstrFault → Result EInstr InstrFault
made_of made (Ok a) = Ok (made a)
made_of made (Err fault) = Err fault

-- an instruction with one operand, read from the bytes after its opcode
abbrev pub one : Width → (ℕ → EInstr) → List ℕ → Result EInstr InstrFault
one w made bytes = made_of made (or_short (number_at w bytes))

-- an instruction with two operands, read one after the other
abbrev pub two : Width → Width → (ℕ → ℕ → EInstr) → List ℕ → Result EInstr InstrFault
two v w made bytes = made_of (λ read. made read.0 read.1) (or_short (pair_at v w bytes))

-- what the bytes after an opcode give, for each opcode in order
abbrev pub by_opcode : List ℕ → List (Result EInstr InstrFault)
by_opcode bytes =
    Ok Return ∷ one w16 Call bytes ∷ one w16 Release bytes ∷ one w16 End bytes ∷ one w16 Take bytes ∷
    one w16 Mode bytes ∷ two w16 w32 If bytes ∷ one w32 Jump bytes ∷ two w32 w32 Future bytes ∷ []

-- the instruction that the bytes begin with: the first byte chooses it, and the others are its operands
abbrev pub instr_at : List ℕ → Result EInstr InstrFault
instr_at [] = Err Short
instr_at (opcode ∷ bytes) = unwrap_or (slice_get (by_opcode bytes) opcode) (Err Unknown)

-- an instruction beside the length of its spelling
abbrev pub with_len : Result EInstr InstrFault → Result (EInstr × ℕ) InstrFault
with_len (Ok i) = Ok (i, length (einstr_bytes i))
with_len (Err fault) = Err fault

-- the instruction that the bytes begin with, and how many of them spell it
abbrev pub reading : List ℕ → Result (EInstr × ℕ) InstrFault
reading bytes = with_len (instr_at bytes)
