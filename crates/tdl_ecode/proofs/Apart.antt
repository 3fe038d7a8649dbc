-- No spelling begins another one.
use Rattle.std.proofs.Common.{◌≡◌, ℕ, suc, List, [], ◌∷◌, ◌++◌, length, get_or, drop, refl, sym, ap, ◌∙◌, append-nil}
use Rattle.std.specs.Prelude.{Result, Ok}
use Rattle.std.proofs.Math.Seq.{drop-append_seam}
use Rattle.tdl_base.specs.Bytes.{IsPrefixFree}
use Rattle.tdl_ecode.specs.declared.instr.EInstr.{EInstr}
use Rattle.tdl_ecode.specs.declared.instr.EInstr.TheVariants.{Call, Release, End, Take, Mode, If, Jump, Future, Return}
use Rattle.tdl_ecode.specs.declared.fault.InstrFault.{InstrFault}
use Rattle.tdl_ecode.specs.Spelling.{opcode_of, operand_bytes, einstr_bytes, IsInRange}
use Rattle.tdl_ecode.specs.Reading.{instr_at, with_len, reading}
use Rattle.tdl_ecode.proofs.Readings.{instr_again}

-- how many bytes follow an opcode
abbrev operand_len : ℕ → ℕ
operand_len opcode = get_or (0 ∷ 2 ∷ 2 ∷ 2 ∷ 2 ∷ 2 ∷ 6 ∷ 4 ∷ 8 ∷ []) opcode 0

-- as many as the operands of the instruction have
length-operand_bytes : (i : EInstr) → length (operand_bytes i) ≡ operand_len (opcode_of i)
length-operand_bytes Return = refl
length-operand_bytes (Call n) = refl
length-operand_bytes (Release n) = refl
length-operand_bytes (End n) = refl
length-operand_bytes (Take n) = refl
length-operand_bytes (Mode n) = refl
length-operand_bytes (If m n) = refl
length-operand_bytes (Jump n) = refl
length-operand_bytes (Future m n) = refl

-- spellings with one opcode have one length
same_len : (i j : EInstr) (x y : List ℕ) → einstr_bytes i ++ x ≡ einstr_bytes j ++ y →
    length (einstr_bytes i) ≡ length (einstr_bytes j)
same_len i j x y e =
    let first : opcode_of i ≡ opcode_of j = cc e in
    ap suc (length-operand_bytes i ∙ ap operand_len first ∙ sym (length-operand_bytes j))

-- what follows is the same
pub same_after : (i j : EInstr) (x y : List ℕ) → einstr_bytes i ++ x ≡ einstr_bytes j ++ y → x ≡ y
same_after i j x y e =
    sym (drop-append_seam (einstr_bytes i) x) ∙ ap (drop (length (einstr_bytes i))) e
    ∙ ap (λ n. drop n (einstr_bytes j ++ y)) (same_len i j x y e) ∙ drop-append_seam (einstr_bytes j) y

-- so nothing follows where the other is whole
pub nothing_after : (i j : EInstr) (more : List ℕ) → einstr_bytes i ++ more ≡ einstr_bytes j → more ≡ []
nothing_after i j more e = same_after i j more [] (e ∙ sym (append-nil (einstr_bytes j)))

-- and the instruction is the same
pub same_instr : (i j : EInstr) (x y : List ℕ) → IsInRange i → IsInRange j →
    einstr_bytes i ++ x ≡ einstr_bytes j ++ y → i ≡ j
same_instr i j x y fits also e =
    let read : ◌≡◌ {A = Result EInstr InstrFault} (Ok i) (Ok j) =
    sym (instr_again i x fits) ∙ ap instr_at e ∙ instr_again j y also in
    cc read

-- so no spelling begins another one
pub einstr-prefix_free : IsPrefixFree IsInRange einstr_bytes
einstr-prefix_free = record { tell = λ i j x y fits also e. (same_instr i j x y fits also e, same_after i j x y e) }

-- a spelled instruction is read back with its length
pub reading-spelled : (i : EInstr) (rest : List ℕ) → IsInRange i →
    reading (einstr_bytes i ++ rest) ≡ Ok (i, length (einstr_bytes i))
reading-spelled i rest fits = ap with_len (instr_again i rest fits)
