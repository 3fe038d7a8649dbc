-- What reading gives: an instruction whose spelling the bytes begin with, and no other.
use Rattle.std.proofs.Common.{◌≡◌, ℕ, zero, suc, ◌^◌, ◌<◌, List, [], ◌∷◌, ◌++◌, length, take, drop, refl, sym, ap, ap₂, subst, ◌∙◌, arith}
use Rattle.std.specs.Prelude.{Option, Some, Result, Ok, Err, IfOk}
use Rattle.std.specs.Int.{w16, w32}
use Rattle.std.proofs.lemmas.List.{take-append-drop}
use Rattle.tdl_base.specs.Bytes.{short}
use Rattle.tdl_ecode.specs.declared.instr.EInstr.{EInstr}
use Rattle.tdl_ecode.specs.declared.instr.EInstr.TheVariants.{Call, Release, End, Take, Mode, If, Jump, Future, Return}
use Rattle.tdl_ecode.specs.declared.fault.InstrFault.{InstrFault}
use Rattle.tdl_ecode.specs.Spelling.{einstr_bytes, IsInRange, BeginsWith}
use Rattle.tdl_ecode.specs.Reading.{or_short, made_of, one, two, instr_at, with_len, reading}
use Rattle.tdl_base.proofs.NumbersInBytes.{AreBytes, bytes_after, enough, short_of, short_fits, word_of, word_fits, short_again, word_again, short_word_again, words_again}

-- what was read makes an instruction
read_again : {A : Type 0} {read : Option A} {a : A} (made : A → EInstr) → read ≡ Some a →
    made_of made (or_short read) ≡ Ok (made a)
read_again made e = ap (λ read. made_of made (or_short read)) e

-- a spelled instruction is read again, whatever follows
pub instr_again : (i : EInstr) (rest : List ℕ) → IsInRange i → instr_at (einstr_bytes i ++ rest) ≡ Ok i
instr_again Return rest fits = refl
instr_again (Call n) rest fits = read_again Call (short_again n rest fits)
instr_again (Release n) rest fits = read_again Release (short_again n rest fits)
instr_again (End n) rest fits = read_again End (short_again n rest fits)
instr_again (Take n) rest fits = read_again Take (short_again n rest fits)
instr_again (Mode n) rest fits = read_again Mode (short_again n rest fits)
instr_again (If m n) rest fits = read_again (λ (p : ℕ × ℕ). If p.0 p.1) (short_word_again m n rest fits.0 fits.1)
instr_again (Jump n) rest fits = read_again Jump (word_again n rest fits)
instr_again (Future m n) rest fits = read_again (λ (p : ℕ × ℕ). Future p.0 p.1) (words_again m n rest fits.0 fits.1)

-- bytes begin with an instruction where they begin with its spelling
begins_by : (bytes front : List ℕ) (i : EInstr) → IsInRange i → einstr_bytes i ≡ front →
    take (length front) bytes ≡ front → BeginsWith bytes i
begins_by bytes front i fits spelled taken = record {
  fits = fits;
  front = subst (λ (s : List ℕ). take (length s) bytes ≡ s) (sym spelled) taken;
}

-- a number of two bytes that was read makes an instruction that the bytes begin with
short_begins : (opcode : ℕ) (made : ℕ → EInstr) (bytes : List ℕ) →
    ((n : ℕ) → n < 2 ^ 16 → IsInRange (made n)) → ((n : ℕ) → einstr_bytes (made n) ≡ opcode ∷ short n) →
    AreBytes bytes → IfOk (one w16 made bytes) (BeginsWith (opcode ∷ bytes))
short_begins opcode made [] fits spelled small = tt
short_begins opcode made (a ∷ []) fits spelled small = tt
short_begins opcode made (a ∷ b ∷ more) fits spelled small =
    rw (enough (length (a ∷ b ∷ more)) 2 (omega arith))
    (begins_by _ (opcode ∷ a ∷ b ∷ []) _ (fits _ (short_fits a b more small))
    (spelled _ ∙ ap (λ (s : List ℕ). opcode ∷ s) (short_of a b more small)) refl)

-- so does a number of four bytes
word_begins : (bytes : List ℕ) → AreBytes bytes → IfOk (one w32 Jump bytes) (BeginsWith (7 ∷ bytes))
word_begins [] small = tt
word_begins (a ∷ []) small = tt
word_begins (a ∷ b ∷ []) small = tt
word_begins (a ∷ b ∷ c ∷ []) small = tt
word_begins (a ∷ b ∷ c ∷ d ∷ more) small =
    rw (enough (length (a ∷ b ∷ c ∷ d ∷ more)) 4 (omega arith))
    (begins_by _ (7 ∷ a ∷ b ∷ c ∷ d ∷ []) _ (word_fits a b c d more small)
    (ap (λ (s : List ℕ). 7 ∷ s) (word_of a b c d more small)) refl)

-- and a pair of numbers
short_word_begins : (bytes : List ℕ) → AreBytes bytes → IfOk (two w16 w32 If bytes) (BeginsWith (6 ∷ bytes))
short_word_begins [] small = tt
short_word_begins (a ∷ []) small = tt
short_word_begins (a ∷ b ∷ []) small = tt
short_word_begins (a ∷ b ∷ c ∷ []) small = tt
short_word_begins (a ∷ b ∷ c ∷ d ∷ []) small = tt
short_word_begins (a ∷ b ∷ c ∷ d ∷ e ∷ []) small = tt
short_word_begins (a ∷ b ∷ c ∷ d ∷ e ∷ f ∷ more) small =
    let after : AreBytes (c ∷ d ∷ e ∷ f ∷ more) = λ k. small (suc (suc k)) in
    rw (enough (length (a ∷ b ∷ c ∷ d ∷ e ∷ f ∷ more)) 6 (omega arith))
    (begins_by _ (6 ∷ a ∷ b ∷ c ∷ d ∷ e ∷ f ∷ []) _
    (short_fits a b (c ∷ d ∷ e ∷ f ∷ more) small, word_fits c d e f more after)
    (ap₂ (λ (s t : List ℕ). 6 ∷ (s ++ t)) (short_of a b (c ∷ d ∷ e ∷ f ∷ more) small) (word_of c d e f more after))
    refl)

words_begins : (bytes : List ℕ) → AreBytes bytes → IfOk (two w32 w32 Future bytes) (BeginsWith (8 ∷ bytes))
words_begins [] small = tt
words_begins (a ∷ []) small = tt
words_begins (a ∷ b ∷ []) small = tt
words_begins (a ∷ b ∷ c ∷ []) small = tt
words_begins (a ∷ b ∷ c ∷ d ∷ []) small = tt
words_begins (a ∷ b ∷ c ∷ d ∷ e ∷ []) small = tt
words_begins (a ∷ b ∷ c ∷ d ∷ e ∷ f ∷ []) small = tt
words_begins (a ∷ b ∷ c ∷ d ∷ e ∷ f ∷ g ∷ []) small = tt
words_begins (a ∷ b ∷ c ∷ d ∷ e ∷ f ∷ g ∷ h ∷ more) small =
    let after : AreBytes (e ∷ f ∷ g ∷ h ∷ more) = λ k. small (suc (suc (suc (suc k)))) in
    rw (enough (length (a ∷ b ∷ c ∷ d ∷ e ∷ f ∷ g ∷ h ∷ more)) 8 (omega arith))
    (begins_by _ (8 ∷ a ∷ b ∷ c ∷ d ∷ e ∷ f ∷ g ∷ h ∷ []) _
    (word_fits a b c d (e ∷ f ∷ g ∷ h ∷ more) small, word_fits e f g h more after)
    (ap₂ (λ (s t : List ℕ). 8 ∷ (s ++ t)) (word_of a b c d (e ∷ f ∷ g ∷ h ∷ more) small) (word_of e f g h more after))
    refl)

-- what is read after an opcode, the bytes begin with
begins_at : (opcode : ℕ) (bytes : List ℕ) → AreBytes bytes →
    IfOk (instr_at (opcode ∷ bytes)) (BeginsWith (opcode ∷ bytes))
begins_at zero bytes small = record { fits = tt; front = refl }
begins_at (suc zero) bytes small = short_begins 1 Call bytes (λ n h. h) (λ n. refl) small
begins_at (suc (suc zero)) bytes small = short_begins 2 Release bytes (λ n h. h) (λ n. refl) small
begins_at (suc (suc (suc zero))) bytes small = short_begins 3 End bytes (λ n h. h) (λ n. refl) small
begins_at (suc (suc (suc (suc zero)))) bytes small = short_begins 4 Take bytes (λ n h. h) (λ n. refl) small
begins_at (suc (suc (suc (suc (suc zero))))) bytes small = short_begins 5 Mode bytes (λ n h. h) (λ n. refl) small
begins_at (suc (suc (suc (suc (suc (suc zero)))))) bytes small = short_word_begins bytes small
begins_at (suc (suc (suc (suc (suc (suc (suc zero))))))) bytes small = word_begins bytes small
begins_at (suc (suc (suc (suc (suc (suc (suc (suc zero)))))))) bytes small = words_begins bytes small
begins_at (suc (suc (suc (suc (suc (suc (suc (suc (suc k))))))))) bytes small = tt

-- what is read, the bytes begin with
instr_begins : (bytes : List ℕ) → AreBytes bytes → IfOk (instr_at bytes) (BeginsWith bytes)
instr_begins [] small = tt
instr_begins (opcode ∷ bytes) small = begins_at opcode bytes (bytes_after opcode bytes small)

-- the length changes nothing of that
with_len_begins : (bytes : List ℕ) (read : Result EInstr InstrFault) → IfOk read (BeginsWith bytes) →
    IfOk (with_len read) (λ r. BeginsWith bytes r.0)
with_len_begins bytes (Ok i) begins = begins
with_len_begins bytes (Err fault) begins = tt

-- the bytes begin with what is read
pub reading_begins : (bytes : List ℕ) → AreBytes bytes → IfOk (reading bytes) (λ r. BeginsWith bytes r.0)
reading_begins bytes small = with_len_begins bytes (instr_at bytes) (instr_begins bytes small)

-- bytes that begin with an instruction are its spelling and more
pub begins_whole : (bytes : List ℕ) (i : EInstr) → BeginsWith bytes i →
    einstr_bytes i ++ drop (length (einstr_bytes i)) bytes ≡ bytes
begins_whole bytes i begins =
    ap (λ (s : List ℕ). s ++ drop (length (einstr_bytes i)) bytes) (sym begins.front)
    ∙ take-append-drop (length (einstr_bytes i)) bytes

-- what the bytes begin with is read
pub reading_only : (bytes : List ℕ) (i : EInstr) → BeginsWith bytes i → reading bytes ≡ Ok (i, length (einstr_bytes i))
reading_only bytes i begins =
    ap with_len (ap instr_at (sym (begins_whole bytes i begins))
    ∙ instr_again i (drop (length (einstr_bytes i)) bytes) begins.fits)
