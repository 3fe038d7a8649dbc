-- When reading gives no instruction: the bytes end too early, or the first is no opcode.
use Rattle.std.proofs.Common.{◌≡◌, ◌≢◌, ℕ, zero, suc, ◌+◌, ◌-◌, ◌^◌, ◌<◌, Bool, true, false, cond, List, [], ◌∷◌, ◌++◌, length, drop, nat_lt, replicate, refl, sym, ap, ap₂, ◌∙◌, arith, length-append}
use Rattle.std.specs.Prelude.{Option, Some, None, Result, Ok, Err}
use Rattle.std.specs.Int.{Width, byte_len, w16, w32, from_be_bytes}
use Rattle.std.proofs.lemmas.List.{length-replicate}
use Rattle.std.proofs.lemmas.Nat.{be_bytes_2, be_bytes_4}
use Rattle.tdl_base.specs.Bytes.{short, word}
use Rattle.tdl_ecode.specs.declared.instr.EInstr.{EInstr}
use Rattle.tdl_ecode.specs.declared.instr.EInstr.TheVariants.{Call, Release, End, Take, Mode, If, Jump, Future, Return}
use Rattle.tdl_ecode.specs.declared.fault.InstrFault.{InstrFault}
use Rattle.tdl_ecode.specs.declared.fault.InstrFault.TheVariants.{Short, Unknown}
use Rattle.tdl_ecode.specs.Spelling.{opcode_of, operand_bytes, einstr_bytes, IsInRange, IsUnfinished, HasNoOpcode}
use Rattle.tdl_ecode.specs.Reading.{or_short, made_of, one, two, instr_at, with_len, reading}
use Rattle.tdl_base.proofs.NumbersInBytes.{AreBytes, bytes_after, too_few, is_fewer, two_spell, four_spell, six_spell, eight_spell}

-- zeros are bytes
zeros_are_bytes : (n : ℕ) → AreBytes (replicate n 0)
zeros_are_bytes zero k = omega arith
zeros_are_bytes (suc n) zero = omega arith
zeros_are_bytes (suc n) (suc k) = zeros_are_bytes n k

-- so are bytes with zeros after them
with_zeros : (bytes : List ℕ) (n : ℕ) → AreBytes bytes → AreBytes (bytes ++ replicate n 0)
with_zeros [] n small k = zeros_are_bytes n k
with_zeros (b ∷ bytes) n small zero = small 0
with_zeros (b ∷ bytes) n small (suc k) = with_zeros bytes n (λ j. small (suc j)) k

-- bytes are made n by some more
record Filled (bytes : List ℕ) (n : ℕ) : Type 0 where
  more : List ℕ
  some : more ≢ []
  len : length (bytes ++ more) ≡ n
  small : AreBytes (bytes ++ more)

-- fewer than n are made n by zeros
fill : (bytes : List ℕ) (n : ℕ) → AreBytes bytes → length bytes < n → Filled bytes n
fill bytes n small few = record {
  more = replicate (n - length bytes) 0;
  some = λ none. omega (arith, length-replicate {A = ℕ} (n - length bytes) 0, ap length none);
  len = length-append bytes (replicate (n - length bytes) 0)
      ∙ omega (arith, length-replicate {A = ℕ} (n - length bytes) 0);
  small = with_zeros bytes (n - length bytes) small;
}

-- fewer than two bytes after an opcode with one short operand
short_ends : (opcode : ℕ) (made : ℕ → EInstr) (bytes : List ℕ) →
    ((n : ℕ) → n < 2 ^ 16 → IsInRange (made n)) → ((n : ℕ) → einstr_bytes (made n) ≡ opcode ∷ short n) →
    Filled bytes 2 → IsUnfinished (opcode ∷ bytes)
short_ends opcode made bytes fits spelled full =
    let spell : (short (from_be_bytes w16 (bytes ++ full.more)) ≡ bytes ++ full.more)
    × (from_be_bytes w16 (bytes ++ full.more) < 2 ^ 16) = two_spell (bytes ++ full.more) full.len full.small in
    record {
      instr = made (from_be_bytes w16 (bytes ++ full.more));
      fits = fits _ spell.1;
      more = full.more;
      some = full.some;
      whole = ap (λ (s : List ℕ). opcode ∷ s) (sym spell.0) ∙ sym (spelled _);
    }

-- fewer than four after that of `jump`
word_ends : (bytes : List ℕ) → Filled bytes 4 → IsUnfinished (7 ∷ bytes)
word_ends bytes full =
    let spell : (word (from_be_bytes w32 (bytes ++ full.more)) ≡ bytes ++ full.more)
    × (from_be_bytes w32 (bytes ++ full.more) < 2 ^ 32) = four_spell (bytes ++ full.more) full.len full.small in
    record {
      instr = Jump (from_be_bytes w32 (bytes ++ full.more));
      fits = spell.1;
      more = full.more;
      some = full.some;
      whole = ap (λ (s : List ℕ). 7 ∷ s) (sym spell.0);
    }

-- fewer than six after that of `if`
short_word_ends : (bytes : List ℕ) → Filled bytes 6 → IsUnfinished (6 ∷ bytes)
short_word_ends bytes full = by (bytes ++ full.more) refl (six_spell (bytes ++ full.more) full.len full.small)
  where
    by : (all : List ℕ) → bytes ++ full.more ≡ all →
        (short (from_be_bytes w16 all) ++ word (from_be_bytes w32 (drop 2 all)) ≡ all)
        × (from_be_bytes w16 all < 2 ^ 16) × (from_be_bytes w32 (drop 2 all) < 2 ^ 32) → IsUnfinished (6 ∷ bytes)
    by all is spell = record {
      instr = If (from_be_bytes w16 all) (from_be_bytes w32 (drop 2 all));
      fits = (spell.1, spell.2);
      more = full.more;
      some = full.some;
      whole = ap (λ (s : List ℕ). 6 ∷ s) (is ∙ sym spell.0);
    }

-- fewer than eight after that of `future`
words_end : (bytes : List ℕ) → Filled bytes 8 → IsUnfinished (8 ∷ bytes)
words_end bytes full = by (bytes ++ full.more) refl (eight_spell (bytes ++ full.more) full.len full.small)
  where
    by : (all : List ℕ) → bytes ++ full.more ≡ all →
        (word (from_be_bytes w32 all) ++ word (from_be_bytes w32 (drop 4 all)) ≡ all)
        × (from_be_bytes w32 all < 2 ^ 32) × (from_be_bytes w32 (drop 4 all) < 2 ^ 32) → IsUnfinished (8 ∷ bytes)
    by all is spell = record {
      instr = Future (from_be_bytes w32 all) (from_be_bytes w32 (drop 4 all));
      fits = (spell.1, spell.2);
      more = full.more;
      some = full.some;
      whole = ap (λ (s : List ℕ). 8 ∷ s) (is ∙ sym spell.0);
    }

-- a number is not read where there are too few bytes
number_ends : (w : Width) (made : ℕ → EInstr) (bytes : List ℕ) → one w made bytes ≡ Err Short →
    length bytes < byte_len w
number_ends w made bytes e = by (nat_lt (length bytes) (byte_len w)) refl e
  where
    by : (t : Bool) → nat_lt (length bytes) (byte_len w) ≡ t →
        made_of made (or_short (cond t None (Some (from_be_bytes w bytes)))) ≡ Err Short → length bytes < byte_len w
    by true is e = is_fewer (length bytes) (byte_len w) is
    by false is e = cc

-- what a pair of numbers gives, where the test says whether there are too few bytes
abbrev pair_made : Bool → Width → Width → (ℕ → ℕ → EInstr) → List ℕ → Result EInstr InstrFault
pair_made t v w made bytes =
    made_of {A = ℕ × ℕ} (λ read. made read.0 read.1)
    (or_short (cond t None (Some (from_be_bytes v bytes, from_be_bytes w (drop (byte_len v) bytes)))))

-- nor is a pair of numbers
pair_ends : (v w : Width) (made : ℕ → ℕ → EInstr) (bytes : List ℕ) → two v w made bytes ≡ Err Short →
    length bytes < byte_len v + byte_len w
pair_ends v w made bytes e = by (nat_lt (length bytes) (byte_len v + byte_len w)) refl e
  where
    by : (t : Bool) → nat_lt (length bytes) (byte_len v + byte_len w) ≡ t →
        pair_made t v w made bytes ≡ Err Short → length bytes < byte_len v + byte_len w
    by true is e = is_fewer (length bytes) (byte_len v + byte_len w) is
    by false is e = cc

-- bytes after an opcode that give `Short` end within an instruction
ends_at : (opcode : ℕ) (bytes : List ℕ) → AreBytes bytes → instr_at (opcode ∷ bytes) ≡ Err Short →
    IsUnfinished (opcode ∷ bytes)
ends_at zero bytes small e = cc
ends_at (suc zero) bytes small e =
    short_ends 1 Call bytes (λ n h. h) (λ n. refl) (fill bytes 2 small (number_ends w16 Call bytes e))
ends_at (suc (suc zero)) bytes small e =
    short_ends 2 Release bytes (λ n h. h) (λ n. refl) (fill bytes 2 small (number_ends w16 Release bytes e))
ends_at (suc (suc (suc zero))) bytes small e =
    short_ends 3 End bytes (λ n h. h) (λ n. refl) (fill bytes 2 small (number_ends w16 End bytes e))
ends_at (suc (suc (suc (suc zero)))) bytes small e =
    short_ends 4 Take bytes (λ n h. h) (λ n. refl) (fill bytes 2 small (number_ends w16 Take bytes e))
ends_at (suc (suc (suc (suc (suc zero))))) bytes small e =
    short_ends 5 Mode bytes (λ n h. h) (λ n. refl) (fill bytes 2 small (number_ends w16 Mode bytes e))
ends_at (suc (suc (suc (suc (suc (suc zero)))))) bytes small e =
    short_word_ends bytes (fill bytes 6 small (pair_ends w16 w32 If bytes e))
ends_at (suc (suc (suc (suc (suc (suc (suc zero))))))) bytes small e =
    word_ends bytes (fill bytes 4 small (number_ends w32 Jump bytes e))
ends_at (suc (suc (suc (suc (suc (suc (suc (suc zero)))))))) bytes small e =
    words_end bytes (fill bytes 8 small (pair_ends w32 w32 Future bytes e))
ends_at (suc (suc (suc (suc (suc (suc (suc (suc (suc k))))))))) bytes small e = cc

-- a fault is there before the length is
without_len : (read : Result EInstr InstrFault) (fault : InstrFault) → with_len read ≡ Err fault → read ≡ Err fault
without_len (Ok i) fault e = cc
without_len (Err other) fault e = cc

-- where reading gives `Short`, the bytes end within an instruction
pub short_is : (bytes : List ℕ) → AreBytes bytes → reading bytes ≡ Err Short → IsUnfinished bytes
short_is [] small e = record { instr = Return; fits = tt; more = 0 ∷ []; some = λ none. cc; whole = refl }
short_is (opcode ∷ bytes) small e =
    ends_at opcode bytes (bytes_after opcode bytes small) (without_len (instr_at (opcode ∷ bytes)) Short e)

-- too few bytes after the opcode of an instruction give `Short`
gives_short : (i : EInstr) (bytes : List ℕ) → length bytes < length (operand_bytes i) →
    instr_at (opcode_of i ∷ bytes) ≡ Err Short
gives_short Return bytes few = absurd (omega arith)
gives_short (Call n) bytes few = rw (too_few (length bytes) 2 few) refl
gives_short (Release n) bytes few = rw (too_few (length bytes) 2 few) refl
gives_short (End n) bytes few = rw (too_few (length bytes) 2 few) refl
gives_short (Take n) bytes few = rw (too_few (length bytes) 2 few) refl
gives_short (Mode n) bytes few = rw (too_few (length bytes) 2 few) refl
gives_short (If m n) bytes few = rw (too_few (length bytes) 6 few) refl
gives_short (Jump n) bytes few = rw (too_few (length bytes) 4 few) refl
gives_short (Future m n) bytes few = rw (too_few (length bytes) 8 few) refl

-- some bytes have a length
some_len : (bytes : List ℕ) → bytes ≢ [] → 0 < length bytes
some_len [] some = absurd (some refl)
some_len (b ∷ bytes) some = omega arith

-- bytes that end within an instruction give `Short`
pub short_from : (bytes : List ℕ) → IsUnfinished bytes → reading bytes ≡ Err Short
short_from [] u = refl
short_from (b ∷ bytes) u =
    let first : b ≡ opcode_of u.instr = cc u.whole in
    let others : bytes ++ u.more ≡ operand_bytes u.instr = cc u.whole in
    let few : length bytes < length (operand_bytes u.instr) =
    omega (arith, some_len u.more u.some, length-append bytes u.more, ap length others) in
    ap (λ (opcode : ℕ). reading (opcode ∷ bytes)) first ∙ ap with_len (gives_short u.instr bytes few)

-- a number gives no `Unknown`
number_known : (w : Width) (made : ℕ → EInstr) (bytes : List ℕ) → one w made bytes ≢ Err Unknown
number_known w made bytes = by (nat_lt (length bytes) (byte_len w))
  where
    by : (t : Bool) → made_of made (or_short (cond t None (Some (from_be_bytes w bytes)))) ≢ Err Unknown
    by true e = cc
    by false e = cc

-- nor does a pair of numbers
pair_known : (v w : Width) (made : ℕ → ℕ → EInstr) (bytes : List ℕ) → two v w made bytes ≢ Err Unknown
pair_known v w made bytes = by (nat_lt (length bytes) (byte_len v + byte_len w))
  where
    by : (t : Bool) → pair_made t v w made bytes ≢ Err Unknown
    by true e = cc
    by false e = cc

-- the opcode of an instruction gives no `Unknown`
is_known : (i : EInstr) (bytes : List ℕ) → instr_at (opcode_of i ∷ bytes) ≢ Err Unknown
is_known Return bytes = λ e. cc
is_known (Call n) bytes = number_known w16 Call bytes
is_known (Release n) bytes = number_known w16 Release bytes
is_known (End n) bytes = number_known w16 End bytes
is_known (Take n) bytes = number_known w16 Take bytes
is_known (Mode n) bytes = number_known w16 Mode bytes
is_known (If m n) bytes = pair_known w16 w32 If bytes
is_known (Jump n) bytes = number_known w32 Jump bytes
is_known (Future m n) bytes = pair_known w32 w32 Future bytes

-- where reading gives `Unknown`, the first byte is no opcode
pub unknown_is : (bytes : List ℕ) → reading bytes ≡ Err Unknown → HasNoOpcode bytes
unknown_is [] e = cc
unknown_is (b ∷ bytes) e =
    λ i same. is_known i bytes (ap (λ (opcode : ℕ). instr_at (opcode ∷ bytes)) same
    ∙ without_len (instr_at (b ∷ bytes)) Unknown e)

-- what follows a first byte that is no opcode does not matter
unknown_at : (opcode : ℕ) (bytes : List ℕ) → HasNoOpcode (opcode ∷ bytes) → instr_at (opcode ∷ bytes) ≡ Err Unknown
unknown_at zero bytes none = absurd (none Return refl)
unknown_at (suc zero) bytes none = absurd (none (Call 0) refl)
unknown_at (suc (suc zero)) bytes none = absurd (none (Release 0) refl)
unknown_at (suc (suc (suc zero))) bytes none = absurd (none (End 0) refl)
unknown_at (suc (suc (suc (suc zero)))) bytes none = absurd (none (Take 0) refl)
unknown_at (suc (suc (suc (suc (suc zero))))) bytes none = absurd (none (Mode 0) refl)
unknown_at (suc (suc (suc (suc (suc (suc zero)))))) bytes none = absurd (none (If 0 0) refl)
unknown_at (suc (suc (suc (suc (suc (suc (suc zero))))))) bytes none = absurd (none (Jump 0) refl)
unknown_at (suc (suc (suc (suc (suc (suc (suc (suc zero)))))))) bytes none = absurd (none (Future 0 0) refl)
unknown_at (suc (suc (suc (suc (suc (suc (suc (suc (suc k))))))))) bytes none = refl

-- a first byte that is no opcode gives `Unknown`
pub unknown_from : (bytes : List ℕ) → HasNoOpcode bytes → reading bytes ≡ Err Unknown
unknown_from [] none = absurd none
unknown_from (opcode ∷ bytes) none = ap with_len (unknown_at opcode bytes none)
