-- Kinds, codes and blocks are read exactly.
use Rattle.std.proofs.Common.{◌≡◌, ℕ, zero, suc, ◌≤◌, Bool, true, false, List, ◌∷◌, ◌++◌, Ok, refl, sym, ap, ◌∙◌, arith}
use Rattle.std.specs.Prelude.{IfOk}
use Rattle.tdl_base.specs.Bytes.{short, word, long, FitsShort}
use Rattle.tdl_base.specs.declared.kinds.Kind.{Kind}
use Rattle.tdl_base.specs.declared.kinds.Kind.TheVariants.{Boolean, Byte, Short, Int, Long}
use Rattle.tdl_base.specs.declared.arithmetic.UnOp.{UnOp}
use Rattle.tdl_base.specs.declared.arithmetic.UnOp.TheVariants.{Neg, Not}
use Rattle.tdl_base.specs.declared.arithmetic.BinOp.{BinOp}
use Rattle.tdl_base.specs.declared.arithmetic.BinOp.TheVariants.{Add, Sub, Mul, Div, Rem, Less, LessEq, Greater, GreaterEq, Equal, NotEqual, And, Or}
use Rattle.tdl_base.specs.declared.numbers.Place.TheVariants.{Sensor, Port, Cell}
use Rattle.tdl_base.specs.declared.numbers.PortKey.{PortKey}
use Rattle.tdl_base.proofs.NumbersInBytes.{AreBytes}
use Rattle.tdl_stack.specs.declared.instr.Instr.{Instr}
use Rattle.tdl_stack.specs.declared.instr.Instr.TheVariants.{Const, Load, Store, Un, Bin, Jz, Jmp, Rep}
use Rattle.tdl_stack.specs.Spelling as stack
use Rattle.tdl_image.specs.Spelling.{byte, kind_number, resource_number, long_list}
use Rattle.tdl_decode.specs.Grammar.{Grammar, Reads, nothing, ◌▷◌, byte_from_to, any_short}
use Rattle.tdl_decode.specs.BundleGrammar.{kind, resource, stack_operands, stack_instr, code, einstr, block}
use Rattle.tdl_decode.specs.Reading.{byte_in}
use Rattle.tdl_decode.specs.BundleReading.{kind_of, kind_in, bus_of, resource_in, un_of, bin_of, key_in, rep_in, operands_in, stack_instr_in, code_in, block_in}
use Rattle.tdl_decode.proofs.Exact.{Exact, Faults, faults_then, faults_none, kept_faults, sound_then, sound_last, again_then}
use Rattle.tdl_decode.proofs.NumberFields.{byte-exact, any_short-exact, any_word-exact, fits_short, short_fits, fits_word, word_fits, seq2, seq3}
use Rattle.tdl_decode.proofs.LongExact.{long-exact}
use Rattle.tdl_decode.proofs.ListedExact.{long_listed-exact}
use Rattle.tdl_decode.proofs.EInstrExact.{einstr-exact}

-- the kind of a number up to 4 has that number
kind_number-of : (n : ℕ) → n ≤ 4 → kind_number (kind_of n) ≡ n
kind_number-of zero h = refl
kind_number-of (suc zero) h = refl
kind_number-of (suc (suc zero)) h = refl
kind_number-of (suc (suc (suc zero))) h = refl
kind_number-of (suc (suc (suc (suc zero)))) h = refl
kind_number-of (suc (suc (suc (suc (suc n))))) h = absurd (omega arith)

-- and a kind has a number up to 4, of which it is
kind_of-number : (k : Kind) → (kind_of (kind_number k) ≡ k) × (kind_number k ≤ 4)
kind_of-number Boolean = (refl, omega arith)
kind_of-number Byte = (refl, omega arith)
kind_of-number Short = (refl, omega arith)
kind_of-number Int = (refl, omega arith)
kind_of-number Long = (refl, omega arith)

-- a kind
pub kind-exact : Exact kind kind_in
unfolding kind_in
kind-exact = record {
  sound = λ bytes small.
      sound_last kind byte-of-4 (λ n bytes. (kind_of n, bytes)) bytes small
      (λ n rest lawful front. record {
        lawful = tt;
        front = front ∙ ap (λ k. byte k ++ rest) (sym (kind_number-of n lawful.1));
      });
  again = λ k rest lawful.
      again_then _ byte-of-4 (kind_number k) rest (omega arith, (kind_of-number k).1)
      ∙ ap (λ k. Ok (k, rest)) (kind_of-number k).0;
  faults = λ bytes small. faults_then byte-of-4 (λ n rest small. faults_none _ rest) bytes small;
}
  where
    byte-of-4 : Exact (byte_from_to 0 4) (byte_in 0 4)
    byte-of-4 = byte-exact 0 4 (omega arith)

-- the resource of a number up to 1 has that number, and a resource is that of its number
bus_number-of : (n : ℕ) → n ≤ 1 → resource_number (bus_of n) ≡ n
bus_number-of zero h = refl
bus_number-of (suc zero) h = refl
bus_number-of (suc (suc n)) h = absurd (omega arith)

bus_of-number : (bus : Bool) → (bus_of (resource_number bus) ≡ bus) × (resource_number bus ≤ 1)
bus_of-number false = (refl, omega arith)
bus_of-number true = (refl, omega arith)

-- a resource
pub resource-exact : Exact resource resource_in
unfolding resource_in
resource-exact = record {
  sound = λ bytes small.
      sound_last resource byte-of-1 (λ n bytes. (bus_of n, bytes)) bytes small
      (λ n rest lawful front. record {
        lawful = tt;
        front = front ∙ ap (λ k. byte k ++ rest) (sym (bus_number-of n lawful.1));
      });
  again = λ bus rest lawful.
      again_then _ byte-of-1 (resource_number bus) rest (omega arith, (bus_of-number bus).1)
      ∙ ap (λ bus. Ok (bus, rest)) (bus_of-number bus).0;
  faults = λ bytes small. faults_then byte-of-1 (λ n rest small. faults_none _ rest) bytes small;
}
  where
    byte-of-1 : Exact (byte_from_to 0 1) (byte_in 0 1)
    byte-of-1 = byte-exact 0 1 (omega arith)

-- an operator is that of its byte, and its byte is that of the operator
un_byte-of : (n : ℕ) → n ≤ 1 → stack.un_byte (un_of n) ≡ n
un_byte-of zero h = refl
un_byte-of (suc zero) h = refl
un_byte-of (suc (suc n)) h = absurd (omega arith)

un_of-byte : (op : UnOp) → (un_of (stack.un_byte op) ≡ op) × (stack.un_byte op ≤ 1)
un_of-byte Neg = (refl, omega arith)
un_of-byte Not = (refl, omega arith)

bin_byte-of : (n : ℕ) → n ≤ 12 → stack.bin_byte (bin_of n) ≡ n
bin_byte-of zero h = refl
bin_byte-of (suc zero) h = refl
bin_byte-of (suc (suc zero)) h = refl
bin_byte-of (suc (suc (suc zero))) h = refl
bin_byte-of (suc (suc (suc (suc zero)))) h = refl
bin_byte-of (suc (suc (suc (suc (suc zero))))) h = refl
bin_byte-of (suc (suc (suc (suc (suc (suc zero)))))) h = refl
bin_byte-of (suc (suc (suc (suc (suc (suc (suc zero))))))) h = refl
bin_byte-of (suc (suc (suc (suc (suc (suc (suc (suc zero)))))))) h = refl
bin_byte-of (suc (suc (suc (suc (suc (suc (suc (suc (suc zero))))))))) h = refl
bin_byte-of (suc (suc (suc (suc (suc (suc (suc (suc (suc (suc zero)))))))))) h = refl
bin_byte-of (suc (suc (suc (suc (suc (suc (suc (suc (suc (suc (suc zero))))))))))) h = refl
bin_byte-of (suc (suc (suc (suc (suc (suc (suc (suc (suc (suc (suc (suc zero)))))))))))) h = refl
bin_byte-of (suc (suc (suc (suc (suc (suc (suc (suc (suc (suc (suc (suc (suc n))))))))))))) h = absurd (omega arith)

bin_of-byte : (op : BinOp) → (bin_of (stack.bin_byte op) ≡ op) × (stack.bin_byte op ≤ 12)
bin_of-byte Add = (refl, omega arith)
bin_of-byte Sub = (refl, omega arith)
bin_of-byte Mul = (refl, omega arith)
bin_of-byte Div = (refl, omega arith)
bin_of-byte Rem = (refl, omega arith)
bin_of-byte Less = (refl, omega arith)
bin_of-byte LessEq = (refl, omega arith)
bin_of-byte Greater = (refl, omega arith)
bin_of-byte GreaterEq = (refl, omega arith)
bin_of-byte Equal = (refl, omega arith)
bin_of-byte NotEqual = (refl, omega arith)
bin_of-byte And = (refl, omega arith)
bin_of-byte Or = (refl, omega arith)

-- three numbers that name an output
abbrev key : Grammar PortKey
key = record {
  spelling = λ x. short x.module.0 ++ short x.task.0 ++ short x.output;
  spellable = λ x. FitsShort x.module.0 × FitsShort x.task.0 × FitsShort x.output;
  breaks = any_short ▷ any_short ▷ any_short ▷ nothing;
}

-- are read exactly
key-exact : Exact key key_in
unfolding key_in
key-exact = record {
  sound = λ bytes small.
      sound_then key (λ b. b) _ any_short-exact (λ m m0 p0 s0.
      sound_then key (λ b. short m ++ b) _ any_short-exact (λ t m1 p1 s1.
      sound_then key (λ b. short m ++ (short t ++ b)) _ any_short-exact (λ o m2 p2 s2.
      record { lawful = (fits_short p0, fits_short p1, fits_short p2); front = seq3 (short m) (short t) (short o) m2 }
      ) m1 s1) m0 s0) bytes small;
  again = λ x rest p.
      ap key_in (sym (seq3 (short x.module.0) (short x.task.0) (short x.output) rest))
      ∙ again_then _ any_short-exact x.module.0 _ (short_fits p.0)
      ∙ again_then _ any_short-exact x.task.0 _ (short_fits p.1)
      ∙ again_then _ any_short-exact x.output rest (short_fits p.2);
  faults = λ bytes small.
      faults_then any_short-exact (λ m b s. faults_then any_short-exact (λ t b s. faults_then any_short-exact (λ o b s. faults_none _ b) b s) b s) bytes small;
}

-- the first byte of a stack instruction
byte-of-9 : Exact (byte_from_to 0 9) (byte_in 0 9)
byte-of-9 = byte-exact 0 9 (omega arith)

-- the operands of a stack instruction
operands-sound : (n : ℕ) → n ≤ 9 → (bytes : List ℕ) → AreBytes bytes →
    IfOk (operands_in n bytes) (λ r. Reads stack_instr r.0 (n ∷ bytes) r.1)
unfolding operands_in rep_in
operands-sound zero h bytes small =
    sound_then stack_instr (λ b. 0 ∷ b) _ (long-exact Long) (λ v rest p s. record { lawful = p; front = refl }) bytes small
operands-sound (suc zero) h bytes small =
    sound_then stack_instr (λ b. 1 ∷ b) _ any_short-exact (λ k rest p s. record { lawful = fits_short p; front = refl }) bytes small
operands-sound (suc (suc zero)) h bytes small =
    sound_then stack_instr (λ b. 2 ∷ b) _ key-exact (λ x rest p s. record { lawful = p; front = refl }) bytes small
operands-sound (suc (suc (suc zero))) h bytes small =
    sound_then stack_instr (λ b. 3 ∷ b) _ any_short-exact (λ k rest p s. record { lawful = fits_short p; front = refl }) bytes small
operands-sound (suc (suc (suc (suc zero)))) h bytes small =
    sound_then stack_instr (λ b. 4 ∷ b) _ any_short-exact (λ k rest p s. record { lawful = fits_short p; front = refl }) bytes small
operands-sound (suc (suc (suc (suc (suc zero))))) h bytes small =
    sound_then stack_instr (λ b. 5 ∷ b) _ (byte-exact 0 1 (omega arith))
    (λ op rest p s. record { lawful = tt; front = ap (λ k. 5 ∷ k ∷ rest) (sym (un_byte-of op p.1)) }) bytes small
operands-sound (suc (suc (suc (suc (suc (suc zero)))))) h bytes small =
    sound_then stack_instr (λ b. 6 ∷ b) _ (byte-exact 0 12 (omega arith))
    (λ op rest p s. record { lawful = tt; front = ap (λ k. 6 ∷ k ∷ rest) (sym (bin_byte-of op p.1)) }) bytes small
operands-sound (suc (suc (suc (suc (suc (suc (suc zero))))))) h bytes small =
    sound_then stack_instr (λ b. 7 ∷ b) _ any_word-exact (λ k rest p s. record { lawful = fits_word p; front = refl }) bytes small
operands-sound (suc (suc (suc (suc (suc (suc (suc (suc zero)))))))) h bytes small =
    sound_then stack_instr (λ b. 8 ∷ b) _ any_word-exact (λ k rest p s. record { lawful = fits_word p; front = refl }) bytes small
operands-sound (suc (suc (suc (suc (suc (suc (suc (suc (suc zero))))))))) h bytes small =
    sound_then stack_instr (λ b. 9 ∷ b) _ any_short-exact
    (λ n m p s. sound_then stack_instr (λ b. 9 ∷ (short n ++ b)) _ any_word-exact
    (λ k rest q t. record { lawful = (fits_short p, fits_word q); front = refl }) m s) bytes small
operands-sound (suc (suc (suc (suc (suc (suc (suc (suc (suc (suc n)))))))))) h bytes small = absurd (omega arith)

-- where they are broken
operands-faults : (n : ℕ) (bytes : List ℕ) → AreBytes bytes → Faults (stack_operands n) bytes (operands_in n bytes)
unfolding operands_in rep_in
operands-faults zero bytes small = faults_then (long-exact Long) (λ v rest s. faults_none _ rest) bytes small
operands-faults (suc zero) bytes small = faults_then any_short-exact (λ k rest s. faults_none _ rest) bytes small
operands-faults (suc (suc zero)) bytes small =
    kept_faults (λ x rest. (Load (Port x), rest)) (key-exact.faults bytes small)
operands-faults (suc (suc (suc zero))) bytes small = faults_then any_short-exact (λ k rest s. faults_none _ rest) bytes small
operands-faults (suc (suc (suc (suc zero)))) bytes small =
    faults_then any_short-exact (λ k rest s. faults_none _ rest) bytes small
operands-faults (suc (suc (suc (suc (suc zero))))) bytes small =
    faults_then (byte-exact 0 1 (omega arith)) (λ op rest s. faults_none _ rest) bytes small
operands-faults (suc (suc (suc (suc (suc (suc zero)))))) bytes small =
    faults_then (byte-exact 0 12 (omega arith)) (λ op rest s. faults_none _ rest) bytes small
operands-faults (suc (suc (suc (suc (suc (suc (suc zero))))))) bytes small =
    faults_then any_word-exact (λ n rest s. faults_none _ rest) bytes small
operands-faults (suc (suc (suc (suc (suc (suc (suc (suc zero)))))))) bytes small =
    faults_then any_word-exact (λ n rest s. faults_none _ rest) bytes small
operands-faults (suc (suc (suc (suc (suc (suc (suc (suc (suc n))))))))) bytes small =
    faults_then any_short-exact (λ n b s. faults_then any_word-exact (λ k b s. faults_none _ b) b s) bytes small

-- a spelled stack instruction is read again
instr-again : (i : Instr) (rest : List ℕ) → stack.IsInRange i → stack_instr_in (stack.instr_bytes i ++ rest) ≡ Ok (i, rest)
unfolding stack_instr_in operands_in rep_in
instr-again (Const v) rest p = again_then operands_in byte-of-9 0 (long v ++ rest) (omega arith, omega arith) ∙ again_then _ (long-exact Long) v rest p
instr-again (Load (Sensor k)) rest p =
    again_then operands_in byte-of-9 1 (short k ++ rest) (omega arith, omega arith) ∙ again_then _ any_short-exact k rest (short_fits p)
instr-again (Load (Port x)) rest p =
    again_then operands_in byte-of-9 2 (key.spelling x ++ rest) (omega arith, omega arith) ∙ again_then _ key-exact x rest p
instr-again (Load (Cell k)) rest p =
    again_then operands_in byte-of-9 3 (short k ++ rest) (omega arith, omega arith) ∙ again_then _ any_short-exact k rest (short_fits p)
instr-again (Store k) rest p =
    again_then operands_in byte-of-9 4 (short k ++ rest) (omega arith, omega arith) ∙ again_then _ any_short-exact k rest (short_fits p)
instr-again (Un op) rest p =
    again_then operands_in byte-of-9 5 (byte (stack.un_byte op) ++ rest) (omega arith, omega arith)
    ∙ again_then _ (byte-exact 0 1 (omega arith)) (stack.un_byte op) rest (omega arith, (un_of-byte op).1)
    ∙ ap (λ op. Ok (Un op, rest)) (un_of-byte op).0
instr-again (Bin op) rest p =
    again_then operands_in byte-of-9 6 (byte (stack.bin_byte op) ++ rest) (omega arith, omega arith)
    ∙ again_then _ (byte-exact 0 12 (omega arith)) (stack.bin_byte op) rest (omega arith, (bin_of-byte op).1)
    ∙ ap (λ op. Ok (Bin op, rest)) (bin_of-byte op).0
instr-again (Jz n) rest p =
    again_then operands_in byte-of-9 7 (word n ++ rest) (omega arith, omega arith) ∙ again_then _ any_word-exact n rest (word_fits p)
instr-again (Jmp n) rest p =
    again_then operands_in byte-of-9 8 (word n ++ rest) (omega arith, omega arith) ∙ again_then _ any_word-exact n rest (word_fits p)
instr-again (Rep n k) rest p =
    again_then operands_in byte-of-9 9 (short n ++ (word k ++ rest)) (omega arith, omega arith)
    ∙ again_then _ any_short-exact n (word k ++ rest) (short_fits p.0) ∙ again_then _ any_word-exact k rest (word_fits p.1)

-- a stack instruction
pub stack_instr-exact : Exact stack_instr stack_instr_in
unfolding stack_instr_in
stack_instr-exact = record {
  sound = λ bytes small.
      sound_then stack_instr (λ b. b) _ byte-of-9 (λ n rest p s. operands-sound n p.1 rest s) bytes small;
  again = instr-again;
  faults = λ bytes small. faults_then byte-of-9 operands-faults bytes small;
}

-- a code
pub code-exact : Exact code code_in
unfolding code_in
code-exact = record {
  sound = λ bytes small.
      sound_last code (long_listed-exact stack_instr-exact) (λ instrs bytes. (record { instrs = instrs }, bytes)) bytes small
      (λ instrs rest p front. record { lawful = record { count = p.0; instrs = p.1 }; front = front });
  again = λ x rest p. again_then _ (long_listed-exact stack_instr-exact) x.instrs rest (p.count, p.instrs);
  faults = λ bytes small.
      faults_then (long_listed-exact stack_instr-exact) (λ n rest small. faults_none _ rest) bytes small;
}

-- a phase
byte-of-1-to-4 : Exact (byte_from_to 1 4) (byte_in 1 4)
byte-of-1-to-4 = byte-exact 1 4 (omega arith)

-- a block
pub block-exact : Exact block block_in
unfolding block_in
block-exact = record {
  sound = λ bytes small.
      sound_then block (λ b. b) _ byte-of-1-to-4 (λ phase m0 p0 s0.
      sound_then block (λ b. byte phase ++ b) _ (long_listed-exact einstr-exact) (λ code m1 p1 s1.
      record { lawful = record { at_least = p0.0; at_most = p0.1; count = p1.0; code = p1.1 }; front = seq2 (byte phase) (long_list einstr.spelling code) m1 }
      ) m0 s0) bytes small;
  again = λ x rest p.
      ap block_in (sym (seq2 (byte x.phase) (long_list einstr.spelling x.code) rest))
      ∙ again_then _ byte-of-1-to-4 x.phase _ (p.at_least, p.at_most)
      ∙ again_then _ (long_listed-exact einstr-exact) x.code rest ((p.count, p.code));
  faults = λ bytes small.
      faults_then byte-of-1-to-4 (λ phase b s. faults_then (long_listed-exact einstr-exact) (λ code b s. faults_none _ b) b s) bytes small;
}
