-- No spelling of an instruction begins another one.
use Rattle.std.proofs.Common.{◌≡◌, ℕ, List, [], ◌∷◌, ◌++◌, drop, get_or, refl, sym, ap, ◌∙◌, arith}
use Rattle.tdl_base.specs.Bytes.{short, word, FitsShort, FitsWord, IsPrefixFree}
use Rattle.tdl_base.specs.declared.arithmetic.UnOp.{UnOp}
use Rattle.tdl_base.specs.declared.arithmetic.UnOp.TheVariants.{Neg, Not}
use Rattle.tdl_base.specs.declared.arithmetic.BinOp.{BinOp}
use Rattle.tdl_base.specs.declared.arithmetic.BinOp.TheVariants.{Add, Sub, Mul, Div, Rem, Less, LessEq, Greater, GreaterEq, Equal, NotEqual, And, Or}
use Rattle.tdl_base.specs.declared.numbers.Place.TheVariants.{Sensor, Port, Cell}
use Rattle.tdl_base.specs.declared.numbers.PortKey.{PortKey}
use Rattle.tdl_base.proofs.PrefixFree.{short-prefix_free, word-prefix_free, long-prefix_free, part, in_turn, told_as}
use Rattle.tdl_stack.specs.declared.instr.Instr.{Instr}
use Rattle.tdl_stack.specs.declared.instr.Instr.TheVariants.{Const, Load, Store, Un, Bin, Jz, Jmp, Rep}
use Rattle.tdl_stack.specs.Spelling.{un_byte, bin_byte, instr_bytes, IsInRange}

-- the operator of a byte
abbrev un_of : ℕ → UnOp
un_of byte = get_or (Neg ∷ Not ∷ []) byte Neg

-- is the one that the byte spells
un_again : (op : UnOp) → un_of (un_byte op) ≡ op
un_again Neg = refl
un_again Not = refl

-- so is one with two operands
abbrev bin_of : ℕ → BinOp
bin_of byte =
    get_or (Add ∷ Sub ∷ Mul ∷ Div ∷ Rem ∷ Less ∷ LessEq ∷ Greater ∷ GreaterEq ∷ Equal ∷ NotEqual ∷ And ∷ Or ∷ []) byte
    Add

bin_again : (op : BinOp) → bin_of (bin_byte op) ≡ op
bin_again Add = refl
bin_again Sub = refl
bin_again Mul = refl
bin_again Div = refl
bin_again Rem = refl
bin_again Less = refl
bin_again LessEq = refl
bin_again Greater = refl
bin_again GreaterEq = refl
bin_again Equal = refl
bin_again NotEqual = refl
bin_again And = refl
bin_again Or = refl

-- the three numbers of a key fit
abbrev KeyFits : PortKey → Type 0
KeyFits key = FitsShort key.module.0 × FitsShort key.task.0 × FitsShort key.output

-- a key is told by its three numbers in turn
key-prefix_free : IsPrefixFree KeyFits (λ (key : PortKey). short key.module.0 ++ short key.task.0 ++ short key.output)
key-prefix_free =
    told_as (in_turn (in_turn (part (λ (key : PortKey). key.module.0) short-prefix_free (λ key fits. fits.0))
    (part (λ (key : PortKey). key.task.0) short-prefix_free (λ key fits. fits.1)))
    (part (λ (key : PortKey). key.output) short-prefix_free (λ key fits. fits.2)))
    (λ x y same i. record { «module» = record { 0 = same.0.0 i }; task = record { 0 = same.0.1 i }; output = same.1 i })

-- two numbers in turn
rep-prefix_free : IsPrefixFree (λ (rep : ℕ × ℕ). FitsShort rep.0 × FitsWord rep.1) (λ rep. short rep.0 ++ word rep.1)
rep-prefix_free =
    told_as (in_turn (part (λ (rep : ℕ × ℕ). rep.0) short-prefix_free (λ rep fits. fits.0))
    (part (λ (rep : ℕ × ℕ). rep.1) word-prefix_free (λ rep fits. fits.1)))
    (λ x y same i. (same.0 i, same.1 i))

-- the first byte
abbrev first : List ℕ → ℕ
first bytes = get_or bytes 0 0

-- two instructions are told by their first bytes, or by their operands
tell_instr : (i j : Instr) (r s : List ℕ) → IsInRange i → IsInRange j → instr_bytes i ++ r ≡ instr_bytes j ++ s →
    (i ≡ j) × (r ≡ s)
tell_instr (Const u) (Const v) r s p q e = let t =
    long-prefix_free.tell u v r s p q (ap (drop 1) e) in (ap Const t.0, t.1)
tell_instr (Load (Sensor j)) (Load (Sensor k)) r s p q e = let t =
    short-prefix_free.tell j k r s p q (ap (drop 1) e) in (ap (λ n. Load (Sensor n)) t.0, t.1)
tell_instr (Load (Port j)) (Load (Port k)) r s p q e = let t =
    key-prefix_free.tell j k r s p q (ap (drop 1) e) in (ap (λ key. Load (Port key)) t.0, t.1)
tell_instr (Load (Cell j)) (Load (Cell k)) r s p q e = let t =
    short-prefix_free.tell j k r s p q (ap (drop 1) e) in (ap (λ n. Load (Cell n)) t.0, t.1)
tell_instr (Store j) (Store k) r s p q e = let t =
    short-prefix_free.tell j k r s p q (ap (drop 1) e) in (ap Store t.0, t.1)
tell_instr (Un a) (Un b) r s p q e =
    (ap Un (sym (un_again a) ∙ ap (λ (bytes : List ℕ). un_of (get_or bytes 1 0)) e ∙ un_again b), ap (drop 2) e)
tell_instr (Bin a) (Bin b) r s p q e =
    (ap Bin (sym (bin_again a) ∙ ap (λ (bytes : List ℕ). bin_of (get_or bytes 1 0)) e ∙ bin_again b), ap (drop 2) e)
tell_instr (Jz m) (Jz n) r s p q e = let t = word-prefix_free.tell m n r s p q (ap (drop 1) e) in (ap Jz t.0, t.1)
tell_instr (Jmp m) (Jmp n) r s p q e = let t = word-prefix_free.tell m n r s p q (ap (drop 1) e) in (ap Jmp t.0, t.1)
tell_instr (Rep m j) (Rep n k) r s p q e =
    let t = rep-prefix_free.tell (m, j) (n, k) r s p q (ap (drop 1) e) in
    (ap (λ (rep : ℕ × ℕ). Rep rep.0 rep.1) t.0, t.1)
tell_instr i (Load (Sensor k)) r s p q e = absurd (omega (arith, ap first e))
tell_instr i (Load (Port k)) r s p q e = absurd (omega (arith, ap first e))
tell_instr i (Load (Cell k)) r s p q e = absurd (omega (arith, ap first e))
tell_instr i j r s p q e = absurd (omega (arith, ap first e))

-- no spelling begins another one
pub instr-prefix_free : IsPrefixFree IsInRange instr_bytes
instr-prefix_free = record { tell = tell_instr }
