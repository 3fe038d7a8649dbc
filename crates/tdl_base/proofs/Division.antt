-- The quotient of two 64-bit numbers, as the machine computes it.
use Rattle.std.proofs.Common.{◌≡◌, ◌≢◌, ℕ, zero, suc, ◌≤◌, ◌^◌, ℤ, pos, negsuc, neg_ℤ, refl, ap, ◌∙◌, arith}
use Rattle.std.specs.Prelude.{FitsSigned, unsigned_abs, int_div}
use Rattle.std.specs.Int.{int_wrap, cast_signed, cast_unsigned, w64}
use Rattle.std.proofs.Math.Nat.{div-le_self}
use Rattle.tdl_base.specs.Numbers.{quotient, wrapped}

-- a number and its negative are equal without their signs
unsigned_abs-neg : (n : ℕ) → unsigned_abs (neg_ℤ (pos n)) ≡ n
unsigned_abs-neg zero = refl
unsigned_abs-neg (suc n) = refl

-- a 64-bit number is at most 2^63, without its sign
unsigned_abs-fits : (a : ℤ) → FitsSigned w64 a → unsigned_abs a ≤ 2 ^ 63
unsigned_abs-fits (pos n) fits = omega (arith, fits.sfits)
unsigned_abs-fits (negsuc n) fits = omega (arith, fits.sfits)

-- a quotient is no greater than the dividend, without their signs
pub unsigned_abs-int_div : (a b : ℤ) → unsigned_abs (int_div a b) ≤ unsigned_abs a
unsigned_abs-int_div (pos a) (pos b) = div-le_self a b
unsigned_abs-int_div (pos a) (negsuc b) = omega (arith, unsigned_abs-neg, div-le_self a (suc b))
unsigned_abs-int_div (negsuc a) (pos b) = omega (arith, unsigned_abs-neg, div-le_self (suc a) b)
unsigned_abs-int_div (negsuc a) (negsuc b) = div-le_self (suc a) (suc b)

-- the bits of a number from -2^63 to 2^63, read with a sign, are the number wrapped
pub wrapped-bits : (z : ℤ) → unsigned_abs z ≤ 2 ^ 63 → cast_signed w64 (cast_unsigned w64 z) ≡ wrapped z
unfolding int_wrap
wrapped-bits (pos n) h = ap (cast_signed w64) (omega arith)
wrapped-bits (negsuc n) h = ap (cast_signed w64) (omega arith)

-- by a divisor that is not 0, the quotient is std's
int_div-nonzero : (a b : ℤ) → cast_unsigned w64 b ≢ 0 → int_div a b ≡ quotient a b
int_div-nonzero a (pos zero) nonzero = absurd (nonzero refl)
int_div-nonzero a (pos (suc n)) nonzero = refl
int_div-nonzero a (negsuc n) nonzero = refl

-- by a divisor that is not 0, the machine's quotient is the quotient wrapped
pub wrapped-quotient : (a b : ℤ) → FitsSigned w64 a → cast_unsigned w64 b ≢ 0 →
    cast_signed w64 (cast_unsigned w64 (int_div a b)) ≡ wrapped (quotient a b)
wrapped-quotient a b fits nonzero =
    wrapped-bits (int_div a b) (omega (arith, unsigned_abs-int_div a b, unsigned_abs-fits a fits))
    ∙ ap wrapped (int_div-nonzero a b nonzero)
