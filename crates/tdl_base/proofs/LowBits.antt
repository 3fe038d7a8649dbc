-- What the low bits of a 64-bit number are as a signed number of fewer bits.
use Rattle.std.proofs.Common.{◌≡◌, ◌%◌, ℤ, pos, negsuc, refl, ap, arith}
use Rattle.std.specs.Prelude.{FitsSigned}
use Rattle.std.specs.Int.{int_wrap, cast_signed, cast_unsigned, w8, w16, w32, w64}

-- the lowest byte, read with its sign, is the number wrapped to 8 bits
pub low_byte_is : (v : ℤ) → FitsSigned w64 v → cast_signed w8 (cast_unsigned w64 v % 256) ≡ int_wrap w8 v
unfolding int_wrap
low_byte_is (pos n) fits = refl
low_byte_is (negsuc n) fits = ap (cast_signed w8) (omega (arith, fits.sfits))

-- the two lowest bytes, likewise
pub low_short_is : (v : ℤ) → FitsSigned w64 v → cast_signed w16 (cast_unsigned w64 v % 65536) ≡ int_wrap w16 v
unfolding int_wrap
low_short_is (pos n) fits = refl
low_short_is (negsuc n) fits = ap (cast_signed w16) (omega (arith, fits.sfits))

-- the four lowest bytes, likewise
pub low_int_is : (v : ℤ) → FitsSigned w64 v → cast_signed w32 (cast_unsigned w64 v % 4294967296) ≡ int_wrap w32 v
unfolding int_wrap
low_int_is (pos n) fits = refl
low_int_is (negsuc n) fits = ap (cast_signed w32) (omega (arith, fits.sfits))
