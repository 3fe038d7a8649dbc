-- What pins wrapping, narrowing and division.
use Rattle.std.proofs.Common.{◌≡◌, ◌≢◌, ℕ, zero, suc, ◌+◌, ◌-◌, ◌*◌, ◌/◌, ◌^◌, ◌<◌, Bool, true, false, ltb, ℤ, pos, negsuc, ◌+ℤ◌, ◌*ℤ◌, ◌≤ℤ◌, refl, sym, ap, subst, ◌∙◌, inl, inr, arith}
use Rattle.std.specs.Prelude.{unsigned_abs, int_div, int_rem}
use Rattle.std.specs.Int.{int_wrap, int_rem_euclid, cast_signed, Width, w8, w16, w32, w64}
use Rattle.std.proofs.lemmas.Int.{ints, SFits-int_wrap, quot-rem, rem_below}
use Rattle.std.proofs.Math.Nat.{div-add-mod', mod-lt, mod-le}
use lib.Pow.{pow_pos}
use borrow.Author.Differences.{up, down, sum_is_lem}
use mir.Val.{bits, hbits, sel}
use Rattle.tdl_base.specs.declared.kinds.Kind.{Kind}
use Rattle.tdl_base.specs.declared.kinds.Kind.TheVariants.{Boolean, Byte, Short, Int, Long}
use Rattle.tdl_base.specs.Numbers.{narrowed, width_of, truth, is_true, quotient, remainder, IsOfBits, IsOfKind, DifferByMultiple, DividesTowardZero}

-- a number differs from its rest by a multiple of the divisor
rest_differs : (m : ℕ) → 0 < m → (v : ℤ) → DifferByMultiple m v (int_rem_euclid v (pos m))
rest_differs m h (pos a) = (pos (a / m), omega (arith, ints, div-add-mod' a m))
rest_differs m h (negsuc a) = (negsuc (a / m), omega (arith, ints, div-add-mod' a m, mod-lt a h))

-- bits differ from what they are read as with a sign by a multiple of their number
bits_differ : (w : Width) (n : ℕ) → n < 2 ^ bits w → DifferByMultiple (2 ^ bits w) (pos n) (cast_signed w n)
bits_differ w n h = by (ltb n (2 ^ hbits w))
  where
    by : (t : Bool) → DifferByMultiple (2 ^ bits w) (pos n) (sel t (pos n) (negsuc (2 ^ bits w - suc n)))
    by true = (pos 0, omega (arith, ints))
    by false = (pos 1, omega (arith, ints))

-- a product of a sum is the sum of the products
sum_times : (j k : ℤ) (n : ℕ) → (j +ℤ k) *ℤ pos n ≡ j *ℤ pos n +ℤ k *ℤ pos n
sum_times j k n =
    let sum : up (j +ℤ k) + down j + down k ≡ up j + up k + down (j +ℤ k) = omega (arith, sum_is_lem) in
    let times = ap (λ x. x * n) sum in omega (arith, ints)

-- two differences by a multiple in a row are one
differ_twice : (n : ℕ) (a b c : ℤ) → DifferByMultiple n a c → DifferByMultiple n c b → DifferByMultiple n a b
differ_twice n a b c p q = (
  p.0 +ℤ q.0,
  p.1 ∙ ap (λ x. x +ℤ p.0 *ℤ pos n) q.1
      ∙ joined (p.0 *ℤ pos n) (q.0 *ℤ pos n) ((p.0 +ℤ q.0) *ℤ pos n) (sum_times p.0 q.0 n),
)
  where
    joined : (x y z : ℤ) → z ≡ x +ℤ y → (b +ℤ y) +ℤ x ≡ b +ℤ z
    joined x y z e = omega (arith, ints)

-- wrapping to a width takes a multiple away
pub int_wrap_differs : (w : Width) (v : ℤ) → DifferByMultiple (2 ^ bits w) v (int_wrap w v)
unfolding int_wrap
int_wrap_differs w v =
    let some = pow_pos (bits w) in
    let rest = int_rem_euclid v (pos (2 ^ bits w)) in
    let is = not_negative (2 ^ bits w) some v in
    differ_twice (2 ^ bits w) v (int_wrap w v) rest (rest_differs (2 ^ bits w) some v)
    (subst (λ (r : ℤ). DifferByMultiple (2 ^ bits w) r (int_wrap w v)) is.0 (bits_differ w (unsigned_abs rest) is.1))
  where
    not_negative : (m : ℕ) → 0 < m → (v : ℤ) →
        (pos (unsigned_abs (int_rem_euclid v (pos m))) ≡ int_rem_euclid v (pos m))
        × (unsigned_abs (int_rem_euclid v (pos m)) < m)
    not_negative m h (pos a) = (refl, mod-lt a h)
    not_negative m h (negsuc a) = (refl, omega (arith, mod-lt a h))

-- a number wrapped to 64 bits is of 64 bits
pub int_wrap_range-64 : (v : ℤ) → IsOfBits 64 (int_wrap w64 v)
int_wrap_range-64 v = let fits = SFits-int_wrap w64 v in (omega (arith, ints), omega (arith, ints))

-- one wrapped to 32 bits is of 32 bits
pub int_wrap_range-32 : (v : ℤ) → IsOfBits 32 (int_wrap w32 v)
int_wrap_range-32 v = let fits = SFits-int_wrap w32 v in (omega (arith, ints), omega (arith, ints))

-- one wrapped to 16 bits is of 16 bits
pub int_wrap_range-16 : (v : ℤ) → IsOfBits 16 (int_wrap w16 v)
int_wrap_range-16 v = let fits = SFits-int_wrap w16 v in (omega (arith, ints), omega (arith, ints))

-- one wrapped to 8 bits is of 8 bits
pub int_wrap_range-8 : (v : ℤ) → IsOfBits 8 (int_wrap w8 v)
int_wrap_range-8 v = let fits = SFits-int_wrap w8 v in (omega (arith, ints), omega (arith, ints))

-- a truth is 0 or 1
truth_is_boolean : (t : Bool) → IsOfKind Boolean (truth t)
truth_is_boolean false = inl refl
truth_is_boolean true = inr refl

-- a narrowed number is of its kind
pub narrowed_of_kind : (kind : Kind) (v : ℤ) → IsOfKind kind (narrowed kind v)
narrowed_of_kind Boolean v = truth_is_boolean (is_true v)
narrowed_of_kind Byte v = int_wrap_range-8 v
narrowed_of_kind Short v = int_wrap_range-16 v
narrowed_of_kind Int v = int_wrap_range-32 v
narrowed_of_kind Long v = int_wrap_range-64 v

-- narrowing takes a multiple of 2 to the kind's bits away, but for a boolean
pub narrowed_differs : (kind : Kind) (v : ℤ) → kind ≢ Boolean →
    DifferByMultiple (2 ^ (8 * width_of kind)) v (narrowed kind v)
narrowed_differs Boolean v other = absurd (other refl)
narrowed_differs Byte v other = int_wrap_differs w8 v
narrowed_differs Short v other = int_wrap_differs w16 v
narrowed_differs Int v other = int_wrap_differs w32 v
narrowed_differs Long v other = int_wrap_differs w64 v

-- the rest of a number that is not negative is not negative
rest_not_negative : (a b : ℤ) → pos 0 ≤ℤ a → pos 0 ≤ℤ int_rem a b
rest_not_negative (pos a) b h = omega (arith, ints)
rest_not_negative (negsuc a) b h = absurd (omega (arith, ints))

-- the rest of a number that is not positive is not positive
rest_not_positive : (a b : ℤ) → a ≤ℤ pos 0 → int_rem a b ≤ℤ pos 0
rest_not_positive (pos a) b h = omega (arith, ints, mod-le a (unsigned_abs b))
rest_not_positive (negsuc a) b h = omega (arith, ints)

-- std's division rounds toward 0
std_divides : (a b : ℤ) → 0 < unsigned_abs b → DividesTowardZero a b (int_div a b) (int_rem a b)
std_divides a b some = record {
  parts = sym (quot-rem a b);
  smaller = rem_below a b some;
  not_negative = rest_not_negative a b;
  not_positive = rest_not_positive a b;
}

-- and so does ours, by a divisor that is not 0
pub divides_toward_zero : (a b : ℤ) → b ≢ pos 0 → DividesTowardZero a b (quotient a b) (remainder a b)
divides_toward_zero a (pos zero) other = absurd (other refl)
divides_toward_zero a (pos (suc n)) other = std_divides a (pos (suc n)) (omega arith)
divides_toward_zero a (negsuc n) other = std_divides a (negsuc n) (omega arith)
