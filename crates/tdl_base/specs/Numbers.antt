-- The arithmetic of expressions, on whole numbers without a bound.
use Rattle.std.specs.Prelude.{◌≡◌, ℕ, zero, ◌-◌, ◌^◌, ◌<◌, Bool, true, false, not, ◌&&◌, ◌||◌, ◌⊎◌, ℤ, pos, neg_ℤ, ◌+ℤ◌, ◌-ℤ◌, ◌*ℤ◌, ◌≤ℤ◌, ◌<ℤ◌, unsigned_abs, int_lt, int_le, int_div, int_rem}
use Rattle.std.specs.Int.{int_wrap, w8, w16, w32, w64}
use Rattle.std.specs.Ordering.{int_eq}
use Rattle.tdl_base.specs.declared.kinds.Kind.{Kind}
use Rattle.tdl_base.specs.declared.kinds.Kind.TheVariants.{Boolean, Byte, Short, Int, Long}
use Rattle.tdl_base.specs.declared.arithmetic.UnOp.{UnOp}
use Rattle.tdl_base.specs.declared.arithmetic.UnOp.TheVariants.{Neg, Not}
use Rattle.tdl_base.specs.declared.arithmetic.BinOp.{BinOp}
use Rattle.tdl_base.specs.declared.arithmetic.BinOp.TheVariants.{Add, Sub, Mul, Div, Rem, Less, LessEq, Greater, GreaterEq, Equal, NotEqual, And, Or}

-- the number from -2^63 to 2^63 - 1 that differs from v by a multiple of 2^64
abbrev pub wrapped : ℤ → ℤ
wrapped v = int_wrap w64 v

-- a truth as a number
abbrev pub truth : Bool → ℤ
truth false = pos 0
truth true = pos 1

-- a number counts as true where it is not 0
abbrev pub is_true : ℤ → Bool
is_true v = not (int_eq v (pos 0))

-- the low bits of v, with the sign that they have in the kind; of a boolean its truth
abbrev pub narrowed : Kind → ℤ → ℤ
narrowed Boolean v = truth (is_true v)
narrowed Byte v = int_wrap w8 v
narrowed Short v = int_wrap w16 v
narrowed Int v = int_wrap w32 v
narrowed Long v = int_wrap w64 v

-- how many bytes a number of the kind takes
abbrev pub width_of : Kind → ℕ
width_of Boolean = 1
width_of Byte = 1
width_of Short = 2
width_of Int = 4
width_of Long = 8

-- a divided by b, rounded toward 0; 0 where b is 0
abbrev pub quotient : ℤ → ℤ → ℤ
quotient a (pos zero) = pos 0
quotient a b = int_div a b

-- what that division leaves; 0 where b is 0
abbrev pub remainder : ℤ → ℤ → ℤ
remainder a (pos zero) = pos 0
remainder a b = int_rem a b

-- what an operator with one operand gives on whole numbers
abbrev pub exact_unary : UnOp → ℤ → ℤ
exact_unary Neg a = neg_ℤ a
exact_unary Not a = truth (not (is_true a))

-- what an operator with two operands gives on whole numbers
abbrev pub exact_binary : BinOp → ℤ → ℤ → ℤ
exact_binary Add a b = a +ℤ b
exact_binary Sub a b = a -ℤ b
exact_binary Mul a b = a *ℤ b
exact_binary Div a b = quotient a b
exact_binary Rem a b = remainder a b
exact_binary Less a b = truth (int_lt a b)
exact_binary LessEq a b = truth (int_le a b)
exact_binary Greater a b = truth (int_lt b a)
exact_binary GreaterEq a b = truth (int_le b a)
exact_binary Equal a b = truth (int_eq a b)
exact_binary NotEqual a b = truth (not (int_eq a b))
exact_binary And a b = truth (is_true a && is_true b)
exact_binary Or a b = truth (is_true a || is_true b)

-- what an operator with one operand gives in 64 bits
abbrev pub unary : UnOp → ℤ → ℤ
unary op a = wrapped (exact_unary op a)

-- what an operator with two operands gives in 64 bits
abbrev pub binary : BinOp → ℤ → ℤ → ℤ
binary op a b = wrapped (exact_binary op a b)

-- ---- what these definitions are pinned by

-- the least number of 64 bits
abbrev pub least : ℤ
least = neg_ℤ (pos (2 ^ 63))

-- v is a signed number of k bits, from -2^(k-1) to 2^(k-1) - 1
abbrev pub IsOfBits : ℕ → ℤ → Type 0
IsOfBits k v = (neg_ℤ (pos (2 ^ (k - 1))) ≤ℤ v) × (v <ℤ pos (2 ^ (k - 1)))

-- v is a number of the kind
abbrev pub IsOfKind : Kind → ℤ → Type 0
IsOfKind Boolean v = (v ≡ pos 0) ⊎ (v ≡ pos 1)
IsOfKind Byte v = IsOfBits 8 v
IsOfKind Short v = IsOfBits 16 v
IsOfKind Int v = IsOfBits 32 v
IsOfKind Long v = IsOfBits 64 v

-- a and b differ by a multiple of n
abbrev pub DifferByMultiple : ℕ → ℤ → ℤ → Type 0
DifferByMultiple n a b = (k : ℤ) × (a ≡ b +ℤ k *ℤ pos n)

-- q is a divided by b, rounded toward 0, and r is what is left: it is smaller than b and has the sign of a
pub record DividesTowardZero (a b q r : ℤ) : Type 0 where
  pub parts : a ≡ q *ℤ b +ℤ r
  pub smaller : unsigned_abs r < unsigned_abs b
  pub not_negative : pos 0 ≤ℤ a → pos 0 ≤ℤ r
  pub not_positive : a ≤ℤ pos 0 → r ≤ℤ pos 0
