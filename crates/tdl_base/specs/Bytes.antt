-- Numbers in bytes, the highest byte first.
use Rattle.std.specs.Prelude.{◌≡◌, ℕ, ℤ, ◌+◌, ◌^◌, ◌<◌, List, ◌++◌, length, drop, nat_lt, if◌then◌else◌, Option, Some, None}
use Rattle.std.specs.Int.{Width, byte_len, to_be_bytes, from_be_bytes, cast_unsigned, w16, w32, w64}
use Rattle.tdl_base.specs.Numbers.{IsOfBits}

-- a number in two bytes
abbrev pub short : ℕ → List ℕ
short n = to_be_bytes w16 n

-- a number in four bytes
abbrev pub word : ℕ → List ℕ
word n = to_be_bytes w32 n

-- a signed number in eight bytes, in two's complement
abbrev pub long : ℤ → List ℕ
long v = to_be_bytes w64 (cast_unsigned w64 v)

-- the number in the first bytes, as many as the width says; none where they are fewer
abbrev pub number_at : Width → List ℕ → Option ℕ
number_at w bytes = if nat_lt (length bytes) (byte_len w) then None else Some (from_be_bytes w bytes)

-- the two numbers in the first bytes, one after the other; none where they are fewer
abbrev pub pair_at : Width → Width → List ℕ → Option (ℕ × ℕ)
pair_at v w bytes =
    if nat_lt (length bytes) (byte_len v + byte_len w) then None
    else Some (from_be_bytes v bytes, from_be_bytes w (drop (byte_len v) bytes))

-- the number fits two bytes
abbrev pub FitsShort : ℕ → Type 0
FitsShort n = n < 2 ^ 16

-- the number fits four bytes
abbrev pub FitsWord : ℕ → Type 0
FitsWord n = n < 2 ^ 32

-- the signed number fits eight bytes
abbrev pub FitsLong : ℤ → Type 0
FitsLong v = IsOfBits 64 v

-- where x and y are such that P, and their spellings begin one text, Q holds of x and y, and the same follows both
pub record Tells {X : Type 0} (P : X → Type 0) (spelling : X → List ℕ) (Q : X → X → Type 0) : Type 0 where
  pub tell : (x y : X) (r s : List ℕ) → P x → P y → spelling x ++ r ≡ spelling y ++ s → Q x y × (r ≡ s)

-- no spelling of what is such that P begins another one
abbrev pub IsPrefixFree : {X : Type 0} → (X → Type 0) → (X → List ℕ) → Type 0
IsPrefixFree P spelling = Tells P spelling (λ x y. x ≡ y)
