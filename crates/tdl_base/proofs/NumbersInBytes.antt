-- Numbers that are read from bytes: what they spell, and what was spelled.
use Rattle.std.proofs.Common.{◌≡◌, ℕ, zero, suc, pos, ◌^◌, ◌<◌, ◌≤◌, true, false, List, [], ◌∷◌, ◌++◌, length, drop, get_or, nat_lt, refl, ap, ap₂, arith}
use Rattle.std.specs.Prelude.{Some}
use Rattle.std.specs.Int.{w16, w32, w64, from_be_bytes}
use Rattle.std.proofs.lemmas.Nat.{be_bytes_2, be_bytes_4, from_be_bytes-to_be_bytes_2, from_be_bytes-to_be_bytes_4, from_be_bytes-to_be_bytes_8}
use Rattle.std.proofs.lemmas.Bool.Decides.{nat_tests}
use Rattle.tdl_base.specs.Bytes.{short, word, long, number_at, pair_at, FitsShort, FitsWord}

-- each is below 256
abbrev pub AreBytes : List ℕ → Type 0
AreBytes bytes = (k : ℕ) → get_or bytes k 0 < 256

-- what follows a byte is bytes
pub bytes_after : (b : ℕ) (bytes : List ℕ) → AreBytes (b ∷ bytes) → AreBytes bytes
bytes_after b bytes small = λ k. small (suc k)

-- so many bytes are there
pub enough : (m n : ℕ) → n ≤ m → nat_lt m n ≡ false
enough m n h = grind (arith, nat_tests)

-- so many bytes are not there
pub too_few : (m n : ℕ) → m < n → nat_lt m n ≡ true
too_few m n h = grind (arith, nat_tests)

-- fewer are there where the test says so
pub is_fewer : (m n : ℕ) → nat_lt m n ≡ true → m < n
is_fewer m n e = grind (arith, nat_tests)

-- two bytes spell the number that they are read as
pub short_of : (a b : ℕ) (more : List ℕ) → AreBytes (a ∷ b ∷ more) →
    short (from_be_bytes w16 (a ∷ b ∷ more)) ≡ a ∷ b ∷ []
short_of a b more small = be_bytes_2 (a ∷ b ∷ []) (from_be_bytes w16 (a ∷ b ∷ more)) refl two refl
  where
    two : AreBytes (a ∷ b ∷ [])
    two zero = small 0
    two (suc zero) = small 1
    two (suc (suc k)) = omega arith

-- and that number is in range
pub short_fits : (a b : ℕ) (more : List ℕ) → AreBytes (a ∷ b ∷ more) → from_be_bytes w16 (a ∷ b ∷ more) < 2 ^ 16
short_fits a b more small = omega (arith, small 0, small 1)

-- four bytes spell the number that they are read as
pub word_of : (a b c d : ℕ) (more : List ℕ) → AreBytes (a ∷ b ∷ c ∷ d ∷ more) →
    word (from_be_bytes w32 (a ∷ b ∷ c ∷ d ∷ more)) ≡ a ∷ b ∷ c ∷ d ∷ []
word_of a b c d more small = be_bytes_4 (a ∷ b ∷ c ∷ d ∷ []) (from_be_bytes w32 (a ∷ b ∷ c ∷ d ∷ more)) refl four refl
  where
    four : AreBytes (a ∷ b ∷ c ∷ d ∷ [])
    four zero = small 0
    four (suc zero) = small 1
    four (suc (suc zero)) = small 2
    four (suc (suc (suc zero))) = small 3
    four (suc (suc (suc (suc k)))) = omega arith

-- and that number is in range
pub word_fits : (a b c d : ℕ) (more : List ℕ) → AreBytes (a ∷ b ∷ c ∷ d ∷ more) →
    from_be_bytes w32 (a ∷ b ∷ c ∷ d ∷ more) < 2 ^ 32
word_fits a b c d more small = omega (arith, small 0, small 1, small 2, small 3)

-- two bytes are the spelling of a number
pub two_spell : (bytes : List ℕ) → length bytes ≡ 2 → AreBytes bytes →
    (short (from_be_bytes w16 bytes) ≡ bytes) × (from_be_bytes w16 bytes < 2 ^ 16)
two_spell bytes len small = (be_bytes_2 bytes (from_be_bytes w16 bytes) len small refl, omega (arith, small 0, small 1))

-- so are four
pub four_spell : (bytes : List ℕ) → length bytes ≡ 4 → AreBytes bytes →
    (word (from_be_bytes w32 bytes) ≡ bytes) × (from_be_bytes w32 bytes < 2 ^ 32)
four_spell bytes len small =
    (be_bytes_4 bytes (from_be_bytes w32 bytes) len small refl, omega (arith, small 0, small 1, small 2, small 3))

-- six bytes are the spelling of two numbers
pub six_spell : (bytes : List ℕ) → length bytes ≡ 6 → AreBytes bytes →
    (short (from_be_bytes w16 bytes) ++ word (from_be_bytes w32 (drop 2 bytes)) ≡ bytes)
    × (from_be_bytes w16 bytes < 2 ^ 16) × (from_be_bytes w32 (drop 2 bytes) < 2 ^ 32)
six_spell [] len small = absurd (omega arith)
six_spell (a ∷ []) len small = absurd (omega arith)
six_spell (a ∷ b ∷ []) len small = absurd (omega arith)
six_spell (a ∷ b ∷ c ∷ []) len small = absurd (omega arith)
six_spell (a ∷ b ∷ c ∷ d ∷ []) len small = absurd (omega arith)
six_spell (a ∷ b ∷ c ∷ d ∷ e ∷ []) len small = absurd (omega arith)
six_spell (a ∷ b ∷ c ∷ d ∷ e ∷ f ∷ []) len small =
    let after : AreBytes (c ∷ d ∷ e ∷ f ∷ []) = λ k. small (suc (suc k)) in (
      ap₂ (λ (s t : List ℕ). s ++ t) (short_of a b (c ∷ d ∷ e ∷ f ∷ []) small) (word_of c d e f [] after),
      short_fits a b (c ∷ d ∷ e ∷ f ∷ []) small,
      word_fits c d e f [] after,
    )
six_spell (a ∷ b ∷ c ∷ d ∷ e ∷ f ∷ g ∷ more) len small = absurd (omega arith)

-- so are eight
pub eight_spell : (bytes : List ℕ) → length bytes ≡ 8 → AreBytes bytes →
    (word (from_be_bytes w32 bytes) ++ word (from_be_bytes w32 (drop 4 bytes)) ≡ bytes)
    × (from_be_bytes w32 bytes < 2 ^ 32) × (from_be_bytes w32 (drop 4 bytes) < 2 ^ 32)
eight_spell [] len small = absurd (omega arith)
eight_spell (a ∷ []) len small = absurd (omega arith)
eight_spell (a ∷ b ∷ []) len small = absurd (omega arith)
eight_spell (a ∷ b ∷ c ∷ []) len small = absurd (omega arith)
eight_spell (a ∷ b ∷ c ∷ d ∷ []) len small = absurd (omega arith)
eight_spell (a ∷ b ∷ c ∷ d ∷ e ∷ []) len small = absurd (omega arith)
eight_spell (a ∷ b ∷ c ∷ d ∷ e ∷ f ∷ []) len small = absurd (omega arith)
eight_spell (a ∷ b ∷ c ∷ d ∷ e ∷ f ∷ g ∷ []) len small = absurd (omega arith)
eight_spell (a ∷ b ∷ c ∷ d ∷ e ∷ f ∷ g ∷ h ∷ []) len small =
    let after : AreBytes (e ∷ f ∷ g ∷ h ∷ []) = λ k. small (suc (suc (suc (suc k)))) in (
      ap₂ (λ (s t : List ℕ). s ++ t) (word_of a b c d (e ∷ f ∷ g ∷ h ∷ []) small) (word_of e f g h [] after),
      word_fits a b c d (e ∷ f ∷ g ∷ h ∷ []) small,
      word_fits e f g h [] after,
    )
eight_spell (a ∷ b ∷ c ∷ d ∷ e ∷ f ∷ g ∷ h ∷ i ∷ more) len small = absurd (omega arith)

-- a number of two bytes is read again, whatever follows
pub short_again : (n : ℕ) (rest : List ℕ) → FitsShort n → number_at w16 (short n ++ rest) ≡ Some n
short_again n rest fits =
    rw (enough (length (short n ++ rest)) 2 (omega arith)) (ap Some (from_be_bytes-to_be_bytes_2 n fits))

-- so is one of four bytes
pub word_again : (n : ℕ) (rest : List ℕ) → FitsWord n → number_at w32 (word n ++ rest) ≡ Some n
word_again n rest fits =
    rw (enough (length (word n ++ rest)) 4 (omega arith)) (ap Some (from_be_bytes-to_be_bytes_4 n fits))

-- and one of eight without a sign
pub long_again : (n : ℕ) (rest : List ℕ) → n < 2 ^ 64 → number_at w64 (long (pos n) ++ rest) ≡ Some n
long_again n rest fits =
    rw (enough (length (long (pos n) ++ rest)) 8 (omega arith)) (ap Some (from_be_bytes-to_be_bytes_8 n fits))

-- and two of two and four bytes
pub short_word_again : (m n : ℕ) (rest : List ℕ) → FitsShort m → FitsWord n →
    pair_at w16 w32 (short m ++ word n ++ rest) ≡ Some (m, n)
short_word_again m n rest fits also =
    rw (enough (length (short m ++ word n ++ rest)) 6 (omega arith))
    (λ i. Some (from_be_bytes-to_be_bytes_2 m fits i, from_be_bytes-to_be_bytes_4 n also i))

-- and two of four bytes
pub words_again : (m n : ℕ) (rest : List ℕ) → FitsWord m → FitsWord n →
    pair_at w32 w32 (word m ++ word n ++ rest) ≡ Some (m, n)
words_again m n rest fits also =
    rw (enough (length (word m ++ word n ++ rest)) 8 (omega arith))
    (λ i. Some (from_be_bytes-to_be_bytes_4 m fits i, from_be_bytes-to_be_bytes_4 n also i))
