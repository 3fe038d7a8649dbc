-- Fields with a number are read exactly.
use Rattle.std.proofs.Common.{◌≡◌, ℕ, ◌<◌, ◌≤◌, ◌⊎◌, Bool, true, false, ◌&&◌, nat_lt, nat_le, List, [], ◌∷◌, ◌++◌, length, drop, Ok, Err, inl, inr, refl, sym, ap, append_assoc, arith, le-leb, leb-true}
use Rattle.std.specs.Prelude.{IfOk, if◌then◌else◌}
use Rattle.std.specs.Int.{Width, w8, w16, w32, byte_len, from_be_bytes, to_be_bytes}
use Rattle.std.proofs.lemmas.Bool.{and_parts, and_from}
use Rattle.std.proofs.lemmas.Bool.Decides.{nat_tests}
use Rattle.std.proofs.lemmas.List.{length-append}
use Rattle.std.proofs.lemmas.Nat.{from_be_bytes-to_be_bytes_2, from_be_bytes-to_be_bytes_4}
use Rattle.tdl_base.proofs.NumbersInBytes.{AreBytes, enough, short_of, word_of}
use Rattle.tdl_base.specs.Bytes.{short, word, FitsShort, FitsWord}
use Rattle.tdl_image.specs.Spelling.{byte}
use Rattle.tdl_decode.specs.Grammar.{Grammar, Reads, field, number, IsCutNumber, IsWrongNumber, byte_from_to, word_from_to, any_short, any_word}
use Rattle.tdl_decode.specs.Reading.{number_in, byte_in, word_in, any_short_in, any_word_in}
use Rattle.tdl_decode.proofs.Exact.{Exact, field_faults}

-- the bytes of a width are those of the numbers below a limit
pub record IsWide (w : Width) (spell : ℕ → List ℕ) (limit : ℕ) : Type 0 where
  pub len : (n : ℕ) → length (spell n) ≡ byte_len w
  pub back : (bytes : List ℕ) → byte_len w ≤ length bytes → AreBytes bytes →
      bytes ≡ spell (from_be_bytes w bytes) ++ drop (byte_len w) bytes
  pub again : (n : ℕ) (rest : List ℕ) → n < limit → from_be_bytes w (spell n ++ rest) ≡ n
  pub after : (n : ℕ) (rest : List ℕ) → drop (byte_len w) (spell n ++ rest) ≡ rest

one_back : (bytes : List ℕ) → 1 ≤ length bytes → AreBytes bytes →
    bytes ≡ byte (from_be_bytes w8 bytes) ++ drop 1 bytes
one_back [] long small = absurd (omega arith)
one_back (a ∷ more) long small = refl

two_back : (bytes : List ℕ) → 2 ≤ length bytes → AreBytes bytes →
    bytes ≡ to_be_bytes w16 (from_be_bytes w16 bytes) ++ drop 2 bytes
two_back [] long small = absurd (omega arith)
two_back (a ∷ []) long small = absurd (omega arith)
two_back (a ∷ b ∷ more) long small = ap (λ s. s ++ more) (sym (short_of a b more small))

four_back : (bytes : List ℕ) → 4 ≤ length bytes → AreBytes bytes →
    bytes ≡ to_be_bytes w32 (from_be_bytes w32 bytes) ++ drop 4 bytes
four_back [] long small = absurd (omega arith)
four_back (a ∷ []) long small = absurd (omega arith)
four_back (a ∷ b ∷ []) long small = absurd (omega arith)
four_back (a ∷ b ∷ c ∷ []) long small = absurd (omega arith)
four_back (a ∷ b ∷ c ∷ d ∷ more) long small = ap (λ s. s ++ more) (sym (word_of a b c d more small))

-- one byte
pub wide8 : IsWide w8 byte 256
wide8 = record { len = λ n. refl; back = one_back; again = λ n rest lt. refl; after = λ n rest. refl }

-- two bytes
pub wide16 : IsWide w16 short 65536
wide16 = record {
  len = λ n. refl;
  back = two_back;
  again = λ n rest lt. from_be_bytes-to_be_bytes_2 n lt;
  after = λ n rest. refl;
}

-- four bytes
pub wide32 : IsWide w32 word 4294967296
wide32 = record {
  len = λ n. refl;
  back = four_back;
  again = λ n rest lt. from_be_bytes-to_be_bytes_4 n lt;
  after = λ n rest. refl;
}

-- whether a number is in a range
in_range : (least most n : ℕ) → (nat_le least n && nat_le n most) ≡ true → (least ≤ n) × (n ≤ most)
in_range least most n e =
    let parts = and_parts (nat_le least n) (nat_le n most) e in
    (leb-true least n parts.0, leb-true n most parts.1)

ranged : (least most n : ℕ) → least ≤ n → n ≤ most → (nat_le least n && nat_le n most) ≡ true
ranged least most n low high = and_from (nat_le least n) (nat_le n most) (le-leb least n low) (le-leb n most high)

outside : (least most n : ℕ) → (nat_le least n && nat_le n most) ≡ false → (n < least) ⊎ (most < n)
outside least most n e = grind (arith, nat_tests)

beyond : (least most n : ℕ) → (n < least) ⊎ (most < n) → (nat_le least n && nat_le n most) ≡ false
beyond least most n (inl low) = grind (arith, nat_tests)
beyond least most n (inr high) = grind (arith, nat_tests)

-- what the test of two numbers says
pub too_few : (m n : ℕ) → m < n → nat_lt m n ≡ true
too_few m n h = grind (arith, nat_tests)

pub is_fewer : (m n : ℕ) → nat_lt m n ≡ true → m < n
is_fewer m n e = grind (arith, nat_tests)

pub is_enough : (m n : ℕ) → nat_lt m n ≡ false → n ≤ m
is_enough m n e = grind (arith, nat_tests)

-- what a field gives by its two tests
pub field_sound : {Y : Type 0} (P : Y × List ℕ → Type 0) (cut good : Bool) (y : Y × List ℕ) (given len : ℕ) →
    (cut ≡ false → good ≡ true → P y) →
    IfOk {E = ℕ × ℕ} (if cut then Err (2, 0) else if good then Ok y else Err (given, len)) P
field_sound P true good y given len holds = tt
field_sound P false true y given len holds = holds refl refl
field_sound P false false y given len holds = tt

-- a number that is spelled so in so many bytes
abbrev pub spelled_number : Width → (ℕ → List ℕ) → ℕ → ℕ → ℕ → Grammar ℕ
spelled_number w spell given least most = record {
  spelling = spell;
  spellable = λ n. (least ≤ n) × (n ≤ most);
  breaks = field given (IsCutNumber w) (IsWrongNumber w least most);
}

-- is read exactly
pub number-exact : (w : Width) (spell : ℕ → List ℕ) (limit : ℕ) → IsWide w spell limit → (given least most : ℕ) →
    most < limit → Exact (spelled_number w spell given least most) (number_in w given least most)
unfolding number_in
number-exact w spell limit wide given least most fits = record {
  sound = λ bytes small.
      field_sound (λ r. Reads (spelled_number w spell given least most) r.0 bytes r.1)
      (nat_lt (length bytes) (byte_len w)) _ (from_be_bytes w bytes, drop (byte_len w) bytes) given (length bytes)
      (λ long good. record {
        lawful = in_range least most (from_be_bytes w bytes) good;
        front = wide.back bytes (is_enough _ _ long) small;
      });
  again = again;
  faults = λ bytes small.
      field_faults given (IsCutNumber w) (IsWrongNumber w least most) bytes (nat_lt (length bytes) (byte_len w)) _ _
      (λ e. is_fewer _ _ e)
      (λ long bad. (is_enough _ _ long, outside least most (from_be_bytes w bytes) bad))
      (λ cut. too_few _ _ cut)
      (λ wrong. (enough _ _ wrong.0, beyond least most (from_be_bytes w bytes) wrong.1));
}
  where
    again : (n : ℕ) (rest : List ℕ) → (least ≤ n) × (n ≤ most) →
        number_in w given least most (spell n ++ rest) ≡ Ok (n, rest)
    again n rest lawful =
        let long : byte_len w ≤ length (spell n ++ rest) =
        omega (arith, wide.len n, length-append (spell n) rest) in
        let same = wide.again n rest (omega (arith, lawful.0, lawful.1)) in
        rw (enough _ _ long, same, ranged least most n lawful.0 lawful.1, wide.after n rest) refl

-- the numbers of one, two and four bytes
pub byte-exact : (least most : ℕ) → most < 256 → Exact (byte_from_to least most) (byte_in least most)
byte-exact least most fits = number-exact w8 byte 256 wide8 4 least most fits

pub short-exact : (given least most : ℕ) → most < 65536 → Exact (number w16 given least most) (number_in w16 given least most)
short-exact given least most fits = number-exact w16 short 65536 wide16 given least most fits

pub word-exact : (least most : ℕ) → most < 4294967296 → Exact (word_from_to least most) (word_in least most)
word-exact least most fits = number-exact w32 word 4294967296 wide32 4 least most fits

pub any_short-exact : Exact any_short any_short_in
any_short-exact = short-exact 4 0 65535 (omega arith)

pub any_word-exact : Exact any_word any_word_in
any_word-exact = word-exact 0 4294967295 (omega arith)

-- a number of two bytes or of four is one that fits them
pub fits_short : {n : ℕ} → (0 ≤ n) × (n ≤ 65535) → FitsShort n
fits_short p = omega (arith, p.1)

pub short_fits : {n : ℕ} → FitsShort n → (0 ≤ n) × (n ≤ 65535)
short_fits p = (omega arith, omega (arith, p))

pub fits_word : {n : ℕ} → (0 ≤ n) × (n ≤ 4294967295) → FitsWord n
fits_word p = omega (arith, p.1)

pub word_fits : {n : ℕ} → FitsWord n → (0 ≤ n) × (n ≤ 4294967295)
word_fits p = (omega arith, omega (arith, p))

-- texts one after the other, before a rest
pub seq2 : (a b r : List ℕ) → a ++ (b ++ r) ≡ (a ++ b) ++ r
seq2 a b r = simp append_assoc

pub seq3 : (a b c r : List ℕ) → a ++ (b ++ (c ++ r)) ≡ (a ++ b ++ c) ++ r
seq3 a b c r = simp append_assoc

pub seq4 : (a b c d r : List ℕ) → a ++ (b ++ (c ++ (d ++ r))) ≡ (a ++ b ++ c ++ d) ++ r
seq4 a b c d r = simp append_assoc

pub seq5 : (a b c d e r : List ℕ) → a ++ (b ++ (c ++ (d ++ (e ++ r)))) ≡ (a ++ b ++ c ++ d ++ e) ++ r
seq5 a b c d e r = simp append_assoc

pub seq6 : (a b c d e f r : List ℕ) → a ++ (b ++ (c ++ (d ++ (e ++ (f ++ r))))) ≡ (a ++ b ++ c ++ d ++ e ++ f) ++ r
seq6 a b c d e f r = simp append_assoc

pub seq_hosted : (a b c d e f g h i j k l m r : List ℕ) →
    a ++ (b ++ (c ++ (d ++ (e ++ (f ++ (g ++ (h ++ (i ++ (j ++ (k ++ (l ++ (m ++ r))))))))))))
    ≡ ((a ++ b ++ c ++ d ++ e ++ f) ++ (g ++ h ++ i ++ j) ++ (k ++ l ++ m)) ++ r
seq_hosted a b c d e f g h i j k l m r = simp append_assoc
