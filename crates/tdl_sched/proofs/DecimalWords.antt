-- Decimal numbers: they are words, and are read again.
use Rattle.std.proofs.Common.{◌≡◌, ◌<◌, ◌≤◌, ◌+◌, ◌-◌, ◌*◌, ◌/◌, ◌%◌, ◌^◌, ℕ, true, ◌&&◌, List, [], ◌∷◌, ◌++◌, length, Some, refl, ap, ◌∙◌, arith}
use Rattle.std.specs.Prelude.{nat_le}
use Rattle.std.specs.Char.{is_ascii_digit}
use Rattle.std.specs.Fmt.{decimal}
use Rattle.std.specs.List.{list_all}
use Rattle.std.proofs.lemmas.Bool.{and_from, le-leb}
use Rattle.std.proofs.lemmas.Bool.Decides.{nat_tests}
use Rattle.std.proofs.lemmas.Fmt.{decimal_by_steps, decimal_nonempty, length-decimal-le}
use Rattle.std.proofs.lemmas.List.Folds.{list_all-append}
use Rattle.std.proofs.lemmas.List.Sums.{fold-append}
use Rattle.tdl_scen.specs.Lines.{value_of_digits, is_decimal, number_of}
use Rattle.tdl_sched.proofs.PlainWords.{IsPlain, is_plain_byte, all_weaker}

-- digits that write a number
record Writes (n : ℕ) (ds : List ℕ) : Type 0 where
  digits : list_all is_ascii_digit ds ≡ true
  value : value_of_digits ds ≡ n

-- a digit
is_digit : (d : ℕ) → d < 10 → is_ascii_digit (48 + d) ≡ true
is_digit d few = grind (arith, nat_tests)

-- a digit is printable
plain_digit : (b : ℕ) → is_ascii_digit b ≡ true → is_plain_byte b ≡ true
plain_digit b digit = grind (arith, nat_tests)

-- one digit
one_digit : (n : ℕ) → n < 10 → Writes n ((48 + n) ∷ [])
one_digit n few = record {
  digits = and_from (is_ascii_digit (48 + n)) true (is_digit n few) refl;
  value = omega arith;
}

-- one more digit
more_digits : (n : ℕ) (ds : List ℕ) → 10 ≤ n → Writes (n / 10) ds → Writes n (ds ++ ((48 + n % 10) ∷ []))
more_digits n ds many w = record {
  digits = list_all-append is_ascii_digit ds ((48 + n % 10) ∷ [])
      ∙ and_from (list_all is_ascii_digit ds) (is_ascii_digit (48 + n % 10) && true) w.digits
      (and_from (is_ascii_digit (48 + n % 10)) true (is_digit (n % 10) (omega arith)) refl);
  value = fold-append (λ m digit. 10 * m + (digit - 48)) 0 ds ((48 + n % 10) ∷ [])
      ∙ ap (λ (m : ℕ). 10 * m + ((48 + n % 10) - 48)) w.value
      ∙ omega arith;
}

-- what is printed of a number writes it
writes : (n : ℕ) → n < 2 ^ 64 → Writes n (decimal n)
writes n fits = decimal_by_steps Writes one_digit more_digits n fits

-- a decimal word is read as its number
number_of-word : (word : List ℕ) (n : ℕ) → is_decimal word ≡ true → value_of_digits word ≡ n → number_of word ≡ Some n
number_of-word word n is value = rw (is, value) refl

-- a number of 32 bits is read again
pub number_of-decimal : (n : ℕ) → n < 2 ^ 32 → number_of (decimal n) ≡ Some n
number_of-decimal n fits =
    let w = writes n (omega (arith, fits)) in
    let some : 0 < length (decimal n) = decimal_nonempty n (omega (arith, fits)) in
    let few : length (decimal n) ≤ 10 =
    length-decimal-le 10 n (omega arith) (omega (arith, fits)) (omega (arith, fits)) in
    number_of-word (decimal n) n
    (and_from (nat_le 1 (length (decimal n)) && nat_le (length (decimal n)) 19) (list_all is_ascii_digit (decimal n))
    (and_from (nat_le 1 (length (decimal n))) (nat_le (length (decimal n)) 19)
    (le-leb 1 (length (decimal n)) (omega (arith, some))) (le-leb (length (decimal n)) 19 (omega (arith, few))))
    w.digits) w.value

-- it is a word
pub decimal-plain : (n : ℕ) → n < 2 ^ 32 → IsPlain (decimal n)
decimal-plain n fits = record {
  some = decimal_nonempty n (omega (arith, fits));
  bytes = all_weaker is_ascii_digit is_plain_byte plain_digit (decimal n) (writes n (omega (arith, fits))).digits;
}

-- it has ten digits at most
pub decimal-short : (n : ℕ) → n < 2 ^ 32 → length (decimal n) ≤ 10
decimal-short n fits = length-decimal-le 10 n (omega arith) (omega (arith, fits)) (omega (arith, fits))
